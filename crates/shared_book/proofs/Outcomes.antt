-- From a turn that was played, what its call's function promises.
use Rattle.std.proofs.Common.{◌≡◌, ◌≤◌, ◌<◌, ℕ, List, [], ◌∷◌, length, max, take, true, false, refl}
use Rattle.std.proofs.Common.{sym, ap, subst, ◌∙◌, arith, Some, None, inl, inr, suc}
use Rattle.turn_lock.specs.History.{entries, past_after}
use Rattle.turn_lock.specs.declared.rule.TheConstants.{LAST_TICKET}
use Rattle.turn_lock.specs.Own.{past_of, Grows}
use Rattle.turn_lock.specs.Turns.{Plays}
use Rattle.turn_lock.proofs.Turning.{grows_by, ends_by}
use Rattle.serial_model.specs.declared.history.Limits.{Limits}
use Rattle.serial_model.specs.declared.history.Entry.{Entry}
use Rattle.serial_model.specs.declared.history.Entry.TheVariants as entry
use Rattle.serial_model.specs.declared.history.BookCall.{BookCall}
use Rattle.serial_model.specs.declared.history.BookCall.TheVariants.{Admit, Run, Tick, Take, Close}
use Rattle.serial_model.specs.declared.history.BookReply.{BookReply}
use Rattle.serial_model.specs.declared.history.BookReply.TheVariants.{Admitted, Ran, Ticked, Quiet}
use Rattle.serial_model.specs.declared.history.BookReply.TheVariants.{Bytes, Closed, Refused}
use Rattle.serial_model.specs.declared.history.BookRefusal.{BookRefusal}
use Rattle.serial_model.specs.declared.history.BookRefusal.TheVariants.{Gone, NoMemory, Stopped}
use Rattle.serial_model.specs.History.{expired, gives_on, is_stopped, latest, reads_on, runs_on}
use Rattle.serial_model.specs.History.{unsent}
use Rattle.serial_model.specs.Steps.{BookStep}
use Rattle.shared_book.specs.Turns.{Place, BookTurn, limits_of, limits_in, Refuses, Admits, Runs}
use Rattle.shared_book.specs.Turns.{PlaysOne, TurnStep}
use Rattle.shared_book.specs.Turns.{Gives, Rests, Ticks, Closes, May, IsCause, IsCloseCause}
use Rattle.shared_book.specs.Turns.{IsServerCause}
use Rattle.shared_book.specs.Batches.{refusal_by}
use Rattle.shared_book.specs.declared.logged.Answer.{Answer}
use Rattle.shared_book.specs.declared.logged.Answer.TheVariants.{Told, Held}
use Rattle.shared_book.specs.declared.turns.Refusal.TheVariants as refusal
use Rattle.shared_book.proofs.Histories.{kept_by}
use Rattle.shared_book.proofs.Did.{Said, says, comes, named, may_of}

nothing_waits : (n : ℕ) (xs : List ℕ) → 0 < n → take n xs ≡ [] → xs ≡ []
nothing_waits n xs lt h = grind arith

some_taken : (n : ℕ) (xs : List ℕ) → 0 < length (take n xs) → 0 < length xs
some_taken n xs some = grind arith

pub entries_long : {E : Type 0} (h : List (ℕ × E)) → length (entries h) ≡ length h
entries_long [] = refl
entries_long (e ∷ h) = ap suc (entries_long h)

module _ {before after : Place} {call : BookCall} {reply : BookReply}
    (p : Plays BookTurn call reply before after) where
  did_here : BookStep (limits_of before) p.past call reply (past_after p.past p.added)
  did_here = subst (λ l. BookTurn l p.past call reply p.added) (ap limits_in (sym p.setup_is)) p.did

  said : Said (limits_of before) p.past call reply (past_after p.past p.added)
  said = says (limits_of before) p.past call reply (past_after p.past p.added) did_here

  -- none was added
  module _ (none : past_after p.past p.added ≡ p.past) where
    stays : Grows before after []
    stays = grows_by p None none

    -- what is shown where the turn was played, the seat shows after it
    seen_after : (P : Limits → List Entry → Type 0) → P (limits_of before) p.past
        → P (limits_of after) (past_of after)
    seen_after P h = grind (arith, ends_by)

    ends_same : past_of after ≡ p.past
    ends_same = ends_by p None none

module _ (before after : Place) (call : BookCall) where
  -- a reply that does not come
  pub never : (reply : BookReply) → Plays BookTurn call reply before after
      → comes call reply ≡ false → ⊥
  never reply p not = let known = (said p).0 in cc

  -- ---- refusals

  -- a turn of a connection, which by the history may not take it any more
  pub refuses : (may : May) (id : ℕ)
      → ((l : Limits) (past : List Entry) → may_of call l past (named call) ≡ false
      → may l past id ≡ false)
      → comes call (Refused Stopped) ≡ false → (r : BookRefusal)
      → Plays BookTurn call (Refused r) before after
      → Refuses (IsCause may id) (refusal_by r) before after
  refuses may id off on NoMemory p =
      let (known, e, s, is) = said p in
      record { grows = stays p (is ∙ ap (past_after p.past) s); cause_is = tt }
  refuses may id off on (Gone n) p =
      let (known, e, s, is) = said p in
      let none = is ∙ ap (past_after p.past) s.0 in
      record {
        grows = stays p none;
        cause_is = seen_after p none (λ l x. may l x id ≡ false)
            (off (limits_of before) p.past s.1);
      }
  refuses may id off on Stopped p = absurd (never (Refused Stopped) p on)

  -- a turn that is of none
  pub refuses_server : ((n : ℕ) → comes call (Refused (Gone n)) ≡ false) → (r : BookRefusal)
      → Plays BookTurn call (Refused r) before after
      → Refuses IsServerCause (refusal_by r) before after
  refuses_server on NoMemory p =
      let (known, e, s, is) = said p in
      record { grows = stays p (is ∙ ap (past_after p.past) s); cause_is = tt }
  refuses_server on (Gone n) p = absurd (never (Refused (Gone n)) p (on n))
  refuses_server on Stopped p =
      let (known, e, s, is) = said p in
      let none = is ∙ ap (past_after p.past) s.0 in
      record {
        grows = stays p none;
        cause_is = seen_after p none (λ l x. is_stopped l x ≡ true) s.1;
      }

-- no ticket is left
module _ (before after : Place) (g : Grows before after []) (worn : LAST_TICKET ≤ after.tickets)
  where
    pub worn_server : Refuses IsServerCause refusal.Worn before after
    worn_server = record { grows = g; cause_is = worn }

    pub worn_turn : (may : May) (id : ℕ) → Refuses (IsCause may id) refusal.Worn before after
    worn_turn may id = record { grows = g; cause_is = worn }

    pub worn_close : (id : ℕ) → Refuses (IsCloseCause id) refusal.Worn before after
    worn_close id = record { grows = g; cause_is = worn }

module _ (before after : Place) where
  pub admit_memory : Plays BookTurn Admit (Refused NoMemory) before after
      → Refuses IsServerCause refusal.NoMemory before after
  admit_memory p = refuses_server before after Admit (λ n. refl) NoMemory p

  pub admit_stopped : Plays BookTurn Admit (Refused Stopped) before after
      → Refuses IsServerCause refusal.Stopped before after
  admit_stopped p = refuses_server before after Admit (λ n. refl) Stopped p

  pub tick_memory : (now : ℕ) → Plays BookTurn (Tick now) (Refused NoMemory) before after
      → Refuses IsServerCause refusal.NoMemory before after
  tick_memory now p = refuses_server before after (Tick now) (λ n. refl) NoMemory p

  pub tick_stopped : (now : ℕ) → Plays BookTurn (Tick now) (Refused Stopped) before after
      → Refuses IsServerCause refusal.Stopped before after
  tick_stopped now p = refuses_server before after (Tick now) (λ n. refl) Stopped p

  pub run_refuses : (id : ℕ) (words : List (List ℕ)) (now : ℕ) (r : BookRefusal)
      → Plays BookTurn (Run id words now) (Refused r) before after
      → Refuses (IsCause runs_on id) (refusal_by r) before after
  run_refuses id words now r p =
      refuses before after (Run id words now) runs_on id (λ l past h. h) refl r p

  pub run_gone : (id : ℕ) (words : List (List ℕ)) (now n : ℕ)
      → Plays BookTurn (Run id words now) (Refused (Gone n)) before after
      → Refuses (IsCause runs_on id) refusal.Dropped before after
  run_gone id words now n p = run_refuses id words now (Gone n) p

  pub run_memory : (id : ℕ) (words : List (List ℕ)) (now : ℕ)
      → Plays BookTurn (Run id words now) (Refused NoMemory) before after
      → Refuses (IsCause runs_on id) refusal.NoMemory before after
  run_memory id words now p = run_refuses id words now NoMemory p

  pub take_refuses : (id most : ℕ) (r : BookRefusal)
      → Plays BookTurn (Take id most) (Refused r) before after
      → Refuses (IsCause gives_on id) (refusal_by r) before after
  take_refuses id most r p =
      refuses before after (Take id most) gives_on id (λ l past h. h) refl r p

  pub take_gone : (id most n : ℕ) → Plays BookTurn (Take id most) (Refused (Gone n)) before after
      → Refuses (IsCause gives_on id) refusal.Dropped before after
  take_gone id most n p = take_refuses id most (Gone n) p

  pub take_memory : (id most : ℕ)
      → Plays BookTurn (Take id most) (Refused NoMemory) before after
      → Refuses (IsCause gives_on id) refusal.NoMemory before after
  take_memory id most p = take_refuses id most NoMemory p

  pub admits : (n id : ℕ) → Plays BookTurn Admit (Admitted n id) before after
      → Admits id before after
  admits n id p =
      let (known, e, s, is) = said p in
      grind (arith, grows_by, ends_by)

  pub runs : (id : ℕ) (words : List (List ℕ)) (now n : ℕ)
      → Plays BookTurn (Run id words now) (Ran n) before after → Runs id words now before after
  runs id words now n p =
      let (known, e, s, is) = said p in
      grind (arith, max, grows_by, ends_by)

  pub run_number : (id : ℕ) (words : List (List ℕ)) (now n : ℕ)
      → Plays BookTurn (Run id words now) (Ran n) before after → n ≡ length after.seen
  run_number id words now n p =
      let (known, e, s, is) = said p in
      grind (arith, max, ends_by, entries_long)

  pub gives : (id most n : ℕ) (bytes : List ℕ)
      → Plays BookTurn (Take id most) (Bytes n bytes) before after
      → Gives id most bytes before after × (0 < length bytes)
  gives id most n bytes p =
      let (known, e, s, is) = said p in
      let one = is ∙ ap (past_after p.past) s.0 in (
        record {
          past = p.past;
          begins = p.begins;
          given = s.1;
          keeps = kept_by (limits_of before) id p.past s.2
              (some_taken most (unsent (limits_of before) id p.past)
              (subst (λ z. 0 < length z) s.1 s.3));
          grows = grows_by p (Some (entry.Take id most)) one;
          ends = ends_by p (Some (entry.Take id most)) one;
        },
        s.3,
      )

  pub rests : (id most : ℕ) → 0 < most → Plays BookTurn (Take id most) Quiet before after
      → Rests id before after
  rests id most pos p =
      let (known, e, s, is) = said p in
      let none = is ∙ ap (past_after p.past) s.0 in
      let l = limits_of before in
      record {
        none = grind (arith, ends_same, nothing_waits);
        gives = ap (λ x. gives_on l x id) (ends_same p none) ∙ s.2;
        grows = stays p none;
      }

  pub ticks : (now n : ℕ) → Plays BookTurn (Tick now) (Ticked n) before after
      → Ticks now before after
  ticks now n p =
      let (known, e, s, is) = said p in
      let one = is ∙ ap (past_after p.past) s.0 in
      let x = entry.Tick (max now (latest p.past)) in
      inl (record {
        past = p.past;
        begins = p.begins;
        due = s.1;
        grows = grows_by p (Some x) one;
        ends = ends_by p (Some x) one;
      })

  pub ticks_not : (now : ℕ) → Plays BookTurn (Tick now) Quiet before after → Ticks now before after
  ticks_not now p =
      let (known, e, s, is) = said p in
      let none = is ∙ ap (past_after p.past) s.0 in
      inr (record {
        none = ap (λ x. expired (limits_of before) x (max now (latest x))) (ends_same p none) ∙ s.1;
        grows = stays p none;
      })

  pub closes : (id n : ℕ) → Plays BookTurn (Close id) (Closed n) before after
      → Closes id before after
  closes id n p =
      let (known, e, s, is) = said p in
      let one = is ∙ ap (past_after p.past) s.0 in
      record {
        past = p.past;
        begins = p.begins;
        keeps = s.1;
        grows = grows_by p (Some (entry.Close id)) one;
        ends = ends_by p (Some (entry.Close id)) one;
      }

  pub close_gone : (id n : ℕ) → Plays BookTurn (Close id) (Refused (Gone n)) before after
      → Refuses (IsCloseCause id) refusal.Dropped before after
  close_gone id n p =
      let r = refuses before after (Close id) reads_on id (λ l past h. h) refl (Gone n) p in
      record { grows = r.grows; cause_is = r.cause_is }

-- a turn under the lock is one of the book, or the call comes back
pub plays_one : (call : BookCall) (answer : Answer) (before after : Place)
    → Plays TurnStep call answer before after → PlaysOne call answer before after
plays_one call (Told reply) before after p = record {
  setup = p.setup;
  setup_is = p.setup_is;
  past = p.past;
  added = p.added;
  begins = p.begins;
  did = p.did;
  ends = p.ends;
  grows = p.grows;
}
plays_one call (Held back) before after p =
    (p.did.0, p.did.1, grows_by p None (ap (past_after p.past) p.did.2))

pub ruleset admitting = (admits, admit_memory, admit_stopped, worn_server, never)

pub ruleset running = (runs, run_number, run_gone, run_memory, worn_turn, never)

pub ruleset taking = (take_gone, take_memory, worn_turn, never)

pub ruleset ticking = (ticks, ticks_not, tick_memory, tick_stopped, worn_server, never)

pub ruleset closing = (closes, close_gone, worn_close, never)
