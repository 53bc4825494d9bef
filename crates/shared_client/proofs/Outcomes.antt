-- From a turn that was played, what its call's function promises.
use Rattle.std.proofs.Common.{◌≡◌, ◌≤◌, [], ◌∷◌, Bool, true, false, refl, sym, ap, subst, ◌∙◌, Some}
use Rattle.std.proofs.Common.{None, inl, inr, arith}
use Rattle.std.specs.Prelude.{Option}
use Rattle.turn_lock.specs.History.{past_after}
use Rattle.turn_lock.specs.declared.rule.TheConstants.{LAST_TICKET}
use Rattle.turn_lock.specs.Own.{Grows}
use Rattle.turn_lock.specs.Turns.{Plays}
use Rattle.turn_lock.proofs.Turning.{grows_by, ends_by}
use Rattle.resp_value.specs.declared.value.Value.{Value}
use Rattle.shared_cache.specs.declared.log.Wire.{Wire}
use Rattle.shared_cache.specs.declared.log.LogEntry.{LogEntry}
use Rattle.shared_cache.specs.declared.log.LogEntry.TheVariants as entry
use Rattle.shared_cache.specs.declared.log.ClientCall.{ClientCall}
use Rattle.shared_cache.specs.declared.log.ClientCall.TheVariants.{Got, End}
use Rattle.shared_cache.specs.declared.log.ClientReply.{ClientReply}
use Rattle.shared_cache.specs.declared.log.ClientReply.TheVariants.{Noted, Refused}
use Rattle.shared_cache.specs.declared.log.ClientRefusal.{ClientRefusal}
use Rattle.shared_cache.specs.declared.log.ClientRefusal.TheVariants.{Down, Unexpected, BadPush}
use Rattle.shared_cache.specs.declared.log.ClientRefusal.TheVariants.{NoMemory, LogFull}
use Rattle.shared_cache.specs.declared.log.ClientRefusal.TheVariants.{SetupRefused, NotReady}
use Rattle.shared_cache.specs.declared.log.ClientRefusal.TheVariants.{Control, NoNumber, Worn}
use Rattle.shared_cache.specs.Steps.{client_step, MayRunOut}
use Rattle.shared_client.specs.Setups.{setup_of, TurnStep}
use Rattle.shared_client.specs.Turns.{Place, setup_in, setup_at, Adds, Stays, RunsOut, WornOut}
use Rattle.shared_client.specs.Turns.{LeftBy, Refuses, EndsBy, GetsNot, Ends}
use Rattle.shared_client.proofs.Did.{Says, Adding, says, comes, entry_by, is_no_memory, stepped}

module _ {before after : Place} {call : ClientCall} {reply : ClientReply}
    (p : Plays TurnStep call reply before after) where
  setup_is : setup_of p.setup ≡ setup_at before
  setup_is = ap setup_in (sym p.setup_is)

  said : Says call p.past reply (past_after p.past p.added)
  said = says (setup_of p.setup) p.past call reply (past_after p.past p.added) p.did.0

  -- but for want of memory, with the entry that was added, or none
  did_here : (e : Option LogEntry) → past_after p.past p.added ≡ past_after p.past e
      → is_no_memory reply ≡ false
      → client_step (setup_at before) p.past call
      ≡ record { reply = reply; past = past_after p.past e }
  did_here e is room = grind (arith, setup_is, stepped)

  adds_one : (e : LogEntry) → past_after p.past p.added ≡ e ∷ p.past → is_no_memory reply ≡ false
      → Adds call reply e before after
  adds_one e one room = record {
    past = p.past;
    begins = p.begins;
    step = did_here (Some e) one room;
    grows = grows_by p (Some e) one;
    ends = ends_by p (Some e) one;
  }

  stays_so : past_after p.past p.added ≡ p.past → is_no_memory reply ≡ false
      → Stays call reply before after
  stays_so none room = record {
    step = subst (λ l. client_step (setup_at before) l call ≡ record { reply = reply; past = l })
        (sym (ends_by p None none)) (did_here None none room);
    grows = grows_by p None none;
  }

-- an End alone adds an entry, or none, by what it found
abbrev pub is_end : ClientCall → Bool
is_end (End w) = true
is_end call = false

adding_is : (call : ClientCall) (reply : ClientReply) (e : Option LogEntry)
    → Adding call reply e → is_end call ≡ false → e ≡ entry_by call reply
adding_is (End w) reply e is other = absurd (let bad : ⊥ = cc in bad)
adding_is call reply e is other = is

module _ (before after : Place) (call : ClientCall) where
  module _ (reply : ClientReply) (p : Plays TurnStep call reply before after)
      (other : is_end call ≡ false) where
    entry_is : past_after p.past p.added ≡ past_after p.past (entry_by call reply)
    entry_is =
        let (known, meets, e, adding, is) = said p in
        is ∙ ap (past_after p.past) (adding_is call reply e adding other)

    pub adds : (e : LogEntry) → entry_by call reply ≡ Some e → is_no_memory reply ≡ false
        → Adds call reply e before after
    adds e one room = adds_one p e (entry_is ∙ ap (past_after p.past) one) room

    pub stays : entry_by call reply ≡ None → is_no_memory reply ≡ false
        → Stays call reply before after
    stays none room = stays_so p (entry_is ∙ ap (past_after p.past) none) room

  -- a reply that does not come
  pub never : (reply : ClientReply) → Plays TurnStep call reply before after
      → comes call reply ≡ false → ⊥
  never reply p not = let known = (said p).0 in cc

  pub worn_out : Grows before after [] → LAST_TICKET ≤ after.tickets → WornOut before after
  worn_out g t = record { tickets = t; grows = g }

  -- ---- refusals

  runs_out : (p : Plays TurnStep call (Refused NoMemory) before after) → RunsOut call before after
  runs_out p = record {
    needs = subst (λ l. MayRunOut (setup_at before) l call) (sym (ends_by p None p.did.0.1))
        (subst (λ s. MayRunOut s p.past call) (setup_is p) p.did.0.0);
    grows = grows_by p None p.did.0.1;
  }

  left_by : (r : ClientRefusal) → Plays TurnStep call (Refused r) before after
      → is_end call ≡ false → entry_by call (Refused r) ≡ None → LeftBy call r before after
  left_by (Down w) p o none = stays (Refused (Down w)) p o none refl
  left_by (Unexpected w) p o none = stays (Refused (Unexpected w)) p o none refl
  left_by (BadPush w) p o none = stays (Refused (BadPush w)) p o none refl
  left_by NoMemory p o none = runs_out p
  left_by (LogFull n) p o none = stays (Refused (LogFull n)) p o none refl
  left_by (SetupRefused w) p o none = stays (Refused (SetupRefused w)) p o none refl
  left_by NotReady p o none = stays (Refused NotReady) p o none refl
  left_by Control p o none = stays (Refused Control) p o none refl
  left_by (NoNumber n) p o none = stays (Refused (NoNumber n)) p o none refl
  left_by Worn p o none = absurd ((said p).1.1 tt)

  pub refuses : (r : ClientRefusal) (reply : ClientReply) → reply ≡ Refused r
      → Plays TurnStep call reply before after → is_end call ≡ false
      → entry_by call (Refused r) ≡ None → Refuses call r before after
  refuses r reply same p o none =
      let q = subst (λ z. Plays TurnStep call z before after) same p in
      ((said q).1.0, left_by r q o none)

module _ (before after : Place) (w : Wire) where
  -- a value that ends the link adds an entry that says so
  pub gets_not : (v : Value) (r : ClientRefusal) (reply : ClientReply) → reply ≡ Refused r
      → Plays TurnStep (Got w v) reply before after → GetsNot w v r before after
  gets_not v r reply same p =
      by_case r (subst (λ z. Plays TurnStep (Got w v) z before after) same p)
    where
      kept : (r : ClientRefusal) → Plays TurnStep (Got w v) (Refused r) before after
          → entry_by (Got w v) (Refused r) ≡ None → Refuses (Got w v) r before after
      kept r p = refuses before after (Got w v) r (Refused r) refl p refl

      bad : (r : ClientRefusal) → Plays TurnStep (Got w v) (Refused r) before after
          → entry_by (Got w v) (Refused r) ≡ Some (entry.Bad w v)
          → is_no_memory (Refused r) ≡ false → EndsBy w v r before after
      bad r p = adds before after (Got w v) (Refused r) p refl (entry.Bad w v)

      by_case : (r : ClientRefusal) → Plays TurnStep (Got w v) (Refused r) before after
          → GetsNot w v r before after
      by_case (Unexpected u) p = bad (Unexpected u) p refl refl
      by_case (BadPush u) p = bad (BadPush u) p refl refl
      by_case (SetupRefused u) p = bad (SetupRefused u) p refl refl
      by_case (Down u) p = kept (Down u) p refl
      by_case NoMemory p = kept NoMemory p refl
      by_case (LogFull n) p = kept (LogFull n) p refl
      by_case NotReady p = kept NotReady p refl
      by_case Control p = kept Control p refl
      by_case (NoNumber n) p = kept (NoNumber n) p refl
      by_case Worn p = kept Worn p refl

  pub ends : (reply : ClientReply) → reply ≡ Noted → Plays TurnStep (End w) reply before after
      → Ends w before after
  ends reply same p =
      let q = subst (λ z. Plays TurnStep (End w) z before after) same p in
      let (known, meets, e, adding, is) = said q in
      elim adding [
        | inl one ↦ inl (adds_one q (entry.End w) (is ∙ ap (past_after q.past) one) refl)
        | inr none ↦ inr (stays_so q (is ∙ ap (past_after q.past) none) refl)
      ]

pub ruleset outcomes = (adds, stays, never, refuses, gets_not, ends, worn_out)
