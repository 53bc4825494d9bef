-- Several requests of a connection and the Take behind them, in one batch.
use Rattle.std.proofs.Common.{◌≡◌, ◌≤◌, ◌<◌, ◌+◌, ℕ, suc, List, [], ◌∷◌, ◌++◌, length, take, true}
use Rattle.std.proofs.Common.{refl, sym, ap, subst, ◌∙◌, arith, Some, None, length-append}
use Rattle.std.proofs.Common.{append-nil, append_assoc, false, inl, inr, ne_eqb}
use Rattle.std.specs.Prelude.{Option}
use Rattle.std.specs.List.{All}
use Rattle.std.proofs.lemmas.List.Elements.{All-nil, All-cons, All-head, All-tail}
use Rattle.turn_lock.specs.History.{IsPrefix, history_after, own_after}
use Rattle.turn_lock.specs.Seats.{IsSameSeat, Turned, TurnedAll, StopsAt}
use Rattle.turn_lock.proofs.Turns.{drawn_before}
use Rattle.serial_model.specs.declared.history.Limits.{Limits}
use Rattle.serial_model.specs.declared.history.Entry.{Entry}
use Rattle.serial_model.specs.declared.history.BookCall.{BookCall}
use Rattle.serial_model.specs.declared.history.BookCall.TheVariants.{Run, Take}
use Rattle.serial_model.specs.declared.history.BookReply.TheVariants.{Admitted, Ran, Ticked, Quiet}
use Rattle.serial_model.specs.declared.history.BookReply.TheVariants.{Bytes, Closed, Refused}
use Rattle.serial_model.specs.declared.history.BookRefusal.{BookRefusal}
use Rattle.serial_model.specs.History.{gives_on, is_admitted, runs_on}
use Rattle.turn_lock.specs.Own.{past_of, IsWithin, Within, Grows}
use Rattle.turn_lock.specs.Turns.{Plays}
use Rattle.resp_value.specs.declared.octets.Octets.{Octets}
use Rattle.shared_book.specs.Turns.{May, Place, TurnStep, Runs, Takes, IsCause}
use Rattle.shared_book.specs.Turns.{limits_in, limits_of, most}
use Rattle.shared_book.specs.declared.logged.Answer.{Answer}
use Rattle.shared_book.specs.declared.logged.Answer.TheVariants.{Told, Held}
use Rattle.shared_book.specs.declared.turns.Refusal.{Refusal}
use Rattle.shared_book.specs.declared.turns.Refusal.TheVariants as refusal
use Rattle.shared_book.specs.declared.batch.BatchEnd.{BatchEnd}
use Rattle.shared_book.specs.declared.batch.BatchEnd.TheVariants as ends
use Rattle.shared_book.specs.Batches.{IsRunAt, requests_in, RunsEach, RunsAndTakes, RunsFirst}
use Rattle.shared_book.specs.Batches.{HoldsBack, EndsSo, refusal_by, ran_in, IsOfRun, IsOfTake}
use Rattle.shared_book.specs.Batches.{Counts, IsLast, Tells, ends_batch}
use Rattle.turn_lock.proofs.Owning.{within_begins}
use Rattle.turn_lock.proofs.Turning.{plays}
use Rattle.turn_lock.proofs.Growing.{grows_none, grows_then, grows_past}
use Rattle.shared_book.proofs.Histories.{begins_lift, admitted_more, runs_off}
use Rattle.shared_book.proofs.Histories.{no_runs_ungiven}
use Rattle.shared_book.proofs.Outcomes.{entries_long, never, runs, run_number, gives, rests}
use Rattle.shared_book.proofs.Outcomes.{plays_one, run_refuses, take_refuses}

-- ---- the turns of a batch

within_turn : (n : ℕ) (a h : List (ℕ × Entry)) (own : List ℕ) (e : Option Entry) → IsPrefix a h
    → Within a own → Within (history_after n h e) (own_after own (length h) e)
within_turn n a h own None more is p le = within_begins a h own more is p le
within_turn n a h own (Some x) more is p le =
    let z = within_begins a h own more is p (omega arith) in
    grind (arith, ne_eqb)

-- what a connection that was admitted may not do any more, it never may
Lasts : May → ℕ → Type 0
Lasts may id = (l : Limits) (e : Entry) (past : List Entry) → is_admitted past id ≡ true
    → may l past id ≡ false → may l (e ∷ past) id ≡ false

cause_more : (may : May) (id : ℕ) → Lasts may id → (e : Refusal) (k l : Place)
    → is_admitted (past_of k) id ≡ true → Grows k l [] → IsCause may id e k → IsCause may id e l
unfolding Lasts
cause_more may id lasts refusal.Dropped k l on g h =
    subst (λ z. may z (past_of l) id ≡ false) (sym (ap limits_in g.setup))
    (begins_lift (λ past. (is_admitted past id ≡ true) × (may (limits_of k) past id ≡ false))
    (λ e past two. (admitted_more id e past two.0, lasts (limits_of k) e past two.0 two.1))
    (past_of k) (past_of l) (grows_past k l [] g) (on, h)).1
cause_more may id lasts refusal.NoMemory k l on g h = h
cause_more may id lasts refusal.Worn k l on g h = omega (arith, h, g.tickets)
cause_more may id lasts refusal.Stopped k l on g h = absurd h

-- one that may take nothing runs nothing
pub ungiven_unrun : (id : ℕ) (e : Refusal) (k : Place) → IsCause gives_on id e k
    → IsCause runs_on id e k
ungiven_unrun id refusal.Dropped k h = no_runs_ungiven (limits_of k) id (past_of k) h
ungiven_unrun id refusal.NoMemory k h = h
ungiven_unrun id refusal.Worn k h = h
ungiven_unrun id refusal.Stopped k h = h

pub grows_into : (a b c : Place) → Grows a b [] → Grows b c [] → Grows a c []
grows_into a b c p q = grows_then a b c [] [] p q

-- a refusal is nothing to what ran before
pub each_then : (id now : ℕ) (ws : List (List (List ℕ))) (a b c : Place) → RunsEach id now ws a b
    → Grows b c [] → RunsEach id now ws a c
each_then id now [] a b c h g = grows_into a b c h g
each_then id now (w ∷ ws) a b c (mid, run, rest) g =
    (mid, run, each_then id now ws mid b c rest g)

with_tickets : Place → ℕ → Place
with_tickets k t = record k { tickets = t }

module _ (id now : ℕ) where
  rest_of : (calls : List BookCall) (answers : List Answer) (next after : Place) (t : ℕ)
      → TurnedAll TurnStep calls answers next after
      → TurnedAll TurnStep calls answers (with_tickets next t) after
  unfolding with_tickets
  rest_of calls answers next after t is =
      drawn_before TurnStep calls answers (record next { tickets = t }) after next.tickets
      next.turns is

  on_at : (k l : Place) (call : BookCall) (answer : Answer) → Plays TurnStep call answer k l
      → is_admitted (past_of k) id ≡ true → is_admitted (past_of l) id ≡ true
  on_at k l call answer p on =
      begins_lift (λ past. is_admitted past id ≡ true) (admitted_more id) (past_of k) (past_of l)
      (grows_past k l _ p.grows) on

  less_at : (next after : Place) (t : ℕ) → t ≤ after.tickets
      → (with_tickets next t).tickets ≤ after.tickets
  unfolding with_tickets
  less_at next after t le = le

  -- the last turn of a batch
  last_plays : (call : BookCall) (answer : Answer) (k next after : Place) → IsWithin k
      → k.tickets ≤ after.tickets → IsSameSeat k next → Turned TurnStep call answer k next
      → IsSameSeat next after → after.seen ≡ next.seen → after.own ≡ next.own
      → Plays TurnStep call answer k after
  unfolding IsWithin
  last_plays call answer k next after is le one turn two seen own =
      let (u, h, e, has, begins, step, ends, owns) = turn in
      let here = seen ∙ ends in
      let mine = own ∙ owns in
      plays TurnStep call answer k after is
      (subst (λ (z : List (ℕ × Entry) × List ℕ). Within z.0 z.1) (λ i. (sym here i, sym mine i))
      (within_turn k.number k.seen h k.own e begins is))
      (two.0 ∙ one.0) (two.1 ∙ one.1) (two.4 ∙ one.4) le
      (u, h, e, has, begins, step, here, mine)

  -- one turn of the batch, at a place whose tickets are those before it
  one_plays : (call : BookCall) (answer : Answer) (k next : Place) → IsWithin k
      → IsSameSeat k next → Turned TurnStep call answer k next
      → Plays TurnStep call answer k (with_tickets next k.tickets)
  unfolding with_tickets
  one_plays call answer k next is same turn =
      last_plays call answer k next (record next { tickets = k.tickets }) is (omega arith) same turn
      (refl, refl, refl, refl, refl) refl refl

  -- a call that runs a request here
  pub by_run : (P : BookCall → Type 0) (call : BookCall) → IsRunAt id now call
      → ((words : List (List ℕ)) → P (Run id words now)) → P call
  by_run P call at f = grind arith

  runs_at : List (List (List ℕ)) → List BookCall
  runs_at [] = []
  runs_at (words ∷ requests) = Run id words now ∷ runs_at requests

  are_runs : (calls : List BookCall) → All (IsRunAt id now) calls
      → calls ≡ runs_at (requests_in calls)
  unfolding runs_at
  are_runs [] runs = refl
  are_runs (call ∷ calls) runs =
      let rest = are_runs calls (All-tail (IsRunAt id now) call calls runs) in
      by_run (λ c. c ∷ calls ≡ runs_at (requests_in (c ∷ calls))) call
      (All-head (IsRunAt id now) call calls runs) (λ words. ap (λ z. Run id words now ∷ z) rest)

  requests_at : (ws : List (List (List ℕ))) → requests_in (runs_at ws) ≡ ws
  unfolding runs_at
  requests_at [] = refl
  requests_at (w ∷ ws) = ap (λ z. w ∷ z) (requests_at ws)

  all_at : (ws : List (List (List ℕ))) → All (IsRunAt id now) (runs_at ws)
  unfolding runs_at
  all_at [] = All-nil (IsRunAt id now)
  all_at (w ∷ ws) =
      All-cons (IsRunAt id now) (Run id w now) (runs_at ws) (refl, refl) (all_at ws)

  -- the turns of a batch
  IsPlayed : List (List (List ℕ)) → List Answer → Place → Place → Type 0
  IsPlayed requests answers k after =
      TurnedAll TurnStep (runs_at requests ++ Take id most ∷ []) answers k after

  -- ---- behind an answer that ended the batch

  -- these come back, or the batch ended by a refusal
  abbrev Returns : List BookCall → BatchEnd → Place → Type 0
  Returns back (ends.Taken front) after = ⊥
  Returns back (ends.Held calls) after = calls.items ≡ back
  Returns back (ends.Refused cause) after = IsCause runs_on id cause after

  returns_as : (a b : List BookCall) (end : BatchEnd) (after : Place) → a ≡ b
      → Returns a end after → Returns b end after
  returns_as a b end after is r = subst (λ z. Returns z end after) is r

  returns_none : (back : List BookCall) (end : BatchEnd) (after : Place)
      → end ≡ ends.Refused refusal.NoMemory → Returns back end after
  returns_none back end after is = subst (λ z. Returns back z after) (sym is) tt

  returns_last : (back : List BookCall) (answer : Answer) (end : BatchEnd) (after : Place)
      → 0 < length back → IsLast back answer end → Returns (back ++ []) end after
  returns_last [] answer end after some h = absurd (omega arith)
  returns_last (b ∷ back) answer (ends.Taken front) after some h = absurd h
  returns_last (b ∷ back) answer (ends.Held calls) after some h =
      h ∙ sym (append-nil (b ∷ back))
  returns_last (b ∷ back) answer (ends.Refused cause) after some h =
      subst (λ z. IsCause runs_on id z after) (sym h) tt

  record Passed (requests : List (List (List ℕ))) (answers : List Answer) (last : Answer)
      (k after : Place) : Type 0 where
    pub grows : Grows k after []
    pub are : All IsOfRun answers
    pub last_is : IsOfTake last
    pub counts : (count : ℕ) → Counts count answers
    pub none : ran_in answers ≡ 0
    pub told : (back : List BookCall) (end : BatchEnd) → 0 < length back
        → Tells back answers last end → Returns (back ++ runs_at requests) end after

  -- a Take that was passed
  take_passed : (answer : Answer) (k l : Place) → Plays TurnStep (Take id most) answer k l
      → ends_batch answer ≡ true → Grows k l [] × IsOfTake answer
  take_passed (Told Quiet) k l p h =
      ((rests k l id most (omega arith) (plays_one (Take id most) (Told Quiet) k l p)).grows, tt)
  take_passed (Told (Refused r)) k l p h =
      ((take_refuses k l id most r (plays_one (Take id most) (Told (Refused r)) k l p)).grows, tt)
  take_passed (Held back) k l p h =
      absurd (let no : false ≡ true = p.did.1 in cc)
  take_passed (Told (Admitted n i)) k l p h = absurd (let no : ⊥ = cc in no)
  take_passed (Told (Ran n)) k l p h = absurd (let no : ⊥ = cc in no)
  take_passed (Told (Ticked n)) k l p h = absurd (let no : ⊥ = cc in no)
  take_passed (Told (Bytes n bytes)) k l p h = absurd (let no : ⊥ = cc in no)
  take_passed (Told (Closed n)) k l p h = absurd (let no : ⊥ = cc in no)

  -- the first of them came back, or was refused, and the others were passed
  passed_more : (words : List (List ℕ)) (requests : List (List (List ℕ))) (answer : Answer)
      (answers : List Answer) (last : Answer) (k l after : Place)
      → Plays TurnStep (Run id words now) answer k l → is_admitted (past_of k) id ≡ true
      → ends_batch answer ≡ true → Passed requests answers last l after
      → Passed (words ∷ requests) (answer ∷ answers) last k after
  unfolding runs_at Lasts
  passed_more words requests (Held back) answers last k l after p on h t =
      let one = plays_one (Run id words now) (Held back) k l p in
      record {
        grows = grows_into k l after one.2 t.grows;
        are = All-cons IsOfRun (Held back) answers tt t.are;
        last_is = t.last_is;
        counts = λ count. t.counts count;
        none = t.none;
        told = λ front end some says.
            elim says [
              | inl more ↦ returns_as ((front ++ back ∷ []) ++ runs_at requests)
                  (front ++ Run id words now ∷ runs_at requests) end after
                  (append_assoc front (back ∷ []) (runs_at requests)
                  ∙ ap (λ z. front ++ z ∷ runs_at requests) one.0)
                  (t.told (front ++ back ∷ []) end
                  (omega (arith, length-append front (back ∷ []))) more)
              | inr none ↦ returns_none (front ++ Run id words now ∷ runs_at requests) end after
                  none
            ];
      }
  passed_more words requests (Told (Refused r)) answers last k l after p on h t =
      let one = run_refuses k l id words now r
      (plays_one (Run id words now) (Told (Refused r)) k l p) in
      let there = on_at k l (Run id words now) (Told (Refused r)) p on in
      let cause = cause_more runs_on id (λ m e past. runs_off m id e past) (refusal_by r) l after
      there t.grows one.cause_is in
      record {
        grows = grows_into k l after one.grows t.grows;
        are = All-cons IsOfRun (Told (Refused r)) answers tt t.are;
        last_is = t.last_is;
        counts = λ count. tt;
        none = refl;
        told = λ front end some says.
            subst (λ z. Returns (front ++ Run id words now ∷ runs_at requests) z after)
            (sym says) cause;
      }
  passed_more words requests (Told Quiet) answers last k l after p on h t =
      absurd (never k l (Run id words now) Quiet
      (plays_one (Run id words now) (Told Quiet) k l p) refl)
  passed_more words requests (Told (Admitted n i)) answers last k l after p on h t =
      absurd (let no : ⊥ = cc in no)
  passed_more words requests (Told (Ran n)) answers last k l after p on h t =
      absurd (let no : ⊥ = cc in no)
  passed_more words requests (Told (Ticked n)) answers last k l after p on h t =
      absurd (let no : ⊥ = cc in no)
  passed_more words requests (Told (Bytes n bytes)) answers last k l after p on h t =
      absurd (let no : ⊥ = cc in no)
  passed_more words requests (Told (Closed n)) answers last k l after p on h t =
      absurd (let no : ⊥ = cc in no)

  -- behind an answer that added no entry, none is added
  all_passed : (requests : List (List (List ℕ))) (answers : List Answer) (last : Answer)
      (k after : Place) → IsWithin k → is_admitted (past_of k) id ≡ true
      → k.tickets ≤ after.tickets → IsPlayed requests (answers ++ last ∷ []) k after
      → All (λ r. ends_batch r ≡ true) (answers ++ last ∷ [])
      → Passed requests answers last k after
  unfolding runs_at IsPlayed
  all_passed [] [] last k after is on le t all =
      let (next, one, turn, two) = t in
      let did = take_passed last k after
      (last_plays (Take id most) last k next after is le one turn two.0 two.1 two.2)
      (All-head (λ x. ends_batch x ≡ true) last [] all) in
      record {
        grows = did.0;
        are = All-nil IsOfRun;
        last_is = did.1;
        counts = λ count. tt;
        none = refl;
        told = λ back end some says. returns_last back last end after some says;
      }
  all_passed [] (answer ∷ []) last k after is on le t all =
      let (next, one, turn, two) = t in absurd two
  all_passed [] (answer ∷ more ∷ answers) last k after is on le t all =
      let (next, one, turn, two) = t in absurd two
  all_passed (words ∷ []) [] last k after is on le t all =
      let (next, one, turn, two) = t in absurd two
  all_passed (words ∷ more ∷ requests) [] last k after is on le t all =
      let (next, one, turn, two) = t in absurd two
  all_passed (words ∷ requests) (answer ∷ answers) last k after is on le t all =
      let (next, same, turn, rest) = t in
      let call = Run id words now in
      let l = with_tickets next k.tickets in
      let p = one_plays call answer k next is same turn in
      passed_more words requests answer answers last k l after p on
      (All-head (λ x. ends_batch x ≡ true) answer (answers ++ last ∷ []) all)
      (all_passed requests answers last l after p.grows.within (on_at k l call answer p on)
      (less_at next after k.tickets le)
      (rest_of (runs_at requests ++ Take id most ∷ []) (answers ++ last ∷ []) next after k.tickets
      rest)
      (All-tail (λ x. ends_batch x ≡ true) answer (answers ++ last ∷ []) all))

  -- ---- what the answers tell

  pub record ToldAll (requests : List (List (List ℕ))) (answers : List Answer) (last : Answer)
      (k after : Place) : Type 0 where
    pub end_is : (end : BatchEnd) → Tells [] answers last end → (count : ℕ) → count ≤ length k.seen
        → EndsSo id now count requests (count + ran_in answers) end k after
    pub are : All IsOfRun answers
    pub last_is : IsOfTake last
    pub counts : (count : ℕ) → count ≤ length k.seen → Counts count answers

  -- a Run makes the history longer
  pub seen_longer : (words : List (List ℕ)) (k l : Place) → Runs id words now k l
      → length k.seen < length l.seen
  seen_longer words k l r = grind (arith, length-append, entries_long)

  all_more : (words : List (List ℕ)) (requests : List (List (List ℕ))) (count ran : ℕ)
      (front : Option Octets) (k l after : Place) → Runs id words now k l
      → RunsAndTakes id now (suc count) requests (suc count + ran) front l after
      → RunsAndTakes id now count (words ∷ requests) (count + suc ran) front k after
  all_more words requests count ran front k l after run h = grind arith

  back_more : (words : List (List ℕ)) (requests : List (List (List ℕ))) (count ran : ℕ)
      (back : List BookCall) (k l after : Place) → Runs id words now k l
      → HoldsBack id now (suc count) requests (suc count + ran) back l after
      → HoldsBack id now count (words ∷ requests) (count + suc ran) back k after
  back_more words requests count ran back k l after run h = record {
    first = words ∷ h.first;
    parts = ap (λ z. words ∷ z) h.parts;
    each = (l, run, h.each);
    counted = omega (arith, h.counted);
    fits = omega (arith, h.fits);
    runs = h.runs;
    some = h.some;
  }

  first_more : (words : List (List ℕ)) (requests : List (List (List ℕ))) (count ran : ℕ)
      (e : Refusal) (k l after : Place) → Runs id words now k l
      → RunsFirst id now (suc count) requests (suc count + ran) e l after
      → RunsFirst id now count (words ∷ requests) (count + suc ran) e k after
  first_more words requests count ran e k l after run h = record {
    number = suc h.number;
    counted = omega (arith, h.counted);
    within = omega (arith, h.within);
    each = (l, run, h.each);
    cause_is = h.cause_is;
    take_is = λ all. h.take_is (omega (arith, all));
  }

  ends_more : (words : List (List ℕ)) (requests : List (List (List ℕ))) (count ran : ℕ)
      (end : BatchEnd) (k l after : Place) → Runs id words now k l
      → EndsSo id now (suc count) requests (suc count + ran) end l after
      → EndsSo id now count (words ∷ requests) (count + suc ran) end k after
  ends_more words requests count ran (ends.Taken front) k l after run h =
      all_more words requests count ran front k l after run h
  ends_more words requests count ran (ends.Held calls) k l after run h =
      back_more words requests count ran calls.items k l after run h
  ends_more words requests count ran (ends.Refused e) k l after run h =
      first_more words requests count ran e k l after run h

  told_ran : (m : ℕ) (words : List (List ℕ)) (requests : List (List (List ℕ)))
      (answers : List Answer) (last : Answer) (k l after : Place) → m ≡ length l.seen
      → Runs id words now k l → ToldAll requests answers last l after
      → ToldAll (words ∷ requests) (Told (Ran m) ∷ answers) last k after
  told_ran m words requests answers last k l after number run t =
      let longer = seen_longer words k l run in
      record {
        end_is = λ end h count le.
            ends_more words requests count (ran_in answers) end k l after run
            (t.end_is end h (suc count) (omega (arith, le, longer)));
        are = All-cons IsOfRun (Told (Ran m)) answers tt t.are;
        last_is = t.last_is;
        counts = λ count le. (
          omega (arith, le, longer, number),
          t.counts (suc count) (omega (arith, le, longer)),
        );
      }

  -- none ran
  none_first : (requests : List (List (List ℕ))) (count ran : ℕ) (e : Refusal) (k after : Place)
      → ran ≡ 0 → Grows k after [] → IsCause runs_on id e after
      → (0 ≡ length requests → IsCause gives_on id e after)
      → RunsFirst id now count requests (count + ran) e k after
  none_first requests count ran e k after zero none run take = record {
    number = 0;
    counted = omega (arith, zero);
    within = omega arith;
    each = none;
    cause_is = run;
    take_is = take;
  }

  told_refused : (r : BookRefusal) (requests : List (List (List ℕ))) (answers : List Answer)
      (last : Answer) (k after : Place) → Grows k after [] → IsCause runs_on id (refusal_by r) after
      → (0 ≡ length requests → IsCause gives_on id (refusal_by r) after)
      → All IsOfRun answers → IsOfTake last
      → ToldAll requests (Told (Refused r) ∷ answers) last k after
  told_refused r requests answers last k after none run take are last_is = record {
    end_is = λ end h count le.
        subst (λ z. EndsSo id now count requests (count + 0) z k after) (sym h)
        (none_first requests count 0 (refusal_by r) k after refl none run take);
    are = All-cons IsOfRun (Told (Refused r)) answers tt are;
    last_is = last_is;
    counts = λ count le. tt;
  }

  long_after : (k after : Place) → Grows k after [] → length k.seen ≤ length after.seen
  long_after k after g =
      omega (arith, ap length g.seen.1, length-append g.seen.0 k.seen)

  -- the first comes back
  held_ends : (words : List (List ℕ)) (requests : List (List (List ℕ))) (count ran : ℕ)
      (end : BatchEnd) (k after : Place) → ran ≡ 0 → count ≤ length k.seen → Grows k after []
      → Returns (Run id words now ∷ runs_at requests) end after
      → EndsSo id now count (words ∷ requests) (count + ran) end k after
  held_ends words requests count ran (ends.Taken front) k after zero le none r = absurd r
  held_ends words requests count ran (ends.Held calls) k after zero le none r =
      let are : requests_in calls.items ≡ words ∷ requests
      = ap requests_in r ∙ ap (λ z. words ∷ z) (requests_at requests) in
      record {
        first = [];
        parts = sym are;
        each = none;
        counted = omega (arith, zero);
        fits = omega (arith, zero, le, long_after k after none);
        runs = subst (All (IsRunAt id now)) (sym r)
            (All-cons (IsRunAt id now) (Run id words now) (runs_at requests) (refl, refl)
            (all_at requests));
        some = omega (arith, ap length are);
      }
  held_ends words requests count ran (ends.Refused e) k after zero le none r =
      none_first (words ∷ requests) count ran e k after zero none r
      (λ all. absurd (omega (arith, all)))

  told_held : (back : BookCall) (words : List (List ℕ)) (requests : List (List (List ℕ)))
      (answers : List Answer) (last : Answer) (k l after : Place) → back ≡ Run id words now
      → Grows k l [] → Passed requests answers last l after
      → ToldAll (words ∷ requests) (Held back ∷ answers) last k after
  told_held back words requests answers last k l after is g t =
      let none = grows_into k l after g t.grows in
      record {
        end_is = λ end h count le.
            held_ends words requests count (ran_in answers) end k after t.none le none
            (elim h [
              | inl more ↦ returns_as (back ∷ runs_at requests)
                  (Run id words now ∷ runs_at requests) end after
                  (ap (λ z. z ∷ runs_at requests) is) (t.told (back ∷ []) end (omega arith) more)
              | inr lost ↦ returns_none (Run id words now ∷ runs_at requests) end after lost
            ]);
        are = All-cons IsOfRun (Held back) answers tt t.are;
        last_is = t.last_is;
        counts = λ count le. t.counts count;
      }

  -- the first answer is given, and what those behind it tell
  tells_one : (words : List (List ℕ)) (requests : List (List (List ℕ))) (answer : Answer)
      (answers : List Answer) (last : Answer) (k l after : Place)
      → Plays TurnStep (Run id words now) answer k l → is_admitted (past_of k) id ≡ true
      → (ends_batch answer ≡ true → Passed requests answers last l after)
      → ToldAll requests answers last l after
      → ToldAll (words ∷ requests) (answer ∷ answers) last k after
  unfolding Lasts
  tells_one words requests (Told (Ran m)) answers last k l after p on passed behind =
      let one = plays_one (Run id words now) (Told (Ran m)) k l p in
      told_ran m words requests answers last k l after (run_number k l id words now m one)
      (runs k l id words now m one) behind
  tells_one words requests (Told (Refused r)) answers last k l after p on passed behind =
      let one = run_refuses k l id words now r
      (plays_one (Run id words now) (Told (Refused r)) k l p) in
      let there = on_at k l (Run id words now) (Told (Refused r)) p on in
      let more = passed refl in
      told_refused r (words ∷ requests) answers last k after
      (grows_into k l after one.grows more.grows)
      (cause_more runs_on id (λ m e past. runs_off m id e past) (refusal_by r) l after there
      more.grows one.cause_is)
      (λ none. absurd (omega (arith, none))) more.are more.last_is
  tells_one words requests (Held back) answers last k l after p on passed behind =
      let one = plays_one (Run id words now) (Held back) k l p in
      told_held back words requests answers last k l after one.0 one.2 (passed refl)
  tells_one words requests (Told (Admitted n i)) answers last k l after p on passed behind =
      absurd (never k l (Run id words now) (Admitted n i)
      (plays_one (Run id words now) (Told (Admitted n i)) k l p) refl)
  tells_one words requests (Told (Ticked n)) answers last k l after p on passed behind =
      absurd (never k l (Run id words now) (Ticked n)
      (plays_one (Run id words now) (Told (Ticked n)) k l p) refl)
  tells_one words requests (Told Quiet) answers last k l after p on passed behind =
      absurd (never k l (Run id words now) Quiet
      (plays_one (Run id words now) (Told Quiet) k l p) refl)
  tells_one words requests (Told (Bytes n bytes)) answers last k l after p on passed behind =
      absurd (never k l (Run id words now) (Bytes n bytes)
      (plays_one (Run id words now) (Told (Bytes n bytes)) k l p) refl)
  tells_one words requests (Told (Closed n)) answers last k l after p on passed behind =
      absurd (never k l (Run id words now) (Closed n)
      (plays_one (Run id words now) (Told (Closed n)) k l p) refl)

  -- what was taken, where all ran
  all_taken : (front : Option Octets) (k after : Place) → IsWithin k → Takes id front k after
      → (count : ℕ) → count ≤ length k.seen
      → RunsAndTakes id now count [] (count + 0) front k after
  all_taken front k after is takes count le = record {
    middle = k;
    each = grows_none k is;
    counted = refl;
    fits = omega (arith, le);
    takes = takes;
  }

  told_front : (front : Option Octets) (answer : Answer) (k after : Place) → IsWithin k
      → Takes id front k after → IsOfTake answer
      → ((end : BatchEnd) → Tells [] [] answer end → end ≡ ends.Taken front)
      → ToldAll [] [] answer k after
  told_front front answer k after is takes of taken = record {
    end_is = λ end h count le.
        subst (λ z. EndsSo id now count [] (count + 0) z k after) (sym (taken end h))
        (all_taken front k after is takes count le);
    are = All-nil IsOfRun;
    last_is = of;
    counts = λ count le. tt;
  }

  tells_take : (answer : Answer) (k after : Place) → IsWithin k
      → Plays TurnStep (Take id most) answer k after → ToldAll [] [] answer k after
  tells_take (Told (Bytes n bytes)) k after is p =
      told_front (Some bytes) (Told (Bytes n bytes)) k after is
      (gives k after id most n bytes (plays_one (Take id most) (Told (Bytes n bytes)) k after p)) tt
      (λ end h. h)
  tells_take (Told Quiet) k after is p =
      told_front None (Told Quiet) k after is
      (rests k after id most (omega arith) (plays_one (Take id most) (Told Quiet) k after p)) tt
      (λ end h. h)
  tells_take (Told (Refused r)) k after is p =
      let one = take_refuses k after id most r
      (plays_one (Take id most) (Told (Refused r)) k after p) in
      record {
        end_is = λ end h count le.
            subst (λ z. EndsSo id now count [] (count + 0) z k after) (sym h)
            (none_first [] count 0 (refusal_by r) k after refl one.grows
            (ungiven_unrun id (refusal_by r) after one.cause_is) (λ none. one.cause_is));
        are = All-nil IsOfRun;
        last_is = tt;
        counts = λ count le. tt;
      }
  tells_take (Held back) k after is p = absurd (let no : false ≡ true = p.did.1 in cc)
  tells_take (Told (Admitted n i)) k after is p =
      absurd (never k after (Take id most) (Admitted n i)
      (plays_one (Take id most) (Told (Admitted n i)) k after p) refl)
  tells_take (Told (Ran n)) k after is p =
      absurd (never k after (Take id most) (Ran n)
      (plays_one (Take id most) (Told (Ran n)) k after p) refl)
  tells_take (Told (Ticked n)) k after is p =
      absurd (never k after (Take id most) (Ticked n)
      (plays_one (Take id most) (Told (Ticked n)) k after p) refl)
  tells_take (Told (Closed n)) k after is p =
      absurd (never k after (Take id most) (Closed n)
      (plays_one (Take id most) (Told (Closed n)) k after p) refl)

  tells_all : (requests : List (List (List ℕ))) (answers : List Answer) (last : Answer)
      (k after : Place) → IsWithin k → is_admitted (past_of k) id ≡ true
      → k.tickets ≤ after.tickets → IsPlayed requests (answers ++ last ∷ []) k after
      → StopsAt ends_batch (answers ++ last ∷ []) → ToldAll requests answers last k after
  unfolding runs_at IsPlayed
  tells_all [] [] last k after is on le t stops =
      let (next, one, turn, two) = t in
      tells_take last k after is
      (last_plays (Take id most) last k next after is le one turn two.0 two.1 two.2)
  tells_all [] (answer ∷ []) last k after is on le t stops =
      let (next, one, turn, two) = t in absurd two
  tells_all [] (answer ∷ more ∷ answers) last k after is on le t stops =
      let (next, one, turn, two) = t in absurd two
  tells_all (words ∷ []) [] last k after is on le t stops =
      let (next, one, turn, two) = t in absurd two
  tells_all (words ∷ more ∷ requests) [] last k after is on le t stops =
      let (next, one, turn, two) = t in absurd two
  tells_all (words ∷ requests) (answer ∷ answers) last k after is on le t stops =
      let (next, same, turn, rest) = t in
      let call = Run id words now in
      let l = with_tickets next k.tickets in
      let p = one_plays call answer k next is same turn in
      let there = on_at k l call answer p on in
      let less = less_at next after k.tickets le in
      let behind =
      rest_of (runs_at requests ++ Take id most ∷ []) (answers ++ last ∷ []) next after k.tickets
      rest in
      tells_one words requests answer answers last k l after p on
      (λ over. all_passed requests answers last l after p.grows.within there less behind
      (stops.0 over))
      (tells_all requests answers last l after p.grows.within there less behind stops.1)

  pub tells : (calls : List BookCall) (answers : List Answer) (last : Answer) (k after : Place)
      → All (IsRunAt id now) calls → IsWithin k → is_admitted (past_of k) id ≡ true
      → k.tickets ≤ after.tickets
      → TurnedAll TurnStep (calls ++ Take id most ∷ []) (answers ++ last ∷ []) k after
      → StopsAt ends_batch (answers ++ last ∷ [])
      → ToldAll (requests_in calls) answers last k after
  unfolding IsPlayed
  tells calls answers last k after runs is on le t =
      tells_all (requests_in calls) answers last k after is on le
      (subst (λ z. TurnedAll TurnStep (z ++ Take id most ∷ []) (answers ++ last ∷ []) k after)
      (are_runs calls runs) t)

all_front : {A : Type 0} (P : A → Type 0) (xs ys : List A) → All P (xs ++ ys) → All P xs
all_front P [] ys h = All-nil P
all_front P (x ∷ xs) ys h =
    All-cons P x xs (All-head P x (xs ++ ys) h) (all_front P xs ys (All-tail P x (xs ++ ys) h))

pub stops_front : (xs ys : List Answer) → StopsAt ends_batch (xs ++ ys) → StopsAt ends_batch xs
stops_front [] ys h = tt
stops_front (x ∷ xs) ys h =
    (λ over. all_front (λ r. ends_batch r ≡ true) xs ys (h.0 over), stops_front xs ys h.1)

-- none runs behind one that ended the batch
pub none_behind : (answers : List Answer) → All (λ r. ends_batch r ≡ true) answers
    → ran_in answers ≡ 0
none_behind [] all = refl
none_behind (a ∷ answers) all =
    none_at a (All-head (λ r. ends_batch r ≡ true) a answers all)
    (none_behind answers (All-tail (λ r. ends_batch r ≡ true) a answers all))
  where
    none_at : (a : Answer) → ends_batch a ≡ true → ran_in answers ≡ 0 → ran_in (a ∷ answers) ≡ 0
    none_at (Held back) over rest = rest
    none_at (Told (Refused r)) over rest = refl
    none_at (Told Quiet) over rest = refl
    none_at (Told (Admitted n i)) over rest = refl
    none_at (Told (Ran n)) over rest = absurd (let no : ⊥ = cc in no)
    none_at (Told (Ticked n)) over rest = refl
    none_at (Told (Bytes n bytes)) over rest = refl
    none_at (Told (Closed n)) over rest = refl
