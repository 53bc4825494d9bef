-- What one more entry does to the stream of a connection, to what was taken of it, and to what
-- waits.
use Rattle.std.proofs.Common.{◌≡◌, ◌+◌, ◌-◌, ◌<◌, ◌≤◌, ℕ, List, [], ◌∷◌, ◌++◌, length, drop, min}
use Rattle.std.proofs.Common.{sym, ap, ◌∙◌, refl, arith, Bool, true, false, cond, append-nil}
use Rattle.std.proofs.Common.{length-append, take}
use Rattle.std.specs.Prelude.{◌==◌, ◌&&◌, not}
use Rattle.std.proofs.lemmas.Grind.{flat_map-append}
use Rattle.std.proofs.lemmas.List.{drop-drop, drop-append-le, drop_all, length-drop}
use Rattle.std.proofs.Math.Seq.{drop-nil, take-nil}
use Rattle.std.proofs.lemmas.Bool.{cases_lt, and_parts, both_ways, true_from_ne_false, eqb-true}
use Rattle.std.proofs.lemmas.Bool.{eq-eqb, false_from_ne_true, not-true}
use Rattle.std.proofs.lemmas.Bool.Decides.{nat_tests}
use Rattle.serial_model.specs.declared.history.Limits.{Limits}
use Rattle.serial_model.specs.declared.history.Entry.{Entry}
use Rattle.serial_model.specs.declared.history.Entry.TheVariants.{Admit, Run, Tick, Take, Close}
use Rattle.serial_model.specs.declared.standing.Standing.{Standing}
use Rattle.serial_model.specs.declared.standing.Standing.TheVariants.{Quit, Gone}
use Rattle.serial_model.specs.Tracking.{has_id}
use Rattle.serial_model.specs.State.{State, is_live, keeps_bytes, may_take, closed}
use Rattle.serial_model.specs.Actions.{Action, action_sends, action_leaves, ends, bytes_to}
use Rattle.serial_model.specs.Actions.{standing_after}
use Rattle.serial_model.specs.Actions.{quits}
use Rattle.serial_model.specs.EntryEffects.{drops_one}
use Rattle.serial_model.specs.History.{admitted, is_admitted, runs_on, reads_on, gives_on}
use Rattle.serial_model.specs.History.{has_ended}
use Rattle.serial_model.specs.History.{state, sends, next, sent_to, sent_bytes, stream, taken}
use Rattle.serial_model.specs.History.{unsent, runs_of, run_action, tick_action, IsLegal}
use Rattle.serial_model.specs.Laws.{CloseGivesUp, WaitingIsUnsent}
use Rattle.serial_model.proofs.Sendings.{bytes_are}
use Rattle.serial_model.proofs.Ends.{sends_none}
use Rattle.serial_model.proofs.Fresh.{sent_fresh, fresh_is_first}
use Rattle.serial_model.proofs.StateSteps.{drop_live, dropped_stands, ends_on, on_parts, run_after}
use Rattle.serial_model.proofs.StateSteps.{run_dropped, run_ends, tick_after}

both_true : (a b : Bool) → (a && not b) ≡ true → (a ≡ true) × (b ≡ false)
both_true a b h = grind arith

pub admitted_id : (past : List Entry) (id : ℕ) → is_admitted past id ≡ true
    → (0 < id) × (id ≤ admitted past)
admitted_id past id h = (grind (arith, nat_tests), grind (arith, nat_tests))

live_keeps : (x : Standing) → not (is_live x) ≡ false → keeps_bytes x ≡ true
live_keeps x e = grind arith

closed_keeps : (x : Standing) → keeps_bytes (closed x) ≡ false
closed_keeps x = grind arith

-- ---- what a connection may still do

runs_keeps : (a : Bool) (x : Standing) → (a && not (not (is_live x))) ≡ true
    → (a && keeps_bytes x) ≡ true
runs_keeps a x h = grind arith

keeps_takes : (a : Bool) (x : Standing) → (a && keeps_bytes x) ≡ true → (a && may_take x) ≡ true
keeps_takes a x h = grind arith

-- where an action ends a connection (h), it quits or is dropped (d)
keeps_after : (h q d : Bool) (x : Standing) → d ≡ (h && not q) → (h ≡ true → is_live x ≡ true)
    → keeps_bytes (cond h (cond q Quit Gone) x) ≡ (keeps_bytes x && not d)
keeps_after h q d x is f = grind arith

takes_after : (h q d : Bool) (x : Standing) → d ≡ (h && not q) → (h ≡ true → is_live x ≡ true)
    → may_take (cond h (cond q Quit Gone) x) ≡ (may_take x && not d)
takes_after h q d x is f = grind arith

keeps_dropped : (d : Bool) (x : Standing)
    → keeps_bytes (cond d Gone x) ≡ (keeps_bytes x && not d)
keeps_dropped d x = grind arith

takes_dropped : (d : Bool) (x : Standing) → may_take (cond d Gone x) ≡ (may_take x && not d)
takes_dropped d x = grind arith

ending_live : (l : Limits) (t : Action) (s : State) (c : ℕ) → has_id c (ends l t s) ≡ true
    → is_live (s.standing c) ≡ true
ending_live l t s c h = (on_parts s c (ends_on l t s c h)).2

still : (a b : Bool) → a ≡ true → b ≡ false → (a && not b) ≡ true
still a b e f = grind arith

module _ (l : Limits) where
  -- one that runs on can be closed, and one that can be closed may take
  pub runs_read : (past : List Entry) (c : ℕ) → runs_on l past c ≡ true → reads_on l past c ≡ true
  runs_read past c h = runs_keeps (is_admitted past c) ((state l past).standing c) h

  pub reads_give : (past : List Entry) (c : ℕ) → reads_on l past c ≡ true
      → gives_on l past c ≡ true
  reads_give past c h = keeps_takes (is_admitted past c) ((state l past).standing c) h

  pub runs_give : (past : List Entry) (c : ℕ) → runs_on l past c ≡ true → gives_on l past c ≡ true
  runs_give past c h = reads_give past c (runs_read past c h)

  -- what can be closed, and who may take, are so still but for a drop, also after a QUIT
  pub keeps_run : (past : List Entry) (c id moment : ℕ) (words : List (List ℕ))
      → keeps_bytes ((state l (Run id words moment ∷ past)).standing c)
      ≡ (keeps_bytes ((state l past).standing c) && not (drops_one l (Run id words moment) past c))
  keeps_run past c id moment words =
      let s = state l past in
      ap keeps_bytes (run_after l past c id moment words)
      ∙ keeps_after (has_id c (run_ends l id words moment s)) _ _ (s.standing c)
      (run_dropped l past c id moment words)
      (ending_live l (run_action id words moment s) s c)

  pub takes_run : (past : List Entry) (c id moment : ℕ) (words : List (List ℕ))
      → may_take ((state l (Run id words moment ∷ past)).standing c)
      ≡ (may_take ((state l past).standing c) && not (drops_one l (Run id words moment) past c))
  takes_run past c id moment words =
      let s = state l past in
      ap may_take (run_after l past c id moment words)
      ∙ takes_after (has_id c (run_ends l id words moment s)) _ _ (s.standing c)
      (run_dropped l past c id moment words)
      (ending_live l (run_action id words moment s) s c)

  pub keeps_tick : (past : List Entry) (c moment : ℕ)
      → keeps_bytes ((state l (Tick moment ∷ past)).standing c)
      ≡ (keeps_bytes ((state l past).standing c) && not (drops_one l (Tick moment) past c))
  keeps_tick past c moment =
      ap keeps_bytes (tick_after l past c moment)
      ∙ keeps_dropped (drops_one l (Tick moment) past c) ((state l past).standing c)

  pub takes_tick : (past : List Entry) (c moment : ℕ)
      → may_take ((state l (Tick moment ∷ past)).standing c)
      ≡ (may_take ((state l past).standing c) && not (drops_one l (Tick moment) past c))
  takes_tick past c moment =
      ap may_take (tick_after l past c moment)
      ∙ takes_dropped (drops_one l (Tick moment) past c) ((state l past).standing c)

  -- a connection that runs on was admitted, and has not ended
  pub connected : (past : List Entry) (id : ℕ) → runs_on l past id ≡ true
      → (0 < id) × (id ≤ admitted past)
  connected past id h = grind (arith, admitted_id, both_true)

  pub not_ended : (past : List Entry) (id : ℕ) → runs_on l past id ≡ true
      → has_ended l id past ≡ false
  not_ended past id h = (both_true (is_admitted past id) (has_ended l id past) h).1

  unfoldable pub IsLive : List Entry → ℕ → Type 0
  IsLive past h = (is_admitted past h ≡ true) × (has_ended l h past ≡ false)

  pub live : (past : List Entry) (id : ℕ) → runs_on l past id ≡ true → IsLive past id
  unfolding IsLive
  live past id h = both_true (is_admitted past id) (has_ended l id past) h

  -- ---- a connection that was not admitted

  pub ended_fresh : (past : List Entry) (c : ℕ) → IsLegal l past → admitted past < c
      → has_ended l c past ≡ false
  ended_fresh past c h lt = ap (λ x. not (is_live x)) (fresh_is_first l c past h lt).standing

  pub stream_fresh : (past : List Entry) (c : ℕ) → IsLegal l past → admitted past < c
      → stream l c past ≡ []
  unfolding stream
  stream_fresh past c h lt = ap sent_bytes (sent_fresh l c past h lt)

  other_id : (past : List Entry) (id c : ℕ) → is_admitted past id ≡ true → admitted past < c
      → (id == c) ≡ false
  other_id past id c on lt = grind (arith, nat_tests)

  pub runs_fresh : (past : List Entry) (c : ℕ) → IsLegal l past → admitted past < c
      → runs_of c past ≡ []
  runs_fresh [] c h lt = refl
  runs_fresh (Admit id ∷ past) c h lt = runs_fresh past c h.2 (omega arith)
  runs_fresh (Run id words moment ∷ past) c h lt =
      ap (λ b. cond b (runs_of c past ++ words ∷ []) (runs_of c past))
      (other_id past id c (and_parts (is_admitted past id) _ h.0).0 lt)
      ∙ runs_fresh past c h.2 lt
  runs_fresh (Tick moment ∷ past) c h lt = runs_fresh past c h.3 lt
  runs_fresh (Take id max ∷ past) c h lt = runs_fresh past c h.2 lt
  runs_fresh (Close id ∷ past) c h lt = runs_fresh past c h.1 lt

  -- ---- what an entry adds to a stream

  -- what an entry sends comes after what was sent before
  pub stream_more : (past : List Entry) (c : ℕ) (entry : Entry)
      → stream l c (entry ∷ past) ≡ stream l c past
      ++ sent_bytes (sent_to (length past + 1) c (sends l entry (state l past)))
  unfolding stream
  stream_more past c entry = grind (arith, flat_map-append)

  -- an entry that sends nothing to a connection leaves its stream
  pub stream_admit : (past : List Entry) (c id : ℕ) → stream l c (Admit id ∷ past) ≡ stream l c past
  stream_admit past c id = grind (arith, stream_more, append-nil)

  pub stream_take : (past : List Entry) (c id m : ℕ)
      → stream l c (Take id m ∷ past) ≡ stream l c past
  stream_take past c id m = grind (arith, stream_more, append-nil)

  pub close_bytes : (n c id : ℕ) (s : State) → sent_bytes (sent_to n c (sends l (Close id) s)) ≡ []
  close_bytes n c id s = grind arith

  -- an end has no bytes
  pub stream_close : (past : List Entry) (c id : ℕ) → stream l c (Close id ∷ past) ≡ stream l c past
  stream_close past c id = grind (arith, stream_more, append-nil, close_bytes)

  -- the bytes that a Run sends to a connection
  abbrev pub run_bytes : List Entry → ℕ → List (List ℕ) → ℕ → ℕ → List ℕ
  run_bytes past id words moment c =
      sent_bytes (sent_to (length past + 1) c (sends l (Run id words moment) (state l past)))

  -- the bytes that a Tick sends to a connection
  abbrev pub tick_bytes : List Entry → ℕ → ℕ → List ℕ
  tick_bytes past moment c =
      sent_bytes (sent_to (length past + 1) c (sends l (Tick moment) (state l past)))

  -- ---- what was taken

  -- no more was taken than was sent
  taken_more : (past : List Entry) (c : ℕ) (entry : Entry)
      → taken l c past ≤ length (stream l c past)
      → taken l c past ≤ length (stream l c (entry ∷ past))
  taken_more past c entry le = rw (stream_more past c entry, length-append) (omega arith)

  pub taken_le : (past : List Entry) (c : ℕ) → taken l c past ≤ length (stream l c past)
  unfolding stream
  taken_le [] c = omega arith
  taken_le (Admit id ∷ past) c = taken_more past c (Admit id) (taken_le past c)
  taken_le (Run id words moment ∷ past) c =
      taken_more past c (Run id words moment) (taken_le past c)
  taken_le (Tick moment ∷ past) c = taken_more past c (Tick moment) (taken_le past c)
  taken_le (Take id max ∷ past) c = let r = taken_le past c in
      rw (stream_take past c id max)
      (grind (arith, min))
  taken_le (Close id ∷ past) c = taken_more past c (Close id) (taken_le past c)

  -- ---- what is unsent after an entry

  keeps : List Entry → ℕ → Bool
  keeps past c = keeps_bytes ((state l past).standing c)

  unsent_if : (past : List Entry) (c : ℕ)
      → unsent l c past ≡ cond (keeps past c) (drop (taken l c past) (stream l c past)) []
  unfolding unsent keeps
  unsent_if past c = refl

  -- a connection keeps what it did not take until it is closed
  pub unsent_kept : (past : List Entry) (c : ℕ) → keeps_bytes ((state l past).standing c) ≡ true
      → unsent l c past ≡ drop (taken l c past) (stream l c past)
  unfolding keeps
  unsent_kept past c h =
      unsent_if past c ∙ ap (λ b. cond b (drop (taken l c past) (stream l c past)) []) h

  pub unsent_gone : (past : List Entry) (c : ℕ) → keeps_bytes ((state l past).standing c) ≡ false
      → unsent l c past ≡ []
  unfolding keeps
  unsent_gone past c h =
      unsent_if past c ∙ ap (λ b. cond b (drop (taken l c past) (stream l c past)) []) h

  pub unsent_live : (past : List Entry) (c : ℕ) → has_ended l c past ≡ false
      → unsent l c past ≡ drop (taken l c past) (stream l c past)
  unsent_live past c h = unsent_kept past c (live_keeps ((state l past).standing c) h)

  -- where something is left to take, the connection keeps it
  pub some_kept : (past : List Entry) (c most : ℕ) → (take most (unsent l c past) ≡ [] → ⊥)
      → keeps_bytes ((state l past).standing c) ≡ true
  some_kept past c most some =
      true_from_ne_false _
      (λ e. some (ap (take most) (unsent_gone past c e) ∙ take-nil most))

  pub unsent_fresh : (past : List Entry) (c : ℕ) → IsLegal l past → admitted past < c
      → unsent l c past ≡ []
  unsent_fresh past c h lt =
      unsent_live past c (ended_fresh past c h lt)
      ∙ ap (drop (taken l c past)) (stream_fresh past c h lt) ∙ drop-nil (taken l c past)

  -- an entry that leaves a connection's stream, what it took and its end leaves what is unsent
  unsent_same : (past : List Entry) (c : ℕ) (entry : Entry)
      → keeps (entry ∷ past) c ≡ keeps past c
      → taken l c (entry ∷ past) ≡ taken l c past → stream l c (entry ∷ past) ≡ stream l c past
      → unsent l c (entry ∷ past) ≡ unsent l c past
  unsent_same past c entry stays took same = grind (arith, unsent_if)

  pub unsent_admit : (past : List Entry) (c id : ℕ) → unsent l c (Admit id ∷ past) ≡ unsent l c past
  unfolding state keeps
  unsent_admit past c id = unsent_same past c (Admit id) refl refl (stream_admit past c id)

  -- where a connection keeps what is unsent, what an entry sends comes after it
  unsent_more : (past : List Entry) (c : ℕ) (entry : Entry) → has_ended l c past ≡ false
      → keeps (entry ∷ past) c ≡ true → taken l c (entry ∷ past) ≡ taken l c past
      → unsent l c (entry ∷ past)
      ≡ unsent l c past
      ++ sent_bytes (sent_to (length past + 1) c (sends l entry (state l past)))
  unfolding keeps
  unsent_more past c entry h stays took =
      unsent_kept (entry ∷ past) c stays
      ∙ ap (λ n. drop n (stream l c (entry ∷ past))) took
      ∙ ap (drop (taken l c past)) (stream_more past c entry)
      ∙ drop-append-le (taken l c past) (stream l c past) _ (taken_le past c)
      ∙ ap (λ x. x ++ sent_bytes (sent_to (length past + 1) c (sends l entry (state l past))))
      (sym (unsent_live past c h))

  pub unsent_run : (past : List Entry) (c id moment : ℕ) (words : List (List ℕ))
      → has_ended l c past ≡ false → drops_one l (Run id words moment) past c ≡ false
      → unsent l c (Run id words moment ∷ past)
      ≡ unsent l c past ++ run_bytes past id words moment c
  unfolding keeps
  unsent_run past c id moment words h none =
      unsent_more past c (Run id words moment) h
      (keeps_run past c id moment words
      ∙ still _ _ (live_keeps ((state l past).standing c) h) none) refl

  pub unsent_tick : (past : List Entry) (c moment : ℕ) → has_ended l c past ≡ false
      → drops_one l (Tick moment) past c ≡ false
      → unsent l c (Tick moment ∷ past) ≡ unsent l c past ++ tick_bytes past moment c
  unfolding keeps
  unsent_tick past c moment h none =
      unsent_more past c (Tick moment) h
      (keeps_tick past c moment ∙ still _ _ (live_keeps ((state l past).standing c) h) none) refl

  -- what a connection did not take goes where it is dropped
  pub unsent_dropped : (past : List Entry) (e : Entry) (c : ℕ) → drops_one l e past c ≡ true
      → unsent l c (e ∷ past) ≡ []
  unsent_dropped past e c h =
      unsent_gone (e ∷ past) c (ap keeps_bytes (dropped_stands l past e c h))

  -- one that has ended is sent nothing more
  stream_ended : (past : List Entry) (c : ℕ) (entry : Entry) → has_ended l c past ≡ true
      → stream l c (entry ∷ past) ≡ stream l c past
  stream_ended past c entry h =
      stream_more past c entry
      ∙ ap (λ x. stream l c past ++ sent_bytes x)
      (sends_none l entry (state l past) (length past + 1) c
      (not-true (is_live ((state l past).standing c)) h))
      ∙ append-nil (stream l c past)

  -- and it is not dropped
  pub ended_stays : (past : List Entry) (e : Entry) (c : ℕ) → has_ended l c past ≡ true
      → drops_one l e past c ≡ false
  ended_stays past e c h =
      false_from_ne_true _ (λ d. both_ways _
      (not-true (is_live ((state l past).standing c)) h)
      (on_parts (state l past) c (drop_live l past e c d)).2)

  kept_still : (k d : Bool) → d ≡ false → (k && not d) ≡ k
  kept_still k d e = grind arith

  pub unsent_run_ended : (past : List Entry) (c id moment : ℕ) (words : List (List ℕ))
      → has_ended l c past ≡ true
      → unsent l c (Run id words moment ∷ past) ≡ unsent l c past
  unfolding keeps
  unsent_run_ended past c id moment words h =
      unsent_same past c (Run id words moment)
      (keeps_run past c id moment words
      ∙ kept_still _ _ (ended_stays past (Run id words moment) c h)) refl
      (stream_ended past c (Run id words moment) h)

  pub unsent_tick_ended : (past : List Entry) (c moment : ℕ) → has_ended l c past ≡ true
      → unsent l c (Tick moment ∷ past) ≡ unsent l c past
  unfolding keeps
  unsent_tick_ended past c moment h =
      unsent_same past c (Tick moment)
      (keeps_tick past c moment ∙ kept_still _ _ (ended_stays past (Tick moment) c h)) refl
      (stream_ended past c (Tick moment) h)

  drop_min : (m : ℕ) (q : List ℕ) → drop (min m (length q)) q ≡ drop m q
  drop_min m q = grind (arith, cases_lt, drop_all)

  drop_taken : (past : List Entry) (c id m : ℕ) → (id == c) ≡ true
      → drop (taken l c (Take id m ∷ past)) (stream l c past)
      ≡ drop m (drop (taken l c past) (stream l c past))
  drop_taken past c id m h =
      ap (λ b. drop (cond b (taken l c past + min m (length (stream l c past) - taken l c past))
      (taken l c past)) (stream l c past)) h
      ∙ sym (drop-drop (min m (length (stream l c past) - taken l c past)) (taken l c past)
      (stream l c past))
      ∙ ap (λ n. drop (min m n) (drop (taken l c past) (stream l c past)))
      (sym (length-drop (taken l c past) (stream l c past)))
      ∙ drop_min m (drop (taken l c past) (stream l c past))

  dropped_if : (k : Bool) (m : ℕ) (x y : List ℕ) → x ≡ drop m y
      → cond k x [] ≡ drop m (cond k y [])
  dropped_if true m x y e = e
  dropped_if false m x y e = sym (drop-nil m)

  -- also after its QUIT
  pub unsent_taken : (past : List Entry) (c id m : ℕ) → (id == c) ≡ true
      → unsent l c (Take id m ∷ past) ≡ drop m (unsent l c past)
  unfolding state keeps
  unsent_taken past c id m same =
      unsent_if (Take id m ∷ past) c
      ∙ dropped_if (keeps past c) m _ (drop (taken l c past) (stream l c past))
      (ap (drop (taken l c (Take id m ∷ past))) (stream_take past c id m)
      ∙ drop_taken past c id m same)
      ∙ ap (drop m) (sym (unsent_if past c))

  -- another's Close is no end
  pub ended_other : (past : List Entry) (c id : ℕ) → (id == c) ≡ false
      → has_ended l c (Close id ∷ past) ≡ has_ended l c past
  unfolding state
  ended_other past c id h =
      ap (λ b. not (is_live (cond b (closed ((state l past).standing id))
      ((state l past).standing c)))) h

  pub ended_close : (past : List Entry) (c id : ℕ) → (id == c) ≡ true
      → has_ended l c (Close id ∷ past) ≡ true
  unfolding state
  ended_close past c id h =
      ap (λ b. not (is_live (cond b (closed ((state l past).standing id))
      ((state l past).standing c)))) h ∙ is_closed ((state l past).standing id)
    where
      is_closed : (x : Standing) → not (is_live (closed x)) ≡ true
      is_closed x = grind arith

  took_other : (past : List Entry) (c id m : ℕ) → (id == c) ≡ false
      → taken l c (Take id m ∷ past) ≡ taken l c past
  took_other past c id m h =
      ap (λ b. cond b (taken l c past + min m (length (stream l c past) - taken l c past))
      (taken l c past)) h

  pub unsent_take_other : (past : List Entry) (c id m : ℕ) → (id == c) ≡ false
      → unsent l c (Take id m ∷ past) ≡ unsent l c past
  unfolding state keeps
  unsent_take_other past c id m h =
      unsent_same past c (Take id m) refl (took_other past c id m h) (stream_take past c id m)

  pub unsent_close_own : (past : List Entry) (c id : ℕ) → (id == c) ≡ true
      → unsent l c (Close id ∷ past) ≡ []
  unfolding state
  unsent_close_own past c id h =
      unsent_gone (Close id ∷ past) c
      (ap (λ b. keeps_bytes (cond b (closed ((state l past).standing id))
      ((state l past).standing c))) h ∙ closed_keeps ((state l past).standing id))

  pub unsent_close_other : (past : List Entry) (c id : ℕ) → (id == c) ≡ false
      → unsent l c (Close id ∷ past) ≡ unsent l c past
  unfolding state keeps
  unsent_close_other past c id h =
      unsent_same past c (Close id)
      (ap (λ b. keeps_bytes (cond b (closed ((state l past).standing id))
      ((state l past).standing c))) h)
      refl (stream_close past c id)

-- ---- what waits is what is unsent

left_is : (k : Bool) (took : ℕ) (xs : List ℕ)
    → length (cond k (drop took xs) []) ≡ cond k (length xs - took) 0
left_is k took xs = grind (arith, length-drop)

keeps_before : (h q : Bool) (x : Standing) → (h ≡ true → is_live x ≡ true)
    → keeps_bytes (cond h (cond q Quit Gone) x) ≡ true → keeps_bytes x ≡ true
keeps_before h q x f e = grind arith

more : (k' k : Bool) (w t : ℕ) (x y : List ℕ) → (k' ≡ true → k ≡ true) → t ≤ length x
    → w ≡ cond k (length x - t) 0 → cond k' (w + length y) 0 ≡ cond k' (length (x ++ y) - t) 0
more k' k w t x y f le e = rw length-append (grind arith)

abbrev Waits : State → ℕ → ℕ → List ℕ → Type 0
Waits s c took xs = s.waiting c ≡ cond (keeps_bytes (s.standing c)) (length xs - took) 0

action_waits : (l : Limits) (t : Action) (s : State) (c took : ℕ) (xs : List ℕ)
    → took ≤ length xs → Waits s c took xs
    → Waits (action_leaves l t s) c took (xs ++ bytes_to c (action_sends l t s))
action_waits l t s c took xs le w =
    more (keeps_bytes (standing_after l t s c)) (keeps_bytes (s.standing c)) (s.waiting c) took xs
    (bytes_to c (action_sends l t s))
    (keeps_before (has_id c (ends l t s)) (quits t c) (s.standing c) (ending_live l t s c))
    le w

take_waits : (l : Limits) (id max : ℕ) (s : State) (c took : ℕ) (xs : List ℕ) → took ≤ length xs
    → Waits s c took xs
    → Waits (next l (Take id max) s) c
    (cond (id == c) (took + min max (length xs - took)) took) xs
take_waits l id max s c took xs le w = grind (arith, min, eqb-true)

close_waits : (l : Limits) (id : ℕ) (s : State) (c took : ℕ) (xs : List ℕ)
    → Waits s c took xs → Waits (next l (Close id) s) c took xs
close_waits l id s c took xs w = grind (arith, eqb-true)

module _ (l : Limits) (c : ℕ) where
  more_bytes : (e : Entry) (past : List Entry)
      → stream l c (e ∷ past) ≡ stream l c past ++ bytes_to c (sends l e (state l past))
  more_bytes e past =
      stream_more l past c e
      ∙ ap (λ x. stream l c past ++ x) (bytes_are (length past + 1) c (sends l e (state l past)))

  waits : (past : List Entry) → Waits (state l past) c (taken l c past) (stream l c past)
  unfolding state stream
  waits [] = refl
  waits (Admit id ∷ past) = rw (more_bytes (Admit id) past, append-nil) (waits past)
  waits (Run id words moment ∷ past) =
      let s = state l past in
      let t = run_action id words moment s in
      rw (more_bytes (Run id words moment) past)
      (action_waits l t s c (taken l c past) (stream l c past)
      (taken_le l past c) (waits past))
  waits (Tick moment ∷ past) =
      let s = state l past in
      let t = tick_action moment s in
      rw (more_bytes (Tick moment) past)
      (action_waits l t s c (taken l c past) (stream l c past)
      (taken_le l past c) (waits past))
  waits (Take id max ∷ past) =
      rw (stream_take l past c id max)
      (take_waits l id max (state l past) c (taken l c past) (stream l c past) (taken_le l past c)
      (waits past))
  waits (Close id ∷ past) =
      rw (stream_close l past c id)
      (close_waits l id (state l past) c (taken l c past) (stream l c past) (waits past))

pub waiting_is_unsent : WaitingIsUnsent
unfolding unsent
waiting_is_unsent l c past =
    waits l c past
    ∙ sym (left_is (keeps_bytes ((state l past).standing c)) (taken l c past) (stream l c past))

-- ---- a Close gives up what was not taken

pub close_gives_up : CloseGivesUp
unfolding state unsent
close_gives_up l c past =
    let rest = drop (taken l c (Close c ∷ past)) (stream l c (Close c ∷ past)) in
    let x = (state l past).standing c in
    ap (λ b. cond (keeps_bytes (cond b (closed x) x)) rest []) (eq-eqb c c refl)
    ∙ ap (λ b. cond b rest []) (closed_keeps x)
