-- Whom an entry drops, and why: so the limit of what waits is kept, and a SHUTDOWN ends all.
use Rattle.std.proofs.Common.{◌≡◌, ◌∙◌, ◌+◌, ◌≤◌, ℕ, List, [], ◌∷◌, ◌++◌, Bool, true, false, cond}
use Rattle.std.proofs.Common.{length, map, append-nil, refl, sym, ap, arith, inl, inr}
use Rattle.std.specs.Prelude.{◌==◌, ◌&&◌, ◌||◌, not, nat_le, nat_lt}
use Rattle.std.proofs.lemmas.Bool.{both_ways, cases_Bool, false_from_ne_true, ltb-false, or_cases}
use Rattle.std.proofs.lemmas.Bool.Decides.{nat_tests}
use Rattle.std.proofs.lemmas.Grind.{flat_map-append}
use Rattle.command_words.specs.Words.{reading}
use Rattle.serial_model.specs.declared.history.Limits.{Limits}
use Rattle.serial_model.specs.declared.history.Entry.{Entry}
use Rattle.serial_model.specs.declared.history.Entry.TheVariants.{Admit, Run, Tick, Take, Close}
use Rattle.serial_model.specs.declared.standing.Standing.{Standing}
use Rattle.serial_model.specs.declared.standing.Standing.TheVariants.{Quit, Gone}
use Rattle.serial_model.specs.Modes.{is_stopping}
use Rattle.serial_model.specs.State.{State, closed, is_live, is_on, keeps_bytes}
use Rattle.serial_model.specs.Tracking.{has_id}
use Rattle.serial_model.specs.Actions.{Action, End, action_leaves, action_sends, bytes_to, ends}
use Rattle.serial_model.specs.Actions.{is_overgrown, messages, quits, sending_bytes}
use Rattle.serial_model.specs.Actions.{standing_after}
use Rattle.serial_model.specs.EntryEffects.{dropped_by}
use Rattle.serial_model.specs.History.{has_ended, is_quit, is_stopped, mode, next, run_action}
use Rattle.serial_model.specs.History.{sent_bytes, sent_to, state, tick_action, unsent}
use Rattle.serial_model.specs.Laws.{DropIsCaused, DropIsOnce, EndIsCaused, LimitIsKept}
use Rattle.serial_model.specs.Laws.{StoppedHasEnded, StoppedIsShutdown, has_shutdown, stops}
use Rattle.serial_model.proofs.Counts.{on_is}
use Rattle.serial_model.proofs.Ends.{ends_are}
use Rattle.serial_model.proofs.Fresh.{action_sends_off}
use Rattle.serial_model.proofs.Sendings.{bytes_are}
use Rattle.serial_model.proofs.ServedRows.{stop_in}
use Rattle.serial_model.proofs.Standings.{ended_close}
use Rattle.serial_model.proofs.StateSteps.{drop_live, ended_by_run, run_dropped, run_quits}
use Rattle.serial_model.proofs.StateSteps.{tick_dropped, tick_ended, tick_quits}
use Rattle.serial_model.proofs.Streams.{close_bytes, not_ended, waiting_is_unsent}

-- ---- a server that a SHUTDOWN stopped

swapped : (a b c : Bool) → a ≡ c → (a || b) ≡ (b || c)
swapped a b c e = grind arith

or_false : (b : Bool) → (b || false) ≡ b
or_false b = grind arith

pub stopped_is_shutdown : StoppedIsShutdown
unfolding state
stopped_is_shutdown l [] = refl
stopped_is_shutdown l (Admit id ∷ past) = stopped_is_shutdown l past
stopped_is_shutdown l (Run id words moment ∷ past) =
    ap (λ b. is_stopped l past || b) (stop_in (mode l id past) words)
    ∙ swapped (is_stopped l past) (stops (reading words) (mode l id past)) (has_shutdown l past)
    (stopped_is_shutdown l past)
stopped_is_shutdown l (Tick moment ∷ past) =
    or_false (is_stopped l past) ∙ stopped_is_shutdown l past
stopped_is_shutdown l (Take id max ∷ past) = stopped_is_shutdown l past
stopped_is_shutdown l (Close id ∷ past) = stopped_is_shutdown l past

none_left : (n h q stop over : Bool) (x : Standing)
    → h ≡ ((n && is_live x) && (q || stop || over)) → stop ≡ true
    → (n && is_live (cond h (cond q Quit Gone) x)) ≡ false
none_left n h q stop over x is e = grind arith

still_off : (n b : Bool) (x y : Standing) → (n && is_live x) ≡ false
    → (n && is_live (cond b (closed y) x)) ≡ false
still_off n b x y off = grind arith

pub stopped_has_ended : StoppedHasEnded
unfolding state
stopped_has_ended l c [] legal h = absurd (let no : ⊥ = cc in no)
stopped_has_ended l c (Admit id ∷ past) legal h = absurd (both_ways _ legal.0 h)
stopped_has_ended l c (Run id words moment ∷ past) legal h =
    let s = state l past in
    let t = run_action id words moment s in
    elim (or_cases (is_stopped l past) _ h) [
      | inl before ↦ absurd (both_ways _ (stopped_has_ended l id past legal.2 before) legal.0)
      | inr now ↦ sym (on_is l (Run id words moment ∷ past) c)
          ∙ none_left (nat_lt 0 c && nat_le c s.admitted) (has_id c (ends l t s)) (quits t c)
          (is_stopping t.effect.ending) (is_overgrown l t s c) (s.standing c)
          (ends_are l t s c) now
    ]
stopped_has_ended l c (Tick moment ∷ past) legal h =
    absurd (both_ways _ legal.0 (sym (or_false (is_stopped l past)) ∙ h))
stopped_has_ended l c (Take id max ∷ past) legal h = stopped_has_ended l c past legal.2 h
stopped_has_ended l c (Close id ∷ past) legal h =
    let s = state l past in
    sym (on_is l (Close id ∷ past) c)
    ∙ still_off (nat_lt 0 c && nat_le c s.admitted) (id == c) (s.standing c) (s.standing id)
    (on_is l past c ∙ stopped_has_ended l c past legal.1 h)

-- ---- the limit

ends_no_bytes : (c : ℕ) (ids : List ℕ) → bytes_to c (map (λ id. (id, End)) ids) ≡ []
ends_no_bytes c [] = refl
ends_no_bytes c (x ∷ xs) = grind (arith, ends_no_bytes c xs)

-- an end has no bytes
bytes_in_turn : (l : Limits) (t : Action) (s : State) (c : ℕ)
    → bytes_to c (action_sends l t s) ≡ bytes_to c (messages l t s)
bytes_in_turn l t s c =
    flat_map-append (λ m. cond (m.0 == c) (sending_bytes m.1) []) (messages l t s) _
    ∙ ap (λ x. bytes_to c (messages l t s) ++ x) (ends_no_bytes c (ends l t s))
    ∙ append-nil _

bytes_off : (l : Limits) (t : Action) (s : State) (c : ℕ) → is_on s c ≡ false
    → bytes_to c (action_sends l t s) ≡ []
bytes_off l t s c off =
    sym (bytes_are 0 c (action_sends l t s)) ∙ ap sent_bytes (action_sends_off l t s 0 c off)

-- one that goes on after an action went on before it, and does not end by it
goes_on : (h q : Bool) (x : Standing) → not (is_live (cond h (cond q Quit Gone) x)) ≡ false
    → (h ≡ false) × (not (is_live x) ≡ false)
goes_on h q x e = grind arith

not_over : (h on q stop over : Bool) → h ≡ (on && (q || stop || over)) → h ≡ false → on ≡ true
    → over ≡ false
not_over h on q stop over is e f = grind arith

kept_or_none : (k : Bool) (n m : ℕ) → n ≤ m → cond k n 0 ≤ m
kept_or_none k n m le = grind arith

abbrev gone : State → ℕ → Bool
gone s c = not (is_live (s.standing c))

module _ (l : Limits) (c : ℕ) where
  abbrev Within : State → Type 0
  Within s = gone s c ≡ false → s.waiting c ≤ l.out_max

  action_within : (t : Action) (s : State) → Within s → Within (action_leaves l t s)
  action_within t s le live =
      let p = goes_on (has_id c (ends l t s)) (quits t c) (s.standing c) live in
      kept_or_none (keeps_bytes (standing_after l t s c))
      (s.waiting c + length (bytes_to c (action_sends l t s))) l.out_max
      (elim (cases_Bool (is_on s c)) [
        | inl on ↦ rw (bytes_in_turn l t s c)
            (ltb-false l.out_max (s.waiting c + length (bytes_to c (messages l t s)))
            (not_over (has_id c (ends l t s)) (is_on s c) (quits t c) _ _ (ends_are l t s c) p.0
            on))
        | inr off ↦ rw (bytes_off l t s c off) (let w = le p.1 in omega (arith, w))
      ])

  take_within : (id max : ℕ) (s : State) → Within s → Within (next l (Take id max) s)
  take_within id max s le live = grind (arith, nat_tests)

  close_within : (id : ℕ) (s : State) → Within s → Within (next l (Close id) s)
  close_within id s le live = grind (arith, nat_tests)

  within : (past : List Entry) → Within (state l past)
  unfolding state
  within [] live = omega arith
  within (Admit id ∷ past) live = within past live
  within (Run id words moment ∷ past) live =
      action_within (run_action id words moment (state l past)) (state l past) (within past) live
  within (Tick moment ∷ past) live =
      action_within (tick_action moment (state l past)) (state l past) (within past) live
  within (Take id max ∷ past) live = take_within id max (state l past) (within past) live
  within (Close id ∷ past) live = close_within id (state l past) (within past) live

pub limit_is_kept : LimitIsKept
limit_is_kept l c past live =
    let w = within l c past live in
    let e = waiting_is_unsent l c past in omega (arith, w, e)

-- ---- whom an entry drops

-- more bytes wait than the limit, by the state and by what is sent
overgrown_is : (l : Limits) (past : List Entry) (t : Action) (n c : ℕ)
    → is_overgrown l t (state l past) c
    ≡ nat_lt l.out_max (length (unsent l c past)
    + length (sent_bytes (sent_to n c (action_sends l t (state l past)))))
overgrown_is l past t n c =
    let s = state l past in
    ap (λ w. nat_lt l.out_max (w + length (bytes_to c (messages l t s))))
    (waiting_is_unsent l c past)
    ∙ ap (λ (x : List ℕ). nat_lt l.out_max (length (unsent l c past) + length x))
    (sym (bytes_are n c (action_sends l t s) ∙ bytes_in_turn l t s c))

by_run : (on q stop over q' stop' over' : Bool) → on ≡ true → q ≡ q' → stop ≡ stop'
    → over ≡ over' → ((on && (q || stop || over)) && not q') ≡ ((stop' || over') && not q')
by_run on q stop over q' stop' over' e f g h = grind arith

by_tick : (on q over over' : Bool) → on ≡ true → q ≡ false → over ≡ over'
    → (on && (q || false || over)) ≡ ((false || over') && true)
by_tick on q over over' e f g = grind arith

-- what sends a connection nothing drops nobody
calm : (limit n : ℕ) (bytes : List ℕ) → bytes ≡ [] → n ≤ limit
    → false ≡ ((false || nat_lt limit (n + length bytes)) && true)
calm limit n bytes none le = rw none (grind (arith, nat_tests))

pub drop_is_caused : DropIsCaused
unfolding dropped_by
drop_is_caused l c (Run id words moment) past on =
    let s = state l past in
    let t = run_action id words moment s in
    run_dropped l past c id moment words
    ∙ ap (λ h. h && not ((id == c) && is_quit words)) (ends_are l t s c)
    ∙ by_run (is_on s c) (quits t c) (is_stopping t.effect.ending) (is_overgrown l t s c) _ _ _
    (on_is l past c ∙ on) (run_quits id moment words s c) (stop_in (mode l id past) words)
    (overgrown_is l past t (length past + 1) c)
drop_is_caused l c (Tick moment) past on =
    let s = state l past in
    let t = tick_action moment s in
    tick_dropped l past c moment ∙ ends_are l t s c
    ∙ by_tick (is_on s c) (quits t c) (is_overgrown l t s c) _ (on_is l past c ∙ on)
    (tick_quits moment s c) (overgrown_is l past t (length past + 1) c)
drop_is_caused l c (Admit id) past on =
    calm l.out_max (length (unsent l c past)) [] refl
    (limit_is_kept l c past (not_ended l past c on))
drop_is_caused l c (Take id max) past on =
    calm l.out_max (length (unsent l c past)) [] refl
    (limit_is_kept l c past (not_ended l past c on))
drop_is_caused l c (Close id) past on =
    calm l.out_max (length (unsent l c past)) _
    (close_bytes l (length past + 1) c id (state l past))
    (limit_is_kept l c past (not_ended l past c on))

pub drop_is_once : DropIsOnce
unfolding dropped_by
drop_is_once l c e past off =
    false_from_ne_true _ (λ d. both_ways _ off (sym (on_is l past c) ∙ drop_live l past e c d))

-- ---- who ends

parts : (before q d : Bool) → before ≡ false → (before || (q || d)) ≡ ((d || q) || false)
parts before q d e = grind arith

dropped : (before d : Bool) → before ≡ false → (before || d) ≡ ((d || false) || false)
dropped before d e = grind arith

closes : (b before : Bool) → before ≡ false → cond b true before ≡ ((false || false) || b)
closes b before e = grind arith

pub end_is_caused : EndIsCaused
unfolding state dropped_by
end_is_caused l c (Run id words moment) past on =
    ended_by_run l past c id moment words (λ q. on)
    ∙ parts (has_ended l c past) ((id == c) && is_quit words) _ (not_ended l past c on)
end_is_caused l c (Tick moment) past on =
    tick_ended l past c moment ∙ dropped (has_ended l c past) _ (not_ended l past c on)
end_is_caused l c (Admit id) past on = not_ended l past c on
end_is_caused l c (Take id max) past on = not_ended l past c on
end_is_caused l c (Close id) past on =
    ended_close l past c id ∙ closes (id == c) (has_ended l c past) (not_ended l past c on)
