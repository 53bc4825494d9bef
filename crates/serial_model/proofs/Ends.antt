-- A connection's end: where it ends it is sent, and it is the last.
use Rattle.std.proofs.Common.{◌≡◌, ◌+◌, ◌<◌, ◌≤◌, ℕ, zero, suc, List, [], ◌∷◌, ◌++◌, Bool, true}
use Rattle.std.proofs.Common.{false}
use Rattle.std.proofs.Common.{cond, refl, sym, ap, ◌∙◌, arith, map, append_assoc, append-nil}
use Rattle.std.proofs.Common.{length}
use Rattle.std.specs.Prelude.{◌||◌, ◌&&◌, not, nat_le, nat_lt}
use Rattle.std.proofs.lemmas.Bool.{eqb-true, or_from, and_right}
use Rattle.std.proofs.lemmas.List.{map-append}
use Rattle.std.proofs.lemmas.Bool.Decides.{nat_tests}
use Rattle.std.proofs.lemmas.List.Folds.{list_any-append}
use Rattle.serial_model.specs.declared.history.Limits.{Limits}
use Rattle.serial_model.specs.declared.history.Entry.{Entry}
use Rattle.serial_model.specs.declared.history.Entry.TheVariants.{Admit, Run, Tick, Take, Close}
use Rattle.serial_model.specs.declared.standing.Standing.{Standing}
use Rattle.serial_model.specs.declared.standing.Standing.TheVariants.{Quit, Gone}
use Rattle.serial_model.specs.Modes.{is_stopping}
use Rattle.serial_model.specs.State.{State, is_on, is_live, at}
use Rattle.serial_model.specs.Tracking.{has_id, ids_where}
use Rattle.serial_model.specs.Actions.{Sending, End, Action, action_sends, action_leaves, ends}
use Rattle.serial_model.specs.Actions.{messages}
use Rattle.serial_model.specs.Actions.{all_messages, quits, is_ending, is_overgrown}
use Rattle.serial_model.specs.History.{state, sends, next, sent, sent_to, run_action, tick_action}
use Rattle.serial_model.specs.Laws.{has_end, ModeByOwnRuns, EndIsSent, EndIsLast, EndIsAtItsEntry}
use Rattle.serial_model.proofs.Tables.{sent_to-append}
use Rattle.serial_model.proofs.Sendings.{ends_to, none_to, none_live, messages_none, sent_none}

pub step : (l : Limits) (e : Entry) (past : List Entry)
    → state l (e ∷ past) ≡ next l e (state l past)
unfolding state
step l e past = refl

abbrev pub gone : State → ℕ → Bool
gone s c = not (is_live (s.standing c))

-- ---- modes

at_same : {X : Type 0} (id : ℕ) (f : ℕ → X) (c : ℕ) → at id (f id) f c ≡ f c
at_same id f c = grind (arith, eqb-true)

pub mode_by_own_runs : ModeByOwnRuns
unfolding state
mode_by_own_runs l c (Admit id) past h = refl
mode_by_own_runs l c (Run id words moment) past h = grind arith
mode_by_own_runs l c (Tick moment) past h = at_same 0 (state l past).modes c
mode_by_own_runs l c (Take id max) past h = refl
mode_by_own_runs l c (Close id) past h = refl

-- ---- those for which a test holds

pub ids_test : (test : ℕ → Bool) (c n : ℕ)
    → has_id c (ids_where test n) ≡ ((nat_lt 0 c && nat_le c n) && test c)
ids_test test c zero = grind (arith, nat_tests)
ids_test test c (suc n) =
    grind (arith, list_any-append, nat_tests, eqb-true, ids_test test c n)

each_of : (a x b : Bool) → (a && (x && b)) ≡ ((a && x) && b)
each_of a x b = grind arith

-- whom an action ends was on
pub ends_are : (l : Limits) (t : Action) (s : State) (c : ℕ)
    → has_id c (ends l t s)
    ≡ (is_on s c && (quits t c || is_stopping t.effect.ending || is_overgrown l t s c))
ends_are l t s c =
    ids_test (is_ending l t s) c s.admitted
    ∙ each_of (nat_lt 0 c && nat_le c s.admitted) (is_live (s.standing c)) _

-- ---- ends

action_end : (l : Limits) (t : Action) (s : State) (n c : ℕ)
    → has_end (sent_to n c (action_sends l t s)) ≡ has_id c (ends l t s)
action_end l t s n c =
    ap has_end (sent_to-append n c (messages l t s) (map (λ id. (id, End)) (ends l t s)))
    ∙ list_any-append _ (sent_to n c (messages l t s)) _
    ∙ ap (λ b. b || has_end (sent_to n c (map (λ id. (id, End)) (ends l t s))))
    (sent_none n c (messages l t s) (messages_none l t s))
    ∙ ends_to n c (ends l t s)

stands : (q h : Bool) (x : Standing) (y z : Standing) → is_live y ≡ false → is_live z ≡ false
    → not (is_live (cond h (cond q y z) x)) ≡ (not (is_live x) || h)
stands q h x y z e f = grind arith

action_gone : (l : Limits) (t : Action) (s : State) (n c : ℕ)
    → gone (action_leaves l t s) c ≡ (gone s c || has_end (sent_to n c (action_sends l t s)))
action_gone l t s n c =
    stands (quits t c) (has_id c (ends l t s)) (s.standing c) Quit Gone refl refl
    ∙ ap (λ b. gone s c || b) (sym (action_end l t s n c))

-- whether a connection has ended after an entry
pub ended_then : (l : Limits) (e : Entry) (s : State) (n c : ℕ)
    → gone (next l e s) c ≡ (gone s c || has_end (sent_to n c (sends l e s)))
ended_then l (Admit id) s n c = grind arith
ended_then l (Run id words moment) s n c =
    let t = run_action id words moment s in action_gone l t s n c
ended_then l (Tick moment) s n c =
    let t = tick_action moment s in action_gone l t s n c
ended_then l (Take id max) s n c = grind arith
ended_then l (Close id) s n c = grind (arith, eqb-true)

pub end_is_sent : EndIsSent
unfolding state
end_is_sent l c [] = refl
end_is_sent l c (e ∷ past) =
    ended_then l e (state l past) (length past + 1) c
    ∙ ap (λ b. b || has_end (sent_to (length past + 1) c (sends l e (state l past))))
    (end_is_sent l c past)
    ∙ sym (list_any-append _ (sent l c past) _)

-- ---- the end is last

not_ending : (l : Limits) (t : Action) (s : State) (c : ℕ) → is_live (s.standing c) ≡ false
    → has_id c (ends l t s) ≡ false
not_ending l t s c h =
    ends_are l t s c
    ∙ ap (λ b. b && (quits t c || is_stopping t.effect.ending || is_overgrown l t s c))
    (and_right _ _ h)

action_sends_none : (l : Limits) (t : Action) (s : State) (n c : ℕ)
    → is_live (s.standing c) ≡ false
    → sent_to n c (action_sends l t s) ≡ []
action_sends_none l t s n c h =
    sent_to-append n c (messages l t s) (map (λ id. (id, End)) (ends l t s))
    ∙ ap (λ x. x ++ sent_to n c (map (λ id. (id, End)) (ends l t s)))
    (none_live n c (is_on s) (all_messages l t s) (and_right _ _ h))
    ∙ none_to n c (ends l t s) (not_ending l t s c h)

pub sends_none : (l : Limits) (e : Entry) (s : State) (n c : ℕ) → is_live (s.standing c) ≡ false
    → sent_to n c (sends l e s) ≡ []
sends_none l (Admit id) s n c h = refl
sends_none l (Run id words moment) s n c h =
    let t = run_action id words moment s in
    action_sends_none l t s n c h
sends_none l (Tick moment) s n c h =
    action_sends_none l (tick_action moment s) s n c h
sends_none l (Take id max) s n c h = refl
sends_none l (Close id) s n c h = grind (arith, eqb-true)

pub end_is_last : EndIsLast
end_is_last l c e past h =
    ap (λ x. sent l c past ++ x)
    (sends_none l e (state l past) (length past + 1) c (grind arith))
    ∙ append-nil (sent l c past)

-- ---- where a connection ends

pub record EndsWith (n : ℕ) (ss : List (ℕ × Sending)) : Type 0 where
  pub before : List (ℕ × Sending)
  pub none : has_end before ≡ false
  pub is : ss ≡ before ++ (n, End) ∷ []

-- the ids for which a test holds are ascending, so each stands there once
once : (test : ℕ → Bool) (n c : ℕ) (k : ℕ) → k < c → has_id c (ids_where test k) ≡ false
once test n c zero h = refl
once test n c (suc k) h = grind (arith, list_any-append, nat_tests, once test n c k (omega arith))

one_last : (n c k : ℕ) (ids : List ℕ) → (k < c → has_id c ids ≡ false)
    → (has_id c ids ≡ true → sent_to n c (map (λ id. (id, End)) ids) ≡ (n, End) ∷ [])
    → (has_id c ids ≡ true → c ≤ k)
    → has_id c (ids ++ suc k ∷ []) ≡ true
    → sent_to n c (map (λ id. (id, End)) (ids ++ suc k ∷ [])) ≡ (n, End) ∷ []
one_last n c k ids f g b h =
    rw (map-append, sent_to-append)
    (grind (arith, list_any-append, none_to, nat_tests, append-nil))

within : (test : ℕ → Bool) (c k : ℕ) → has_id c (ids_where test k) ≡ true → c ≤ k
within test c zero h = absurd (let no : ⊥ = cc in no)
within test c (suc k) h = grind (arith, list_any-append, nat_tests, within test c k)

one_end : (test : ℕ → Bool) (n c k : ℕ) → has_id c (ids_where test k) ≡ true
    → sent_to n c (map (λ id. (id, End)) (ids_where test k)) ≡ (n, End) ∷ []
one_end test n c zero h = absurd (let no : ⊥ = cc in no)
one_end test n c (suc k) h =
    elim (test (suc k))
    as (λ b. has_id c (cond b (ids_where test k ++ suc k ∷ []) (ids_where test k)) ≡ true
    → sent_to n c (map (λ id. (id, End))
    (cond b (ids_where test k ++ suc k ∷ []) (ids_where test k)))
    ≡ (n, End) ∷ []) [
      | true ↦ λ h. one_last n c k (ids_where test k) (once test n c k) (one_end test n c k)
          (within test c k) h
      | false ↦ λ h. one_end test n c k h
    ] h

action_ends_with : (l : Limits) (t : Action) (s : State) (n c : ℕ) → gone s c ≡ false
    → gone (action_leaves l t s) c ≡ true → EndsWith n (sent_to n c (action_sends l t s))
action_ends_with l t s n c live ended =
    record {
      before = sent_to n c (messages l t s);
      none = sent_none n c (messages l t s) (messages_none l t s);
      is = sent_to-append n c (messages l t s) (map (λ id. (id, End)) (ends l t s))
          ∙ ap (λ x. sent_to n c (messages l t s) ++ x)
          (one_end (is_ending l t s) n c s.admitted
          (right (gone s c) (has_id c (ends l t s)) live
          (ap (λ b. gone s c || b) (sym (action_end l t s n c)) ∙ sym (action_gone l t s n c)
          ∙ ended)));
    }
  where
    right : (a b : Bool) → a ≡ false → (a || b) ≡ true → b ≡ true
    right a b e f = grind arith

ends_with : (l : Limits) (e : Entry) (s : State) (n c : ℕ) → gone s c ≡ false
    → gone (next l e s) c ≡ true → EndsWith n (sent_to n c (sends l e s))
ends_with l (Admit id) s n c live ended = absurd (let no : ⊥ = cc in no)
ends_with l (Run id words moment) s n c live ended =
    let t = run_action id words moment s in
    action_ends_with l t s n c live ended
ends_with l (Tick moment) s n c live ended =
    let t = tick_action moment s in
    action_ends_with l t s n c live ended
ends_with l (Take id max) s n c live ended = absurd (let no : ⊥ = cc in no)
ends_with l (Close id) s n c live ended = closed_with l id s n c live ended
  where
    closed_with : (l : Limits) (id : ℕ) (s : State) (n c : ℕ) → gone s c ≡ false
        → gone (next l (Close id) s) c ≡ true → EndsWith n (sent_to n c (sends l (Close id) s))
    closed_with l id s n c live ended =
        record {
          before = [];
          none = refl;
          is = grind (arith, eqb-true);
        }

pub end_is_at_its_entry : EndIsAtItsEntry
unfolding state
end_is_at_its_entry l c e past live ended =
    let w = ends_with l e (state l past) (length past + 1) c live ended in (
      sent l c past ++ w.before,
      (list_any-append _ (sent l c past) w.before
          ∙ or_from _ _ (sym (end_is_sent l c past) ∙ live) w.none),
      (ap (λ x. sent l c past ++ x) w.is
          ∙ sym (append_assoc (sent l c past) w.before ((length past + 1, End) ∷ []))),
    )
