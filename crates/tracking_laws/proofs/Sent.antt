-- What an entry sends a connection, counted.
use Rattle.std.proofs.Common.{◌≡◌, ◌∙◌, inl, inr, ◌+◌, ◌++◌, ℕ, zero, suc, List, [], ◌∷◌, Bool}
use Rattle.std.proofs.Common.{cond, refl, ap, sym, true, false, Option, None, Some, length}
use Rattle.std.proofs.Common.{length-append, arith, map}
use Rattle.std.specs.Prelude.{◌==◌, ◌&&◌, ◌||◌, nat_le, nat_lt, not}
use Rattle.std.proofs.lemmas.Bool.Decides.{nat_tests}
use Rattle.std.proofs.lemmas.List.{map-append}
use Rattle.std.proofs.lemmas.Bool.{both_ways, cases_Bool, eqb-true, false_from_ne_true}
use Rattle.resp_value.specs.declared.value.Proto.{Proto}
use Rattle.resp_value.specs.declared.value.Proto.TheVariants.{Two, Three}
use Rattle.resp_value.specs.declared.value.Value.{Value}
use Rattle.command_words.specs.Words.{reading}
use Rattle.track_modes.specs.ModeState.{ModeState, peer_of, redirect_of}
use Rattle.track_modes.specs.declared.tracking.Tracking.{Tracking}
use Rattle.track_modes.specs.declared.tracking.Tracking.TheVariants.{Off, On}
use Rattle.redirect.specs.declared.routes.Route.{Route}
use Rattle.redirect.specs.declared.routes.Route.TheVariants as route
use Rattle.redirect.specs.Routes.{direct_route, lost_route, redirected_route, subscriber_route}
use Rattle.redirect.specs.Routes.{tracking_route}
use Rattle.serial_model.specs.declared.history.Limits.{Limits}
use Rattle.serial_model.specs.declared.history.Entry.{Entry}
use Rattle.serial_model.specs.declared.history.Entry.TheVariants.{Admit, Run, Tick, Take, Close}
use Rattle.serial_model.specs.State.{State, is_on, is_live}
use Rattle.serial_model.specs.Modes.{is_stopping}
use Rattle.serial_model.specs.Tracking.{Invalidation, has_id, ids_where}
use Rattle.serial_model.specs.EntryEffects.{drops_one}
use Rattle.serial_model.specs.Laws.{closes_by, quits_by, stops}
use Rattle.serial_model.specs.Actions.{Sending, End, Action, action_sends, all_messages, carried}
use Rattle.serial_model.specs.Actions.{ends, expiry_told, is_ending, is_overgrown, later_told}
use Rattle.serial_model.specs.Actions.{messages, modes_then, quits}
use Rattle.serial_model.specs.Actions.{peer_at, replies, route_at, routed, to_one, way}
use Rattle.serial_model.specs.History.{action_told, has_ended, invalidations, is_quit, ran, runs_on}
use Rattle.serial_model.specs.History.{mode, run_action, sent_to, state, tick_action}
use Rattle.serial_model.proofs.Counts.{on_is}
use Rattle.serial_model.proofs.DueLaws.{heard_all}
use Rattle.serial_model.proofs.Ends.{ends_are, ids_test}
use Rattle.serial_model.proofs.Fresh.{action_sends_off}
use Rattle.serial_model.proofs.Quiet.{later_routed, tick_none}
use Rattle.serial_model.proofs.ServedRows.{stop_in}
use Rattle.serial_model.proofs.StateSteps.{run_dropped, run_quits, tick_dropped}
use Rattle.serial_model.proofs.Tables.{sent_to-append}
use Rattle.tracking_laws.specs.Told.{once, where_so}
use Rattle.tracking_laws.specs.Sent.{OnlyAnswered, SentIsTold, answers, goes_to, routes, times_to}

module _ (n c : ℕ) where
  -- ---- one sending to each that a route leads to

  one : (k : ℕ) (m : Sending) → length (sent_to n c ((k, m) ∷ [])) ≡ once (k == c)
  one k m = by (k == c)
    where
      by : (b : Bool) → length {A = ℕ × Sending} (cond b ((n, m) ∷ []) []) ≡ once b
      by true = refl
      by false = refl

  carried_count : (x : Route) (target : ℕ) (keys : Option (List (List ℕ)))
      → length (sent_to n c (carried x (Some target) keys)) ≡ once (goes_to x c)
  carried_count (route.Push k) target keys = one k _
  carried_count (route.Message k) target keys = one k _
  carried_count (route.BrokenNotice k) target keys = one k _
  carried_count route.Nowhere target keys = refl

  module _ (modes : ℕ → ModeState) (on : ℕ → Bool) where
    redirect_count : (x : Option ℕ) (k : ℕ) (p : Proto) (keys : Option (List (List ℕ)))
        → length (sent_to n c (carried (redirected_route x k p (peer_at modes on x)) x keys))
        ≡ once (goes_to (redirected_route x k p (peer_at modes on x)) c)
    redirect_count None k Two keys = refl
    redirect_count None k Three keys = one k _
    redirect_count (Some r) k p keys =
        carried_count (redirected_route (Some r) k p (peer_at modes on (Some r))) r keys

    tracking_count : (t : Tracking) (k : ℕ) (p : Proto) (keys : Option (List (List ℕ)))
        → length (sent_to n c (carried (tracking_route t k p (peer_at modes on (redirect_of t)))
        (redirect_of t) keys))
        ≡ once (goes_to (tracking_route t k p (peer_at modes on (redirect_of t))) c)
    tracking_count Off k p keys = refl
    tracking_count (On s) k p keys = redirect_count s.redirect k p keys

    routed_count : (told : List Invalidation)
        → length (sent_to n c (routed modes on told)) ≡ times_to (route_at modes on) c told
    routed_count [] = refl
    routed_count (i ∷ told) =
        ap length (sent_to-append n c (way modes on i) (routed modes on told))
        ∙ length-append (sent_to n c (way modes on i)) (sent_to n c (routed modes on told))
        ∙ ap (λ k. k + length (sent_to n c (routed modes on told)))
        (tracking_count (modes i.to).tracking i.to (modes i.to).proto i.keys)
        ∙ ap (λ k. once (goes_to (route_at modes on i.to) c) + k) (routed_count told)

  to_more : (to : ℕ → Route) (xs ys : List Invalidation)
      → times_to to c (xs ++ ys) ≡ times_to to c xs + times_to to c ys
  to_more to [] ys = omega arith
  to_more to (x ∷ xs) ys = omega (arith, to_more to xs ys)

  -- one that ends is sent its end once
  ends_count : (test : ℕ → Bool) (k : ℕ)
      → length (sent_to n c (map {B = ℕ × Sending} (λ id. (id, End)) (ids_where test k)))
      ≡ once ((nat_lt 0 c && nat_le c k) && test c)
  ends_count test zero = grind (arith, nat_tests)
  ends_count test (suc k) =
      elim (test (suc k)) as (λ b. test (suc k) ≡ b
      → length (sent_to n c (map {B = ℕ × Sending} (λ id. (id, End))
      (cond b (ids_where test k ++ suc k ∷ []) (ids_where test k))))
      ≡ once ((nat_lt 0 c && nat_le c (suc k)) && test c)) [
        | true ↦ λ e. grind (
          arith,
          nat_tests,
          map-append,
          sent_to-append,
          length-append,
          ends_count test k,
        )
        | false ↦ λ e. grind (arith, nat_tests, ends_count test k)
      ] refl

  -- a reply that is sent, unless the server stops
  reply_count : (id : ℕ) (p : Proto) (stops : Bool) (value : Value)
      → length (sent_to n c (to_one id p (cond stops None (Some value))))
      ≡ once ((id == c) && not stops)
  reply_count id p true value = ap once (sym (and_false (id == c)))
    where
      and_false : (b : Bool) → (b && false) ≡ false
      and_false b = grind arith
  reply_count id p false value = one id _ ∙ ap once (and_true (id == c))
    where
      and_true : (b : Bool) → b ≡ (b && true)
      and_true b = grind arith

-- ---- an action

module _ (l : Limits) (past : List Entry) (c : ℕ) where
  abbrev s : State
  s = state l past

  abbrev n : ℕ
  n = length past + 1

  abbrev told_here : Action → ℕ
  told_here t = times_to (routes l past) c (action_told l t s)

  off_count : (t : Action) (k : ℕ) → is_on s c ≡ false
      → length (sent_to n c (action_sends l t s)) ≡ where_so (runs_on l past c) k
  off_count t k off =
      ap length (action_sends_off l t s n c off)
      ∙ sym (ap (λ b. where_so b k) (sym (on_is l past c) ∙ off))

  parts : (a b d : List (ℕ × Sending))
      → length (sent_to n c (a ++ b ++ d))
      ≡ length (sent_to n c a) + length (sent_to n c b) + length (sent_to n c d)
  parts a b d =
      ap length (sent_to-append n c (a ++ b) d) ∙ length-append (sent_to n c (a ++ b)) _
      ∙ ap (λ k. k + length (sent_to n c d))
      (ap length (sent_to-append n c a b) ∙ length-append (sent_to n c a) (sent_to n c b))

  turned : (a b d : ℕ) → a + b + d ≡ (a + d) + b
  turned a b d = omega arith

  -- to one that is on an action sends its messages and the reply, where what is told behind the
  -- command goes by the modes before it
  action_count : (t : Action) → is_on s c ≡ true
      → routed (modes_then t s) (is_on s) (later_told l t s)
      ≡ routed s.modes (is_on s) (later_told l t s)
      → length (sent_to n c (messages l t s)) ≡ told_here t + length (sent_to n c (replies t))
  action_count t on same =
      let first = expiry_told t s in
      let later = later_told l t s in
      let replied = length (sent_to n c (replies t)) in
      ap length (heard_all n c s (all_messages l t s) on)
      ∙ ap (λ x. length (sent_to n c (routed s.modes (is_on s) first ++ replies t ++ x))) same
      ∙ parts (routed s.modes (is_on s) first) (replies t) (routed s.modes (is_on s) later)
      ∙ turned (length (sent_to n c (routed s.modes (is_on s) first))) replied
      (length (sent_to n c (routed s.modes (is_on s) later)))
      ∙ ap (λ k. k + length (sent_to n c (routed s.modes (is_on s) later)) + replied)
      (routed_count n c s.modes (is_on s) first)
      ∙ ap (λ k. times_to (routes l past) c first + k + replied)
      (routed_count n c s.modes (is_on s) later)
      ∙ ap (λ k. k + replied) (sym (to_more n c (routes l past) first later))

  -- and its end behind them, where it ends
  sends_count : (t : Action) → is_on s c ≡ true
      → routed (modes_then t s) (is_on s) (later_told l t s)
      ≡ routed s.modes (is_on s) (later_told l t s)
      → length (sent_to n c (action_sends l t s))
      ≡ told_here t + length (sent_to n c (replies t)) + once (has_id c (ends l t s))
  sends_count t on same =
      ap length (sent_to-append n c (messages l t s) _)
      ∙ length-append (sent_to n c (messages l t s)) _
      ∙ ap (λ k. length (sent_to n c (messages l t s)) + k)
      (ends_count n c (is_ending l t s) s.admitted
      ∙ sym (ap once (ids_test (is_ending l t s) c s.admitted)))
      ∙ ap (λ k. k + once (has_id c (ends l t s))) (action_count t on same)

  -- one that is on ends where it quits or is dropped
  ends_or_not : (ends on quits mine stops over drops : Bool)
      → ends ≡ (on && (quits || stops || over)) → on ≡ true → quits ≡ mine
      → drops ≡ (ends && not mine) → ends ≡ (mine || drops)
  ends_or_not ends on quits mine stops over drops is e f g = grind arith

  run_count : (id : ℕ) (words : List (List ℕ)) (moment : ℕ) → is_on s c ≡ true
      → length (sent_to n c (action_sends l (run_action id words moment s) s))
      ≡ told_here (run_action id words moment s)
      + once ((id == c) && not (stops (reading words) (mode l id past)))
      + once (((id == c) && is_quit words) || drops_one l (Run id words moment) past c)
  run_count id words moment on =
      let t = run_action id words moment s in
      sends_count t on (later_routed l past id words moment)
      ∙ ap (λ k. told_here t + k + once (has_id c (ends l t s)))
      (reply_count n c id t.effect.mode.proto (is_stopping t.effect.ending)
      (ran l past id words moment).reply
      ∙ ap (λ b. once ((id == c) && not b)) (stop_in (mode l id past) words))
      ∙ ap (λ b. told_here t + once ((id == c) && not (stops (reading words) (mode l id past)))
      + once b)
      (ends_or_not (has_id c (ends l t s)) (is_on s c) (quits t c) _
      (is_stopping t.effect.ending) (is_overgrown l t s c) _ (ends_are l t s c) on
      (run_quits id moment words s c) (run_dropped l past c id moment words))

  tick_count : (moment : ℕ) → is_on s c ≡ true
      → length (sent_to n c (action_sends l (tick_action moment s) s))
      ≡ told_here (tick_action moment s) + 0 + once (drops_one l (Tick moment) past c)
  tick_count moment on =
      let t = tick_action moment s in
      sends_count t on
      (ap (routed (modes_then t s) (is_on s)) (tick_none l past moment)
      ∙ ap (routed s.modes (is_on s)) (sym (tick_none l past moment)))
      ∙ ap (λ b. told_here t + 0 + once b) (sym (tick_dropped l past c moment))

-- ---- entries

no_end : (k m : ℕ) (b : Bool) → k ≡ m → k ≡ m + once (b && false)
no_end k m b e = grind arith

silent : (b d : Bool) → 0 ≡ where_so b (0 + 0 + 0) + once (d && false)
silent b d = grind arith

close_count : (n c id : ℕ) (live on mine : Bool) → ((id == c) ≡ true → live ≡ mine)
    → length (sent_to n c (cond live ((id, End) ∷ []) []))
    ≡ where_so on (0 + 0 + 0) + once (not (not mine) && (id == c))
close_count n c id live on mine f = grind arith

pub sent_is_told : (l : Limits) (entry : Entry) (past : List Entry) → SentIsTold l entry past
sent_is_told l (Admit id) past c = silent (runs_on l past c) (not (has_ended l c past))
sent_is_told l (Run id words moment) past c =
    let s = state l past in
    let t = run_action id words moment s in
    let told = times_to (routes l past) c (invalidations l (Run id words moment) past)
    + once (answers l (Run id words moment) past c)
    + once (((id == c) && is_quit words) || drops_one l (Run id words moment) past c) in
    no_end _ (where_so (runs_on l past c) told) (not (has_ended l c past))
    (elim (cases_Bool (is_on s c)) [
      | inl on ↦ run_count l past c id words moment on
          ∙ sym (ap (λ b. where_so b told) (sym (on_is l past c) ∙ on))
      | inr off ↦ off_count l past c t told off
    ])
sent_is_told l (Tick moment) past c =
    let s = state l past in
    let t = tick_action moment s in
    let told = times_to (routes l past) c (invalidations l (Tick moment) past) + 0
    + once (drops_one l (Tick moment) past c) in
    no_end _ (where_so (runs_on l past c) told) (not (has_ended l c past))
    (elim (cases_Bool (is_on s c)) [
      | inl on ↦ tick_count l past c moment on
          ∙ sym (ap (λ b. where_so b told) (sym (on_is l past c) ∙ on))
      | inr off ↦ off_count l past c t told off
    ])
sent_is_told l (Take id max) past c = silent (runs_on l past c) (not (has_ended l c past))
sent_is_told l (Close id) past c =
    close_count (length past + 1) c id (is_live ((state l past).standing id)) (runs_on l past c)
    (is_live ((state l past).standing c))
    (λ e. ap (λ k. is_live ((state l past).standing k)) (eqb-true id c e))

-- ---- on the second protocol, not subscribed

module _ (modes : ℕ → ModeState) (on : ℕ → Bool) (c : ℕ) (two : (modes c).proto ≡ Two)
    (apart : (modes c).subscribed ≡ false) where
  not_three : (k : ℕ) → (modes k).proto ≡ Three → (k == c) ≡ false
  not_three k e =
      false_from_ne_true _ (λ same. let no : Two ≡ Three
      = sym two ∙ ap (λ j. (modes j).proto) (sym (eqb-true k c same)) ∙ e in cc)

  not_subscribed : (k : ℕ) → (modes k).subscribed ≡ true → (k == c) ≡ false
  not_subscribed k e =
      false_from_ne_true _ (λ same. both_ways _ apart
      (ap (λ j. (modes j).subscribed) (sym (eqb-true k c same)) ∙ e))

  direct_none : (k : ℕ) (p : Proto) → (modes k).proto ≡ p → goes_to (direct_route k p) c ≡ false
  direct_none k Two e = refl
  direct_none k Three e = not_three k e

  lost_none : (k : ℕ) (p : Proto) → (modes k).proto ≡ p → goes_to (lost_route k p) c ≡ false
  lost_none k Two e = refl
  lost_none k Three e = not_three k e

  peer_none : (k : ℕ) (p : Proto) (b : Bool) → (modes k).proto ≡ p → (modes k).subscribed ≡ b
      → goes_to (subscriber_route k p b) c ≡ false
  peer_none k Three b e f = not_three k e
  peer_none k Two true e f = not_subscribed k f
  peer_none k Two false e f = refl

  redirect_none : (x : Option ℕ) (k : ℕ)
      → goes_to (redirected_route x k (modes k).proto (peer_at modes on x)) c ≡ false
  redirect_none None k = direct_none k (modes k).proto refl
  redirect_none (Some r) k =
      elim (on r) as (λ b. goes_to (redirected_route (Some r) k (modes k).proto
      (cond b (Some (peer_of (modes r))) None)) c ≡ false) [
        | true ↦ peer_none r (modes r).proto (modes r).subscribed refl refl
        | false ↦ lost_none k (modes k).proto refl
      ]

  tracking_none : (t : Tracking) (k : ℕ)
      → goes_to (tracking_route t k (modes k).proto (peer_at modes on (redirect_of t))) c ≡ false
  tracking_none Off k = refl
  tracking_none (On s) k = redirect_none s.redirect k

  none_goes : (told : List Invalidation) → times_to (route_at modes on) c told ≡ 0
  none_goes [] = refl
  none_goes (i ∷ told) =
      none_more (goes_to (route_at modes on i.to) c) (times_to (route_at modes on) c told)
      (tracking_none (modes i.to).tracking i.to) (none_goes told)
    where
      none_more : (b : Bool) (k : ℕ) → b ≡ false → k ≡ 0 → once b + k ≡ 0
      none_more b k e f = grind arith

without : (runs : Bool) (told a b d : ℕ) → told ≡ 0
    → where_so runs (told + a + b) + d ≡ where_so runs (a + b) + d
without runs told a b d e = grind arith

pub only_answered : (l : Limits) (entry : Entry) (past : List Entry) → OnlyAnswered l entry past
only_answered l entry past c two apart =
    let s = state l past in
    sent_is_told l entry past c
    ∙ without (runs_on l past c) (times_to (routes l past) c (invalidations l entry past))
    (once (answers l entry past c)) (once (quits_by entry c || drops_one l entry past c))
    (once (not (has_ended l c past) && closes_by entry c))
    (none_goes s.modes (is_on s) c two apart (invalidations l entry past))
