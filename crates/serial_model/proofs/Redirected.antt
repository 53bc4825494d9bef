-- What an entry tells a connection that redirects its messages is sent to their target.
use Rattle.std.proofs.Common.{◌≡◌, ◌∙◌, ◌+◌, ◌⊎◌, ℕ, List, Bool, true, cond, length, refl, sym}
use Rattle.std.proofs.Common.{ap, inl, inr, None, Some}
use Rattle.std.specs.List.{list_any}
use Rattle.resp_value.specs.declared.value.Proto.{Proto}
use Rattle.resp_value.specs.declared.value.Proto.TheVariants.{Two, Three}
use Rattle.track_modes.specs.declared.tracking.Tracking.{Tracking}
use Rattle.track_modes.specs.declared.tracking.Tracking.TheVariants.{Off, On}
use Rattle.track_modes.specs.ModeState.{ModeState, peer_of, redirect_of}
use Rattle.redirect.specs.Routes.{subscriber_route, tracking_route}
use Rattle.redirect.specs.declared.routes.Route.TheVariants.{Message, Nowhere}
use Rattle.serial_model.specs.declared.history.Limits.{Limits}
use Rattle.serial_model.specs.declared.history.Entry.{Entry}
use Rattle.serial_model.specs.declared.history.Entry.TheVariants.{Run, Tick}
use Rattle.serial_model.specs.State.{State, is_on}
use Rattle.serial_model.specs.Tracking.{tells}
use Rattle.serial_model.specs.Actions.{Action, action_sends, later_told, modes_then, peer_at}
use Rattle.serial_model.specs.Actions.{route_at, routed}
use Rattle.serial_model.specs.History.{action_told, run_action, sent_to, state, tick_action}
use Rattle.serial_model.specs.Laws.{IsToldAmong, RedirectedIsSent, receiver}
use Rattle.serial_model.proofs.Counts.{on_is}
use Rattle.serial_model.proofs.DueLaws.{action_told_among}
use Rattle.serial_model.proofs.Quiet.{later_routed, tick_none}

-- ---- the route to a target that has not ended

-- it speaks the third protocol, or is subscribed
abbrev Gets : ModeState → Type 0
Gets m = (m.proto ≡ Three) ⊎ (m.subscribed ≡ true)

subscriber_gets : (target : ℕ) (p : Proto) (subscribed : Bool)
    → (p ≡ Three) ⊎ (subscribed ≡ true)
    → receiver (subscriber_route target p subscribed) ≡ Some (target, p)
subscriber_gets target Three subscribed h = refl
subscriber_gets target Two subscribed (inl e) = absurd (let no : ⊥ = cc in no)
subscriber_gets target Two subscribed (inr e) =
    ap (λ b. receiver (cond b (Message target) Nowhere)) e

module _ (modes : ℕ → ModeState) (on : ℕ → Bool) (c target : ℕ) (there : on target ≡ true)
    (gets : Gets (modes target)) where
  target_gets : (t : Tracking) (p : Proto) → redirect_of t ≡ Some target
      → receiver (tracking_route t c p (peer_at modes on (redirect_of t)))
      ≡ Some (target, (modes target).proto)
  target_gets Off p to = absurd (let no : ⊥ = cc in no)
  target_gets (On settings) p to =
      ap (λ x. receiver (tracking_route (On (record settings { redirect = x })) c p
      (peer_at modes on x))) to
      ∙ ap (λ b. receiver (tracking_route (On (record settings { redirect = Some target })) c p
      (cond b (Some (peer_of (modes target))) None))) there
      ∙ subscriber_gets target (modes target).proto (modes target).subscribed gets

-- ---- an action

module _ (l : Limits) (past : List Entry) (c target : ℕ) (key : List ℕ)
    (on : is_on (state l past) target ≡ true)
    (to : redirect_of ((state l past).modes c).tracking ≡ Some target)
    (gets : Gets ((state l past).modes target)) where
  abbrev s : State
  s = state l past

  abbrev n : ℕ
  n = length past + 1

  action_redirected : (t : Action)
      → routed (modes_then t s) (is_on s) (later_told l t s)
      ≡ routed s.modes (is_on s) (later_told l t s)
      → list_any (tells c key) (action_told l t s) ≡ true
      → IsToldAmong (s.modes target).proto key n (sent_to n target (action_sends l t s))
  action_redirected t same due =
      let received : receiver (route_at s.modes (is_on s) c)
      ≡ Some (target, (s.modes target).proto) =
      target_gets s.modes (is_on s) c target on gets (s.modes c).tracking (s.modes c).proto to in
      action_told_among l t s n c target (s.modes target).proto key s.modes on same
      (λ e. received) (λ e. received) due

pub redirected_is_sent : RedirectedIsSent
redirected_is_sent l (Run id words m) past c target key on there to gets due =
    action_redirected l past c target key (on_is l past target ∙ there) to gets
    (run_action id words m (state l past)) (later_routed l past id words m) due
redirected_is_sent l (Tick m) past c target key on there to gets due =
    let s = state l past in
    let t = tick_action m s in
    action_redirected l past c target key (on_is l past target ∙ there) to gets t
    (ap (routed (modes_then t s) (is_on s)) (tick_none l past m)
    ∙ ap (routed s.modes (is_on s)) (sym (tick_none l past m))) due
redirected_is_sent l e past c target key on there to gets due = absurd (let no : ⊥ = cc in no)
