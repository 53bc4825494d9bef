-- In a legal history all messages of an action are for connections that have not ended.
use Rattle.std.proofs.Common.{◌≡◌, ℕ, List, [], ◌∷◌, ◌++◌, Bool, true, false, cond}
use Rattle.std.proofs.Common.{refl, arith, ◌∙◌, Option, Some, None}
use Rattle.std.proofs.lemmas.Bool.{and_parts}
use Rattle.resp_value.specs.declared.value.Value.{Value}
use Rattle.resp_value.specs.declared.value.Proto.{Proto}
use Rattle.resp_value.specs.declared.value.Proto.TheVariants.{Two, Three}
use Rattle.track_modes.specs.ModeState.{ModeState, redirect_of, peer_of}
use Rattle.track_modes.specs.declared.peer.Peer.{Peer}
use Rattle.track_modes.specs.declared.tracking.Tracking.{Tracking}
use Rattle.track_modes.specs.declared.tracking.Tracking.TheVariants.{Off, On}
use Rattle.redirect.specs.Routes.{direct_route, peer_route, lost_route, redirected_route}
use Rattle.redirect.specs.Routes.{tracking_route}
use Rattle.serial_model.specs.declared.history.Limits.{Limits}
use Rattle.serial_model.specs.declared.history.Entry.{Entry}
use Rattle.serial_model.specs.declared.history.Entry.TheVariants.{Admit, Run, Tick, Take, Close}
use Rattle.serial_model.specs.State.{State, is_on}
use Rattle.serial_model.specs.Tracking.{Invalidation, ids_where}
use Rattle.serial_model.specs.Actions.{Sending, Action, carried, way, routed, peer_at, to_one}
use Rattle.serial_model.specs.Actions.{replies}
use Rattle.serial_model.specs.Actions.{all_messages, messages, modes_then, expiry_told, own_told}
use Rattle.serial_model.specs.Actions.{later_told, drops_told, is_passed, tracks, rows_then}
use Rattle.serial_model.specs.Actions.{rows_grown}
use Rattle.serial_model.specs.Each.{AllIn, AllTo}
use Rattle.serial_model.specs.History.{IsLegal, run_action, runs_on, state, tick_action}
use Rattle.serial_model.specs.Laws.{MessagesAreLive}
use Rattle.serial_model.proofs.Each.{in_append, all_kept}
use Rattle.serial_model.proofs.Tables.{whole_group_all, signal_group_all, ids_all, dropped_all}
use Rattle.serial_model.proofs.Tables.{drop_group_all, to_append}
use Rattle.serial_model.proofs.Counts.{on_is}
use Rattle.serial_model.proofs.Lives.{AreLive, Is, Adds, all_live, run_adds, tick_adds, grown_live}
use Rattle.serial_model.proofs.Lives.{then_live, is_from, is_then_on}

abbrev ToLive : (ℕ → Bool) → ℕ × Sending → Type 0
ToLive on m = on m.0 ≡ true

one_to : (on : ℕ → Bool) (c : ℕ) (p : Proto) (v : Option Value) → on c ≡ true
    → AllIn (ToLive on) (to_one c p v)
one_to on c p None live = tt
one_to on c p (Some v) live = (live, tt)

module _ (modes : ℕ → ModeState) (on : ℕ → Bool) (c : ℕ) (target : Option ℕ)
    (keys : Option (List (List ℕ))) where
  direct_to : (p : Proto) → on c ≡ true → AllIn (ToLive on) (carried (direct_route c p) target keys)
  direct_to Two live = tt
  direct_to Three live = (live, tt)

  peer_to : (r : ℕ) (p : Peer) → on r ≡ true
      → AllIn (ToLive on) (carried (peer_route r p) target keys)
  peer_to r p live = grind arith

  lost_to : (p : Proto) → on c ≡ true → AllIn (ToLive on) (carried (lost_route c p) target keys)
  lost_to Two live = tt
  lost_to Three live = one_to on c Three _ live

  redirected_to : (p : Proto) (x : Option ℕ) → on c ≡ true
      → AllIn (ToLive on) (carried (redirected_route x c p (peer_at modes on x)) target keys)
  redirected_to p None live = direct_to p live
  redirected_to p (Some r) live = by (on r) refl
    where
      by : (b : Bool) → on r ≡ b → AllIn (ToLive on)
          (carried (redirected_route (Some r) c p (cond b (Some (peer_of (modes r))) None)) target
          keys)
      by true e = peer_to r (peer_of (modes r)) e
      by false e = lost_to p live

  route_to : (p : Proto) (x : Tracking) → on c ≡ true
      → AllIn (ToLive on) (carried (tracking_route x c p (peer_at modes on (redirect_of x))) target
      keys)
  route_to p Off live = tt
  route_to p (On o) live = redirected_to p o.redirect live

routed_to : (modes : ℕ → ModeState) (s : State) (told : List Invalidation)
    → AllTo (Is s.standing s.admitted) told → AllIn (ToLive (is_on s)) (routed modes (is_on s) told)
routed_to modes s [] a = tt
routed_to modes s (i ∷ told) a =
    in_append (ToLive (is_on s)) (way modes (is_on s) i) (routed modes (is_on s) told)
    (route_to modes (is_on s) i.to (redirect_of (modes i.to).tracking) i.keys (modes i.to).proto
    (modes i.to).tracking (is_then_on s i.to a.0))
    (routed_to modes s told a.1)

action_to : (l : Limits) (t : Action) (s : State) → AreLive s → Adds (Is s.standing s.admitted) t
    → AllIn (ToLive (is_on s)) (replies t) → messages l t s ≡ all_messages l t s
action_to l t s a own reply =
    let P = Is s.standing s.admitted in
    let first = routed s.modes (is_on s) (expiry_told t s) in
    let last = routed (modes_then t s) (is_on s) (later_told l t s) in
    all_kept (λ m. is_on s m.0) (all_messages l t s)
    (in_append (ToLive (is_on s)) (first ++ replies t) last
    (in_append (ToLive (is_on s)) first (replies t)
    (routed_to s.modes s (expiry_told t s)
    (whole_group_all P t.expired s.table s.prefixes a.of_keys a.of_prefixes)) reply)
    (routed_to (modes_then t s) s (later_told l t s)
    (to_append P (own_told t s) (drops_told l t s)
    (signal_group_all P t.effect.signalled (is_passed t s) (ids_where (tracks s) s.admitted)
    (rows_then t s) s.prefixes
    (ids_all P (tracks s) s.admitted
    (λ h some le e. is_from s h (and_parts _ (is_on s h) e).1))
    (then_live l t s a own) a.of_prefixes)
    (drop_group_all P _ (dropped_all P l.table_max (rows_grown t s)
    (grown_live l t s a own))))))

-- also where the entry's moment is not after those before it
pub run_live : (l : Limits) (past : List Entry) (id : ℕ) (words : List (List ℕ)) (moment : ℕ)
    → IsLegal l past → runs_on l past id ≡ true
    → messages l (run_action id words moment (state l past)) (state l past)
    ≡ all_messages l (run_action id words moment (state l past)) (state l past)
run_live l past id words moment legal runs =
    let s = state l past in
    let t = run_action id words moment s in
    let on = on_is l past id ∙ runs in
    action_to l t s (all_live l past legal) (run_adds s id words moment on)
    (one_to (is_on s) id t.effect.mode.proto t.effect.reply on)

pub tick_live : (l : Limits) (past : List Entry) (moment : ℕ) → IsLegal l past
    → messages l (tick_action moment (state l past)) (state l past)
    ≡ all_messages l (tick_action moment (state l past)) (state l past)
tick_live l past moment legal =
    let s = state l past in
    action_to l (tick_action moment s) s (all_live l past legal) (tick_adds s moment) tt

pub messages_are_live : MessagesAreLive
messages_are_live l (Run id words moment) past h = run_live l past id words moment h.2 h.0
messages_are_live l (Tick moment) past h = tick_live l past moment h.3
messages_are_live l (Admit id) past h = tt
messages_are_live l (Take id max) past h = tt
messages_are_live l (Close id) past h = tt
