-- Where the messages of an entry go, as a client's connection sees it.
use Rattle.std.proofs.Common.{◌≡◌, ◌∙◌, ℕ, [], ◌∷◌, Bool, true, false, cond, refl, ap}
use Rattle.std.proofs.Common.{Option, Some, None}
use Rattle.resp_value.specs.declared.value.Proto.{Proto}
use Rattle.resp_value.specs.declared.value.Proto.TheVariants.{Two, Three}
use Rattle.track_modes.specs.declared.peer.Peer.{Peer}
use Rattle.track_modes.specs.declared.tracking.Tracking.{Tracking}
use Rattle.track_modes.specs.declared.tracking.Tracking.TheVariants.{Off, On}
use Rattle.track_modes.specs.ModeState as track
use Rattle.track_modes.specs.ModeState.{ModeState, peer_of, redirect_of}
use Rattle.redirect.specs.declared.routes.Route.{Route}
use Rattle.redirect.specs.declared.routes.Route.TheVariants as route
use Rattle.redirect.specs.Routes.{direct_route, lost_route, redirected_route, subscriber_route}
use Rattle.redirect.specs.Routes.{tracking_route}
use Rattle.serial_model.specs.Tracking.{Invalidation, push_of}
use Rattle.serial_model.specs.Actions.{Message, carried, peer_at, route_at, target_at, way}
use Rattle.serial_model.specs.Laws.{IsDirect}

-- a message of the channel goes to a subscribed connection alone
module _ (modes : ℕ → ModeState) (on : ℕ → Bool) (P : Route → Type 0)
    (push : (r : ℕ) → P (route.Push r))
    (message : (r : ℕ) → (modes r).subscribed ≡ true → P (route.Message r))
    (notice : (r : ℕ) → P (route.BrokenNotice r)) (nowhere : P route.Nowhere) where
  direct : (c : ℕ) (p : Proto) → P (direct_route c p)
  direct c Three = push c
  direct c Two = nowhere

  lost : (c : ℕ) (p : Proto) → P (lost_route c p)
  lost c Three = notice c
  lost c Two = nowhere

  subscriber : (r : ℕ) (p : Proto) (b : Bool) → (modes r).subscribed ≡ b
      → P (subscriber_route r p b)
  subscriber r Three b e = push r
  subscriber r Two true e = message r e
  subscriber r Two false e = nowhere

  redirected : (x : Option ℕ) (c : ℕ) (p : Proto)
      → P (redirected_route x c p (peer_at modes on x))
  redirected None c p = direct c p
  redirected (Some r) c p = by (on r)
    where
      by : (b : Bool)
          → P (redirected_route (Some r) c p (cond b (Some (peer_of (modes r))) None))
      by true = subscriber r (modes r).proto (modes r).subscribed refl
      by false = lost c p

  tracked : (t : Tracking) (c : ℕ) (p : Proto)
      → P (tracking_route t c p (peer_at modes on (redirect_of t)))
  tracked Off c p = nowhere
  tracked (On s) c p = redirected s.redirect c p

  pub route_cases : (c : ℕ) → P (route_at modes on c)
  route_cases c = tracked (modes c).tracking c (modes c).proto

-- one that tracks, redirects to none, and is on the third protocol is sent a push itself
direct_is : (t : Tracking) (c : ℕ) (p : Proto) (target : Option Peer) → track.is_on t ≡ true
    → redirect_of t ≡ None → p ≡ Three → tracking_route t c p target ≡ route.Push c
direct_is Off c p target tracks own three = absurd (let no : ⊥ = cc in no)
direct_is (On s) c p target tracks own three =
    ap (λ x. redirected_route x c p target) own ∙ ap (direct_route c) three

pub own_way : (modes : ℕ → ModeState) (on : ℕ → Bool) (i : Invalidation)
    → track.is_on (modes i.to).tracking ≡ true → IsDirect (modes i.to)
    → way modes on i ≡ (i.to, Message Three (push_of i.keys)) ∷ []
own_way modes on i tracks d =
    ap (λ r. carried r (redirect_of (modes i.to).tracking) i.keys)
    (direct_is (modes i.to).tracking i.to (modes i.to).proto (target_at modes on i.to) tracks d.own
    d.proto)
