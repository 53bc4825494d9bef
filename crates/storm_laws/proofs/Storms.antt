-- A storm is played: only a client's full log stops one of its events.
use Rattle.std.proofs.Common.{◌≡◌, ◌++◌, ℕ, List, [], ◌∷◌, Some, None, Option, inl, inr, sym, subst}
use Rattle.shared_cache.specs.Laws.{Every}
use Rattle.shared_cache.proofs.Every.{every_append, every_weaker}
use Rattle.script_text.specs.declared.event.Event.{Event}
use Rattle.script_text.specs.declared.event.Event.TheVariants.{FlowAll}
use Rattle.script_text.specs.Storm.{steps_from, storm}
use Rattle.script_text.specs.Valid.{IsValid}
use Rattle.server_links.specs.declared.fault.WorldFault.{WorldFault}
use Rattle.server_links.specs.Transcript.{unless_fault}
use Rattle.world_run.specs.WorldState.{WorldState, start_with}
use Rattle.world_run.specs.WorldHistory.{HasOneHistory}
use Rattle.world_run.specs.WorldTranscript.{after}
use Rattle.world_run.specs.World.{step}
use Rattle.storm_laws.specs.Storms.{StormsArePlayed}
use Rattle.storm_laws.proofs.ClientMoves.{OnlyFull, none}
use Rattle.storm_laws.proofs.Opening.{making, making_reaches, making_settles, played}
use Rattle.storm_laws.proofs.Settled.{IsSettled}
use Rattle.storm_laws.proofs.Playing.{IsMove, event_plays}
use Rattle.storm_laws.proofs.StormEvents.{IsStormEvent, steps_are_events, storm_valid}
use Rattle.storm_laws.proofs.Unstopped.{IsSpared, every_behind, every_front, not_stopped}

-- the events behind those that make the links and the clients
abbrev later : ℕ → ℕ → List Event
later number steps = FlowAll ∷ FlowAll ∷ steps_from steps number 0

later_are_events : (number steps : ℕ) → Every IsStormEvent (later number steps)
later_are_events number steps = ((tt, tt), ((tt, tt), steps_are_events steps number 0))

all_spared : (number steps : ℕ) → Every IsSpared (making ++ later number steps)
all_spared number steps =
    every_append IsSpared making (later number steps) (tt, (tt, (tt, (tt, (tt, tt)))))
    (every_weaker IsStormEvent IsSpared (later number steps) (λ e is. is.1)
    (later_are_events number steps))

-- what holds of each event holds of those before one, and of that one
parts : (P : Event → Type 0) (before rest all : List Event) (event : Event)
    → before ++ event ∷ rest ≡ all → Every P all → Every P before × P event
parts P before rest all event split every =
    let here = subst (Every P) (sym split) every in
    (every_front P before (event ∷ rest) here, (every_behind P before (event ∷ rest) here).0)

no_fault : (v : WorldState) (o : Option WorldFault) (next : Option WorldState)
    → unless_fault o next None ≡ Some v → next ≡ Some v
no_fault v None next e = e
no_fault v (Some fault) next e = absurd (let no : ⊥ = cc in no)

-- events of a storm leave a settled world settled
still_settled : (events : List Event) (w v : WorldState) → IsSettled w → Every IsMove events
    → after w events ≡ Some v → IsSettled v
still_settled [] w v s all there = subst IsSettled (let is : w ≡ v = cc in is) s
still_settled (e ∷ events) w v s all there =
    still_settled events (step w e).state v (event_plays e w s all.0).settled all.1
    (no_fault v (step w e).fault (after (step w e).state events) there)

pub storm_is_played : HasOneHistory → StormsArePlayed
storm_is_played law l log_max number steps before rest event w split there =
    let first = start_with l log_max in
    let valid = (parts IsValid before rest (storm number steps) event split
    (storm_valid number steps)).0 in
    let spared = (parts IsSpared before rest (making ++ later number steps) event split
    (all_spared number steps)).0 in
    elim (making_reaches l log_max (later number steps) before rest event w split there) [
      | inl free ↦ subst OnlyFull (sym free) none
      | inr m ↦
          let p = parts IsStormEvent m.0 rest (later number steps) event m.1
          (later_are_events number steps) in
          let moves = every_weaker IsStormEvent IsMove m.0 (λ e is. is.0) p.0 in
          let settled = still_settled m.0 (played first making) w (making_settles l log_max) moves
          m.2 in
          (event_plays event w settled p.1.0).full
          (not_stopped law l log_max before w valid spared there)
    ]
