-- Some events of a schedule, and then more; and what holds of all of them.
use Rattle.std.proofs.Common.{◌≡◌, ℕ, List, [], ◌∷◌, ◌++◌, Some, None, refl, sym, ap, ◌∙◌}
use Rattle.std.proofs.Common.{append_assoc, append-nil, arith}
use Rattle.std.specs.declared.option.Option.{Option}
use Rattle.serial_model.specs.declared.history.Limits.{Limits}
use Rattle.shared_cache.specs.Laws.{Every}
use Rattle.script_text.specs.declared.event.Event.{Event}
use Rattle.script_text.specs.declared.line.Line.{Line}
use Rattle.script_text.specs.Valid.{IsValid}
use Rattle.server_links.specs.declared.fault.WorldFault.{WorldFault}
use Rattle.server_links.specs.Transcript.{unless_fault}
use Rattle.world_run.specs.WorldState.{WorldState, start}
use Rattle.world_run.specs.World.{step}
use Rattle.world_run.specs.WorldTranscript.{after, transcript}
use Rattle.world_run.specs.WorldHistory.{HasOneHistory}
use Rattle.world_run.specs.Played.{PlaysEvents}

pub after_then : (w m : WorldState) (events ds : List Event) → after w events ≡ Some m
    → after w (events ++ ds) ≡ after m ds
after_then w m [] ds h = let same : w ≡ m = cc in ap (λ x. after x ds) same
after_then w m (d ∷ events) ds h =
    go (step w d).fault h (after_then (step w d).state m events ds)
  where
    next : WorldState
    next = (step w d).state

    go : (f : Option WorldFault) → unless_fault f (after next events) None ≡ Some m
        → (after next events ≡ Some m → after next (events ++ ds) ≡ after m ds)
        → unless_fault f (after next (events ++ ds)) None ≡ after m ds
    go f q later = grind arith

pub transcript_then : (w m : WorldState) (events ds : List Event) → after w events ≡ Some m
    → transcript w (events ++ ds) ≡ transcript w events ++ transcript m ds
transcript_then w m [] ds h = let same : w ≡ m = cc in ap (λ x. transcript x ds) same
transcript_then w m (d ∷ events) ds h =
    ap (λ l. (step w d).lines ++ l)
    (go (step w d).fault h (transcript_then (step w d).state m events ds))
    ∙ sym (grind (arith, append_assoc))
  where
    next : WorldState
    next = (step w d).state

    go : (f : Option WorldFault) → unless_fault f (after next events) None ≡ Some m
        → (after next events ≡ Some m
        → transcript next (events ++ ds) ≡ transcript next events ++ transcript m ds)
        → unless_fault f (transcript next (events ++ ds)) []
        ≡ unless_fault f (transcript next events) [] ++ transcript m ds
    go f q later = grind arith

pub after_played : (w : WorldState) (e : Event) → (step w e).fault ≡ None
    → after w (e ∷ []) ≡ Some (step w e).state
after_played w e h = ap (λ f. unless_fault f (Some (step w e).state) None) h

pub transcript_one : (w : WorldState) (e : Event) → transcript w (e ∷ []) ≡ (step w e).lines
transcript_one w e = grind (arith, append-nil)

-- one more event was played
pub event_more : (first w : WorldState) (events : List Event) (event : Event)
    → after first events ≡ Some w → (step w event).fault ≡ None
    → (after first (events ++ event ∷ []) ≡ Some (step w event).state)
    × (transcript first (events ++ event ∷ []) ≡ transcript first events ++ (step w event).lines)
event_more first w events event p none = (
  after_then first w events (event ∷ []) p ∙ after_played w event none,
  transcript_then first w events (event ∷ []) p
      ∙ ap (λ l. transcript first events ++ l) (transcript_one w event),
)

-- what holds of every schedule holds of these events
pub events_played : HasOneHistory → (limits : Limits) (events : List Event) (w : WorldState)
    → Every IsValid events → after (start limits) events ≡ Some w → PlaysEvents limits events w
events_played law limits events w valid p =
    let all = law limits limits.history_max events w valid p in
    record {
      played = p;
      one_history = all.0;
      hits = all.2;
      flows = all.3;
    }
