-- The events that are played are valid.
use Rattle.std.proofs.Common.{arith, ◌≡◌, ◌+◌, ℕ, List, [], ◌∷◌, Bool, Option, Some, None, cond}
use Rattle.std.specs.Prelude.{nat_le}
use Rattle.shared_cache.specs.Laws.{Every}
use Rattle.script_text.specs.declared.event.Event.{Event}
use Rattle.script_text.specs.Events.{event_of}
use Rattle.script_text.specs.Valid.{IsValid}
use Rattle.script_text.proofs.Valid.{events_are_valid}
use Rattle.redis_program.specs.Headline.{AreLinesOf, event_at, most_lines}

within : (b : Bool) (o : Option Event) (e : Event) → cond b o None ≡ Some e → o ≡ Some e
within b o e is = grind arith

pub event_valid : (n : ℕ) (line : List ℕ) (e : Event) → event_at n line ≡ Some e → IsValid e
event_valid n line e is =
    events_are_valid line e (within (nat_le n most_lines) (event_of line) e is)

pub lines_valid : (n : ℕ) (lines : List (List ℕ)) (events : List Event)
    → AreLinesOf n lines events → Every IsValid events
lines_valid n [] [] a = tt
lines_valid n [] (e ∷ events) a = absurd a
lines_valid n (line ∷ lines) [] a = absurd a
lines_valid n (line ∷ lines) (e ∷ events) a =
    (event_valid n line e a.0, lines_valid (n + 1) lines events a.1)
