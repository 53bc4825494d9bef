-- What an event, or a part of one, comes to: a state, the lines printed on the way to it, and
-- perhaps a fault that stopped it there.
use Rattle.std.specs.Prelude.{◌≡◌, ◌⊎◌, List, [], ◌∷◌, ◌++◌, map, Result, Ok, Err}
use Rattle.std.specs.declared.option.Option.{Option}
use Rattle.std.specs.declared.option.Option.TheVariants.{None, Some}
use Rattle.script_text.specs.declared.line.Line.{Line}
use Rattle.server_links.specs.declared.fault.WorldFault.{WorldFault}
use Rattle.server_links.specs.declared.fault.WorldFault.TheVariants.{NoMemory}

-- The points are where memory can run out: each a state on the way, with the lines printed so far.
pub record Outcome (S : Type 0) : Type 0 where
  pub state : S
  pub lines : List Line
  pub fault : Option WorldFault
  pub points : List (S × List Line)

-- at this state, with nothing printed and nothing that takes memory
abbrev pub stays : {S : Type 0} → S → Outcome S
stays s = record { state = s; lines = []; fault = None; points = [] }

-- one thing, done whole or not at all: memory can run out before it, and not after
abbrev pub does : {S : Type 0} → S → S → List Line → Outcome S
does old new lines = record { state = new; lines = lines; fault = None; points = (old, []) ∷ [] }

-- nothing is done
abbrev pub refuses : {S : Type 0} → S → WorldFault → Outcome S
refuses s fault = record { state = s; lines = []; fault = Some fault; points = [] }

abbrev pub after_lines : {S : Type 0} → List Line → List (S × List Line) → List (S × List Line)
after_lines lines points = map (λ p. (p.0, lines ++ p.1)) points

abbrev pub then_by : {S : Type 0} → Option WorldFault → Outcome S → Outcome S → Outcome S
then_by (Some fault) m n = m
then_by None m n = record {
  state = n.state;
  lines = m.lines ++ n.lines;
  fault = n.fault;
  points = m.points ++ after_lines m.lines n.points;
}

-- one after the other; a fault of the first is the fault of both
unfoldable pub and_then : {S : Type 0} → Outcome S → (S → Outcome S) → Outcome S
and_then m next = then_by m.fault m (next m.state)

-- the same in a larger state
unfoldable pub within : {S T : Type 0} → (S → T) → Outcome S → Outcome T
within f m = record {
  state = f m.state;
  lines = m.lines;
  fault = m.fault;
  points = map (λ p. (f p.0, p.1)) m.points;
}

abbrev pub IsAmong : {S : Type 0} → S → List Line → List (S × List Line) → Type 0
IsAmong s lines [] = ⊥
IsAmong s lines (p ∷ points) = ((s ≡ p.0) × (lines ≡ p.1)) ⊎ IsAmong s lines points

-- it comes to this state and these lines, at its end or where memory ran out
abbrev pub Reached : {S : Type 0} → Outcome S → S → List Line → Type 0
Reached m s lines = ((s ≡ m.state) × (lines ≡ m.lines)) ⊎ IsAmong s lines m.points

-- A fault: where memory ran out, one of the points on the way; else the fault of the outcome.
abbrev pub Stops : {S : Type 0} → Outcome S → List Line → WorldFault → S → List Line → Type 0
Stops m lines NoMemory new lines' =
    (printed : List Line) × IsAmong new printed m.points × (lines' ≡ lines ++ printed)
Stops m lines fault new lines' =
    (m.fault ≡ Some fault) × (new ≡ m.state) × (lines' ≡ lines ++ m.lines)

-- What was done is this outcome, and its lines were appended.
abbrev pub Gives : {S A : Type 0} → Outcome S → List Line → Result A WorldFault → S → List Line
    → Type 0
Gives m lines (Ok done) new lines' =
    (m.fault ≡ None) × (new ≡ m.state) × (lines' ≡ lines ++ m.lines)
Gives m lines (Err fault) new lines' = Stops m lines fault new lines'
