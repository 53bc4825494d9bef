-- A schedule played in a world: what it prints, the world after it, and what servers heard.
use Rattle.std.specs.Prelude.{◌==◌, ℕ, List, [], ◌∷◌, ◌++◌, Bool, false, if◌then◌else◌}
use Rattle.std.specs.Prelude.{take}
use Rattle.std.specs.declared.option.Option.{Option}
use Rattle.std.specs.declared.option.Option.TheVariants.{None, Some}
use Rattle.serial_model.specs.History.{reads_on}
use Rattle.server_links.specs.LinkEvent.{LinkEvent, Raw, Put, Over, Now, Tick}
use Rattle.server_links.specs.declared.link.LinkMove.{LinkMove}
use Rattle.server_links.specs.declared.link.LinkMove.TheVariants as moves
use Rattle.script_text.specs.declared.line.Line.{Line}
use Rattle.server_links.specs.declared.fault.WorldFault.{WorldFault}
use Rattle.server_links.specs.LinksState.{LinksState, at_place}
use Rattle.server_links.specs.LinkSteps.{place_of, step}

abbrev pub unless_fault : {X : Type 0} → Option WorldFault → X → X → X
unless_fault None more none = more
unless_fault (Some fault) more none = none

-- the printed lines of the events, up to the first that meets a fault, those of that event with
-- them
abbrev pub transcript : LinksState → List LinkEvent → List Line
transcript w [] = []
transcript w (e ∷ events) =
    (step w e).lines ++ unless_fault (step w e).fault (transcript (step w e).state events) []

-- the world after the events, where none meets a fault
abbrev pub after : LinksState → List LinkEvent → Option LinksState
after w [] = Some w
after w (e ∷ events) = unless_fault (step w e).fault (after (step w e).state events) None

abbrev pub up_to : Option ℕ → List ℕ → List ℕ
up_to None bytes = bytes
up_to (Some n) bytes = take n bytes

-- what the server's end of the link at this place reads of the bytes in flight to it
abbrev pub reads_at : LinksState → ℕ → Option ℕ → List ℕ
reads_at w at count =
    if reads_on w.limits w.past (at_place w.links at).id then
    up_to count (at_place w.links at).up.bytes else []

abbrev pub is_place : Option ℕ → ℕ → Bool
is_place None at = false
is_place (Some place) at = place == at

-- what the server's end of a link reads at a move over that link
abbrev pub move_heard : LinksState → ℕ → LinkMove → List ℕ
move_heard w at (moves.Serve count) = reads_at w at count
move_heard w at (moves.Send count) = []
move_heard w at (moves.Recv count) = []
move_heard w at moves.Flow = reads_at w at None
move_heard w at moves.HangUp = []
move_heard w at moves.Cut = []

-- what the server's end of the link at this place reads at an event
abbrev pub heard_at : LinksState → ℕ → LinkEvent → List ℕ
heard_at w at (Raw name) = []
heard_at w at (Put name bytes) = []
heard_at w at (Now moment) = []
heard_at w at Tick = []
heard_at w at (Over name move) = if is_place (place_of name w) at then move_heard w at move else []

-- and in a schedule, up to the first event that meets a fault
abbrev pub heard : LinksState → ℕ → List LinkEvent → List ℕ
heard w at [] = []
heard w at (e ∷ events) =
    unless_fault (step w e).fault (heard_at w at e ++ heard (step w e).state at events) []
