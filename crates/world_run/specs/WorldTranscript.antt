-- A schedule played in a world: what it prints, the world after it, and what servers heard.
use Rattle.std.specs.Prelude.{ℕ, List, [], ◌∷◌, ◌++◌, if◌then◌else◌, nat_lt, length}
use Rattle.std.specs.declared.option.Option.{Option}
use Rattle.std.specs.declared.option.Option.TheVariants.{None, Some}
use Rattle.script_text.specs.declared.event.Event.{Event}
use Rattle.script_text.specs.declared.event.Event.TheVariants.{Raw, Say, Bytes, Client, Out, Serve}
use Rattle.script_text.specs.declared.event.Event.TheVariants.{Send, Recv, Flow, FlowAll, Cut, Ask}
use Rattle.script_text.specs.declared.event.Event.TheVariants.{Do, Poll, Show, Now, Tick}
use Rattle.script_text.specs.declared.line.Line.{Line}
use Rattle.server_links.specs.LinksState.{at_place}
use Rattle.server_links.specs.LinkSteps.{place_of}
use Rattle.server_links.specs.Transcript.{is_place, reads_at, unless_fault}
use Rattle.world_run.specs.WorldState.{WorldState, end_of_link}
use Rattle.world_run.specs.World.{client_does, flow_first, step}
use Rattle.world_run.specs.ClientMoves as client

-- the printed lines of the events, up to the first that meets a fault, those of that event with
-- them
abbrev pub transcript : WorldState → List Event → List Line
transcript w [] = []
transcript w (e ∷ events) =
    (step w e).lines ++ unless_fault (step w e).fault (transcript (step w e).state events) []

-- the world after the events, where none meets a fault
abbrev pub after : WorldState → List Event → Option WorldState
after w [] = Some w
after w (e ∷ events) = unless_fault (step w e).fault (after (step w e).state events) None

-- the world where a link has begun to flow: its client, if it has one, has sent what it had
abbrev pub flowing : Option ℕ → WorldState → WorldState
flowing None w = w
flowing (Some at) w = (client_does at (client.out None) w).state

-- what the server's end of the link at this place reads where that link flows
abbrev pub flow_heard : ℕ → WorldState → List ℕ
flow_heard at w =
    reads_at
    (flowing (end_of_link (at_place w.links.links at).name w.ends) w).links at None

-- what the server's end of the link at this place reads at an event; where all links flow, in the
-- world that those before it left
abbrev pub heard_at : WorldState → ℕ → Event → List ℕ
heard_at w at (Raw name) = []
heard_at w at (Say name words) = []
heard_at w at (Bytes name bytes) = []
heard_at w at (Client name mode capacity) = []
heard_at w at (Out name count) = []
heard_at w at (Serve name count) =
    if is_place (place_of name w.links) at then reads_at w.links at count else []
heard_at w at (Send name count) = []
heard_at w at (Recv name count) = []
heard_at w at (Flow name) = if is_place (place_of name w.links) at then flow_heard at w else []
heard_at w at FlowAll =
    if nat_lt at (length w.links.links) then flow_heard at (flow_first at w).state else []
heard_at w at (Cut name) = []
heard_at w at (Now moment) = []
heard_at w at Tick = []
heard_at w at (Ask name q) = []
heard_at w at (Do name words) = []
heard_at w at (Poll name n) = []
heard_at w at (Show name) = []

-- and in a schedule, up to the first event that meets a fault
abbrev pub heard : WorldState → ℕ → List Event → List ℕ
heard w at [] = []
heard w at (e ∷ events) =
    unless_fault (step w e).fault (heard_at w at e ++ heard (step w e).state at events) []
