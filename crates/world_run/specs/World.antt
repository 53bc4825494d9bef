-- What an event does to a world, and what it prints.
use Rattle.std.specs.Prelude.{◌||◌, ℕ, zero, suc, List, [], ◌∷◌, ◌++◌, ◌+◌, Bool, not}
use Rattle.std.specs.Prelude.{if◌then◌else◌, length, Result}
use Rattle.std.specs.declared.option.Option.{Option}
use Rattle.std.specs.declared.option.Option.TheVariants.{None, Some}
use Rattle.std.specs.Option.{is_some}
use Rattle.resp_value.specs.Spelling.{request_spelling}
use Rattle.script_text.specs.declared.event.Event.{Event}
use Rattle.script_text.specs.declared.event.Event.TheVariants.{Raw, Say, Bytes, Client, Out, Serve}
use Rattle.script_text.specs.declared.event.Event.TheVariants.{Send, Recv, Flow, FlowAll, Cut, Ask}
use Rattle.script_text.specs.declared.event.Event.TheVariants.{Do, Poll, Show, Now, Tick}
use Rattle.script_text.specs.declared.line.Line.{Line}
use Rattle.script_text.specs.Clients.{may_speak}
use Rattle.shared_cache.specs.declared.log.ClientMode.{ClientMode}
use Rattle.shared_cache.specs.declared.log.Shape.{Shape}
use Rattle.shared_cache.specs.declared.log.Shape.TheVariants.{Single, Pair}
use Rattle.shared_cache.specs.declared.log.ClientCall.TheVariants as call
use Rattle.shared_cache.specs.declared.log.Wire.TheVariants.{Main, Side}
use Rattle.shared_cache.specs.Held.{Setup}
use Rattle.server_links.specs.declared.fault.WorldFault.{WorldFault}
use Rattle.server_links.specs.declared.fault.WorldFault.TheVariants.{NoName, NameTaken}
use Rattle.server_links.specs.declared.fault.WorldFault.TheVariants.{NothingThere, Refused}
use Rattle.server_links.specs.declared.link.LinkMove.TheVariants as moves
use Rattle.server_links.specs.LinkEvent as link_event
use Rattle.server_links.specs.LinkEvent.{LinkEvent}
use Rattle.server_links.specs.LinksState.{LinksState, at_place}
use Rattle.server_links.specs.LinkSteps as links
use Rattle.server_links.specs.Outcome.{Outcome, Gives, and_then, does, refuses, stays, within}
use Rattle.world_run.specs.WorldState.{EndState, LinkEnd, WorldState, client_named, end_at}
use Rattle.world_run.specs.WorldState.{end_of_client, end_of_link, fresh_end, fresh_member, link_on}
use Rattle.world_run.specs.Members.{Seat, seat_at, with_seat}
use Rattle.world_run.specs.ClientMoves as client
use Rattle.world_run.specs.ClientMoves.{turn, show}

abbrev pub Stepped : Type 0
Stepped = Outcome WorldState

abbrev pub on_links : WorldState → LinksState → WorldState
on_links w ls = record w { links = ls }

-- something happens to the links
unfoldable pub links_step : LinkEvent → WorldState → Stepped
links_step event w = within (on_links w) (links.step w.links event)

-- a move of a client at the end of this place
unfoldable pub client_does : ℕ → (LinkEnd → Seat → Outcome Seat) → WorldState → Stepped
client_does at move w = within (with_seat at w) (move (end_at w.ends at).end (seat_at at w))

-- a move of a client at its end of the link that its commands go on, where there is such a client
abbrev pub named_does : Option ℕ → (LinkEnd → Seat → Outcome Seat) → WorldState → Stepped
named_does None move w = refuses w NoName
named_does (Some at) move w = client_does at move w

abbrev pub end_named : List ℕ → WorldState → Option ℕ
end_named name w = end_of_client name w.members w.ends

-- ---- links and clients are made

-- one name is one link's or one client's
abbrev pub is_taken : List ℕ → WorldState → Bool
is_taken name w =
    is_some (links.place_of name w.links) || is_some (client_named name w.members)

abbrev pub raw_step : List ℕ → WorldState → Stepped
raw_step name w =
    if is_taken name w then refuses w NameTaken else links_step (link_event.Raw name) w

-- what a client is set up with
abbrev pub setup_by : WorldState → ClientMode → ℕ → Setup
setup_by w mode capacity =
    record { mode = mode; capacity = capacity; log_max = w.log_max }

-- its ends of the links at these places, in the order of these
abbrev pub fresh_ends : Shape → ℕ → List ℕ → ℕ → ℕ → List EndState
fresh_ends Single client name main side = fresh_end client Main name main ∷ []
fresh_ends Pair client name main side =
    fresh_end client Side name side ∷ fresh_end client Main name main ∷ []

-- the client at the links of these places
abbrev pub join : List ℕ → ℕ → ℕ → Setup → WorldState → Stepped
join name main side setup w =
    stays (record w {
      members = w.members ++ fresh_member name main side setup ∷ [];
      ends = w.ends ++ fresh_ends setup.mode.shape (length w.members) name main side;
    })

-- its links are made, and the server admits them; of two the one for invalidations comes first, and
-- neither is made where the name of the other is taken
abbrev pub connect : Shape → List ℕ → Setup → WorldState → Stepped
connect Single name setup w =
    let place = length w.links.links in
    and_then (links_step (link_event.Raw (link_on Main name)) w) (join name place place setup)
connect Pair name setup w =
    let place = length w.links.links in
    if is_some (links.place_of (link_on Main name) w.links) then refuses w NameTaken else
    and_then (links_step (link_event.Raw (link_on Side name)) w)
    (λ w. and_then (links_step (link_event.Raw (link_on Main name)) w)
    (join name (place + 1) place setup))

-- the modes that are served: one link is of the third protocol
abbrev pub is_served : ClientMode → Bool
is_served mode = may_speak mode.shape mode.proto

-- the number of the refusal of a mode that is not served
abbrev pub not_served : ℕ
not_served = 0

-- a client takes memory before its links are made
abbrev pub making : Shape → List ℕ → Setup → WorldState → Stepped
making shape name setup w = and_then (does w w []) (connect shape name setup)

abbrev pub client_step : List ℕ → ClientMode → ℕ → WorldState → Stepped
client_step name mode capacity w =
    if not (is_served mode) then refuses w (Refused not_served) else
    if is_taken name w then refuses w NameTaken else
    making mode.shape name (setup_by w mode capacity) w

-- ---- one link

-- only a raw connection is told by the schedule what to say
abbrev pub said_step : Option ℕ → List ℕ → List ℕ → WorldState → Stepped
said_step None name bytes w = links_step (link_event.Put name bytes) w
said_step (Some at) name bytes w = refuses w NoName

-- a raw connection has nothing of its own to send
abbrev pub raw_out : Option ℕ → Option ℕ → WorldState → Stepped
raw_out None count w = refuses w NoName
raw_out (Some at) None w = stays w
raw_out (Some at) (Some n) w = refuses w NothingThere

abbrev pub out_step : Option ℕ → List ℕ → Option ℕ → WorldState → Stepped
out_step None name count w = raw_out (links.place_of name w.links) count w
out_step (Some at) name count w = client_does at (client.out count) w

abbrev pub recv_step : Option ℕ → List ℕ → Option ℕ → WorldState → Stepped
recv_step None name count w = links_step (link_event.Over name (moves.Recv count)) w
recv_step (Some at) name count w = client_does at (client.receive count) w

abbrev pub flow_step : Option ℕ → List ℕ → WorldState → Stepped
flow_step None name w = links_step (link_event.Over name moves.Flow) w
flow_step (Some at) name w = client_does at client.flow w

-- ---- all links

abbrev pub flow_at : ℕ → WorldState → Stepped
flow_at at w =
    let name = (at_place w.links.links at).name in
    flow_step (end_of_link name w.ends) name w

-- So many links flow, in the order in which they were made, each in the world that the one before
-- left.
unfoldable pub flow_first : ℕ → WorldState → Stepped
flow_first zero w = stays w
flow_first (suc n) w = and_then (flow_first n w) (flow_at n)

-- ---- an event

unfoldable pub step : WorldState → Event → Stepped
step w (Raw name) = raw_step name w
step w (Say name words) =
    said_step (end_of_link name w.ends) name (request_spelling words) w
step w (Bytes name bytes) = said_step (end_of_link name w.ends) name bytes w
step w (Client name mode capacity) = client_step name mode capacity w
step w (Out name count) = out_step (end_of_link name w.ends) name count w
step w (Serve name count) = links_step (link_event.Over name (moves.Serve count)) w
step w (Send name count) = links_step (link_event.Over name (moves.Send count)) w
step w (Recv name count) = recv_step (end_of_link name w.ends) name count w
step w (Flow name) = flow_step (end_of_link name w.ends) name w
step w FlowAll = flow_first (length w.links.links) w
step w (Cut name) = links_step (link_event.Over name moves.Cut) w
step w (Now moment) = links_step (link_event.Now moment) w
step w Tick = links_step link_event.Tick w
step w (Ask name q) = named_does (end_named name w) (turn (call.Ask q)) w
step w (Do name words) = named_does (end_named name w) (turn (call.Send words)) w
step w (Poll name n) = named_does (end_named name w) (turn (call.Poll n)) w
step w (Show name) = named_does (end_named name w) (λ e. show) w

-- What was done is the step, and its lines were appended. Where memory ran out, the world and the
-- lines are those of a point on the way.
abbrev pub StepGives : WorldState → Event → List Line → Result (Unit {0}) WorldFault → WorldState
    → List Line → Type 0
StepGives w event lines result new lines' = Gives (step w event) lines result new lines'
