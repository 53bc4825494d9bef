-- What each event of a world adds to the history is by the clock, and so all of a schedule.
use Rattle.std.proofs.Common.{◌≡◌, ℕ, zero, suc, List, [], ◌∷◌, Bool, true, false, cond, not}
use Rattle.std.proofs.Common.{Option, Some, None, ◌+◌, length, refl, sym, subst}
use Rattle.std.specs.Option.{is_some}
use Rattle.resp_value.specs.Spelling.{request_spelling}
use Rattle.serial_model.specs.History.{IsLegal}
use Rattle.shared_cache.specs.declared.log.ClientCall.TheVariants as call
use Rattle.shared_cache.specs.declared.log.ClientMode.{ClientMode}
use Rattle.shared_cache.specs.declared.log.Shape.{Shape}
use Rattle.shared_cache.specs.declared.log.Shape.TheVariants.{Single, Pair}
use Rattle.shared_cache.specs.declared.log.Wire.TheVariants.{Main, Side}
use Rattle.shared_cache.specs.Held.{Setup}
use Rattle.script_text.specs.declared.event.Event.{Event}
use Rattle.script_text.specs.declared.event.Event.TheVariants.{Raw, Say, Bytes, Client, Out, Serve}
use Rattle.script_text.specs.declared.event.Event.TheVariants.{Send, Recv, Flow, FlowAll, Cut, Ask}
use Rattle.script_text.specs.declared.event.Event.TheVariants.{Do, Poll, Show, Now, Tick}
use Rattle.server_links.specs.declared.fault.WorldFault.{WorldFault}
use Rattle.server_links.specs.declared.fault.WorldFault.TheVariants.{NameTaken, NoName}
use Rattle.server_links.specs.declared.fault.WorldFault.TheVariants.{NothingThere, Refused}
use Rattle.server_links.specs.declared.link.LinkMove.TheVariants as moves
use Rattle.server_links.specs.Clock as links_clock
use Rattle.server_links.specs.LinkEvent as link_event
use Rattle.server_links.specs.LinkEvent.{LinkEvent}
use Rattle.server_links.specs.LinksState.{at_place}
use Rattle.server_links.specs.LinkSteps.{place_of}
use Rattle.server_links.specs.Outcome.{Outcome, and_then, does, refuses, stays, within}
use Rattle.server_links.specs.Transcript.{unless_fault}
use Rattle.server_links.proofs.Delivery.{Ends, ends_then}
use Rattle.server_links.proofs.Timing.{Timely, step_timely, timely_both, timely_same}
use Rattle.world_run.specs.WorldState.{LinkEnd, WorldState, end_at, end_of_link, link_on}
use Rattle.world_run.specs.Members.{Seat, seat_at}
use Rattle.world_run.specs.ClientMoves as client
use Rattle.world_run.specs.ClientMoves.{show, turn}
use Rattle.world_run.specs.WorldClock.{KeepsTime, clock_after}
use Rattle.world_run.specs.WorldTranscript.{after}
use Rattle.world_run.specs.World.{Stepped, client_does, client_step, connect, end_named, flow_at}
use Rattle.world_run.specs.World.{flow_first, flow_step, is_served, is_taken, join, links_step}
use Rattle.world_run.specs.World.{named_does}
use Rattle.world_run.specs.World.{not_served, out_step, raw_out, raw_step, recv_step, said_step}
use Rattle.world_run.specs.World.{setup_by, step}
use Rattle.world_run.proofs.Kept.{IsOrderly, flow_orderly, out_orderly, receive_orderly}
use Rattle.world_run.proofs.Kept.{show_orderly, turn_orderly}

-- where it ends without a fault, what it added is by the clock, and the clock is this one
InTime : ℕ → WorldState → Stepped → Type 0
InTime now w m = Ends (λ v. Timely now w.links v.links) m

time_stays : (w : WorldState) → InTime w.links.now w (stays w)
unfolding InTime Ends
time_stays w none = timely_same w.links

time_refused : (now : ℕ) (w : WorldState) (fault : WorldFault) → InTime now w (refuses w fault)
unfolding InTime Ends
time_refused now w fault is = absurd (let no : ⊥ = cc in no)

time_if : (now : ℕ) (w : WorldState) (b : Bool) (m n : Stepped) → InTime now w m → InTime now w n
    → InTime now w (cond b m n)
time_if now w true m n h g = h
time_if now w false m n h g = g

time_then : (w : WorldState) (m : Stepped) (next : WorldState → Stepped)
    → InTime w.links.now w m → ((v : WorldState) → InTime v.links.now v (next v))
    → InTime w.links.now w (and_then m next)
unfolding InTime Ends
time_then w m next h g =
    let P : WorldState → Type 0 = λ v. Timely w.links.now w.links v.links in
    ends_then P P m next h (λ v p none.
    let u = (next v).state in
    timely_both w.links.now w.links v.links u.links p
    (subst (λ n. Timely n v.links u.links) p.now (g v none)))

time_links : (event : LinkEvent) (w : WorldState)
    → InTime (links_clock.clock_after w.links.now event) w (links_step event w)
unfolding InTime Ends links_step within
time_links event w none = (step_timely event w.links).ends none

time_client : (at : ℕ) (move : LinkEnd → Seat → Outcome Seat) → IsOrderly move
    → (w : WorldState) → InTime w.links.now w (client_does at move w)
unfolding InTime Ends client_does within
time_client at move orderly w none =
    ((orderly (end_at w.ends at).end (seat_at at w)).kept.ends none).timely

time_named : (c : Option ℕ) (move : LinkEnd → Seat → Outcome Seat) → IsOrderly move
    → (w : WorldState) → InTime w.links.now w (named_does c move w)
time_named None move orderly w = time_refused w.links.now w NoName
time_named (Some at) move orderly w = time_client at move orderly w

time_said : (c : Option ℕ) (name bytes : List ℕ) (w : WorldState)
    → InTime w.links.now w (said_step c name bytes w)
time_said None name bytes w = time_links (link_event.Put name bytes) w
time_said (Some at) name bytes w = time_refused w.links.now w NoName

time_raw_out : (place count : Option ℕ) (w : WorldState)
    → InTime w.links.now w (raw_out place count w)
time_raw_out None count w = time_refused w.links.now w NoName
time_raw_out (Some at) None w = time_stays w
time_raw_out (Some at) (Some n) w = time_refused w.links.now w NothingThere

time_out : (c : Option ℕ) (name : List ℕ) (count : Option ℕ) (w : WorldState)
    → InTime w.links.now w (out_step c name count w)
time_out None name count w = time_raw_out (place_of name w.links) count w
time_out (Some at) name count w = time_client at (client.out count) (out_orderly count) w

time_recv : (c : Option ℕ) (name : List ℕ) (count : Option ℕ) (w : WorldState)
    → InTime w.links.now w (recv_step c name count w)
time_recv None name count w = time_links (link_event.Over name (moves.Recv count)) w
time_recv (Some at) name count w = time_client at (client.receive count) (receive_orderly count) w

time_flow : (c : Option ℕ) (name : List ℕ) (w : WorldState)
    → InTime w.links.now w (flow_step c name w)
time_flow None name w = time_links (link_event.Over name moves.Flow) w
time_flow (Some at) name w = time_client at client.flow flow_orderly w

time_first : (n : ℕ) (w : WorldState) → InTime w.links.now w (flow_first n w)
unfolding flow_first
time_first zero w = time_stays w
time_first (suc n) w =
    time_then w (flow_first n w) (flow_at n) (time_first n w)
    (λ v. let name = (at_place v.links.links n).name in
    time_flow (end_of_link name v.ends) name v)

time_raw : (name : List ℕ) (w : WorldState) → InTime w.links.now w (raw_step name w)
time_raw name w =
    time_if w.links.now w (is_taken name w) _ _ (time_refused w.links.now w NameTaken)
    (time_links (link_event.Raw name) w)

time_join : (name : List ℕ) (main side : ℕ) (setup : Setup) (w : WorldState)
    → InTime w.links.now w (join name main side setup w)
unfolding InTime Ends
time_join name main side setup w none = timely_same w.links

time_connect : (shape : Shape) (name : List ℕ) (setup : Setup) (w : WorldState)
    → InTime w.links.now w (connect shape name setup w)
time_connect Single name setup w =
    let place = length w.links.links in
    let link = link_on Main name in
    time_then w (links_step (link_event.Raw link) w) (join name place place setup)
    (time_links (link_event.Raw link) w) (time_join name place place setup)
time_connect Pair name setup w =
    let place = length w.links.links in
    let side = link_on Side name in
    let main = link_on Main name in
    let joins = join name (place + 1) place setup in
    time_if w.links.now w (is_some (place_of main w.links)) _ _
    (time_refused w.links.now w NameTaken)
    (time_then w (links_step (link_event.Raw side) w)
    (λ v. and_then (links_step (link_event.Raw main) v) joins) (time_links (link_event.Raw side) w)
    (λ v. time_then v (links_step (link_event.Raw main) v) joins
    (time_links (link_event.Raw main) v) (time_join name (place + 1) place setup)))

time_made : (name : List ℕ) (mode : ClientMode) (capacity : ℕ) (w : WorldState)
    → InTime w.links.now w (client_step name mode capacity w)
unfolding InTime Ends
time_made name mode capacity w =
    let setup = setup_by w mode capacity in
    time_if w.links.now w (not (is_served mode)) _ _
    (time_refused w.links.now w (Refused not_served))
    (time_if w.links.now w (is_taken name w) _ _ (time_refused w.links.now w NameTaken)
    (time_then w (does w w []) (connect mode.shape name setup) (λ none. timely_same w.links)
    (time_connect mode.shape name setup)))

event_time : (e : Event) (w : WorldState) → InTime (clock_after w.links.now e) w (step w e)
unfolding step
event_time (Raw name) w = time_raw name w
event_time (Say name words) w =
    time_said (end_of_link name w.ends) name (request_spelling words) w
event_time (Bytes name bytes) w = time_said (end_of_link name w.ends) name bytes w
event_time (Client name mode capacity) w = time_made name mode capacity w
event_time (Out name count) w = time_out (end_of_link name w.ends) name count w
event_time (Serve name count) w = time_links (link_event.Over name (moves.Serve count)) w
event_time (Send name count) w = time_links (link_event.Over name (moves.Send count)) w
event_time (Recv name count) w = time_recv (end_of_link name w.ends) name count w
event_time (Flow name) w = time_flow (end_of_link name w.ends) name w
event_time FlowAll w = time_first (length w.links.links) w
event_time (Cut name) w = time_links (link_event.Over name moves.Cut) w
event_time (Now moment) w = time_links (link_event.Now moment) w
event_time Tick w = time_links link_event.Tick w
event_time (Ask name q) w =
    time_named (end_named name w) (turn (call.Ask q)) (turn_orderly (call.Ask q)) w
event_time (Do name words) w =
    time_named (end_named name w) (turn (call.Send words)) (turn_orderly (call.Send words)) w
event_time (Poll name n) w =
    time_named (end_named name w) (turn (call.Poll n)) (turn_orderly (call.Poll n)) w
event_time (Show name) w = time_named (end_named name w) (λ e. show) show_orderly w

-- ---- a schedule

pub keeps_time : (events : List Event) (v w : WorldState) → IsLegal v.links.limits v.links.past
    → after v events ≡ Some w → KeepsTime v.links.now v events
unfolding InTime Ends
keeps_time [] v w legal e = tt
keeps_time (d ∷ more) v w legal e =
    let t = step v d in
    elim t.fault as (λ f. t.fault ≡ f → unless_fault f (after t.state more) None ≡ Some w
    → KeepsTime v.links.now v (d ∷ more)) [
      | Some f ↦ λ is q. absurd (let no : ⊥ = cc in no)
      | None ↦ λ is q.
          let k = event_time d v is in (
            k.grows legal,
            subst (λ n. KeepsTime n t.state more) k.now
                (keeps_time more t.state w
                (subst (λ l. IsLegal l t.state.links.past) (sym k.limits) (k.legal legal)) q),
          )
    ] refl e
