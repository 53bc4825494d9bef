-- What a link delivers that flows, and what its client has sent then.
use Rattle.std.specs.Prelude.{◌≡◌, ◌≤◌, ℕ, List, [], true, false, length}
use Rattle.std.specs.declared.option.Option.{Option}
use Rattle.std.specs.declared.option.Option.TheVariants.{None, Some}
use Rattle.serial_model.specs.History.{reads_on}
use Rattle.shared_cache.specs.Out.{untaken}
use Rattle.script_text.specs.declared.event.Event.TheVariants.{Flow}
use Rattle.server_links.specs.Directions.{is_open}
use Rattle.server_links.specs.LinksState.{at_place}
use Rattle.server_links.specs.Moves.{all_bytes}
use Rattle.server_links.specs.OneHistory.{IsDelivered}
use Rattle.world_run.specs.WorldState.{WorldState, client_at, end_at, end_of_link}
use Rattle.world_run.specs.Members.{seat_at}
use Rattle.world_run.specs.ClientMoves.{has_ended}
use Rattle.world_run.specs.World.{step}

-- the bytes that the client of an end has for its link, and has not taken out for it
abbrev pub untaken_bytes : WorldState → ℕ → List ℕ
untaken_bytes w at =
    let m = client_at w at in untaken m.state.setup (end_at w.ends at).end.wire m.state.past

-- the client of a link, where it has one, has not ended it
abbrev pub HasNotEnded : Option ℕ → WorldState → Type 0
HasNotEnded None w = Unit {0}
HasNotEnded (Some at) w = has_ended (end_at w.ends at).end.wire (seat_at at w) ≡ false

-- and has nothing more for it, where one call can take out all that it had
abbrev pub IsEmptied : Option ℕ → WorldState → WorldState → Type 0
IsEmptied None w new = Unit {0}
IsEmptied (Some at) w new =
    length (untaken_bytes w at) ≤ all_bytes → untaken_bytes new at ≡ []

-- A link that is not cut, whose server reads on and whose client has not ended it, delivers all
-- that was there once it flows without a fault: what its client had for it too. So it does where
-- the client ends it on the way, for a value that it read.
abbrev pub FlowDelivers : WorldState → ℕ → Type 0
FlowDelivers w at =
    let link = at_place w.links.links at in
    let client = end_of_link link.name w.ends in
    let new = step w (Flow link.name) in
    reads_on w.links.limits w.links.past link.id ≡ true → is_open link.up.eof ≡ true
    → is_open link.down.eof ≡ true → HasNotEnded client w → new.fault ≡ None
    → IsDelivered new.state.links (at_place new.state.links.links at)
    × IsEmptied client w new.state
