-- A client of a world at one of its links: what a move of that client is given, and changes.
use Rattle.std.specs.Prelude.{◌+◌, ℕ, List, slice_set}
use Rattle.resp_stream.specs.Stream.{Stream}
use Rattle.shared_cache.specs.declared.log.LogEntry.{LogEntry}
use Rattle.shared_cache.specs.Held.{Setup}
use Rattle.server_links.specs.declared.link.Link.{Link}
use Rattle.server_links.specs.LinkEvent.{LinkEvent}
use Rattle.server_links.specs.LinksState.{LinksState, at_place}
use Rattle.server_links.specs.LinkSteps as links
use Rattle.server_links.specs.Outcome.{Outcome, within}
use Rattle.currency.specs.Links.{Client}
use Rattle.world_run.specs.WorldState.{EndState, LinkEnd, MemberState, WorldState, client_at}
use Rattle.world_run.specs.WorldState.{end_at, place_on}

-- the links, the client, and what its end of the one link has read
pub record Seat : Type 0 where
  pub links : LinksState
  pub member : MemberState
  pub reader : Stream

abbrev pub seat : LinksState → MemberState → Stream → Seat
seat links member reader = record { links = links; member = member; reader = reader }

abbrev pub with_links : Seat → LinksState → Seat
with_links s links = record s { links = links }

abbrev pub with_log : Seat → List LogEntry → Seat
with_log s log =
    record s { member = record s.member { state = record s.member.state { past = log } } }

abbrev pub with_reader : Seat → Stream → Seat
with_reader s reader = record s { reader = reader }

abbrev pub setup_of : Seat → Setup
setup_of s = s.member.state.setup

abbrev pub log_of : Seat → List LogEntry
log_of s = s.member.state.past

-- the link of an end
abbrev pub link_of : LinkEnd → Seat → Link
link_of e s = at_place s.links.links e.place

-- the client as the theorem on currency sees it: its setup, and the connections of its links;
-- connections and links are made together
abbrev pub client_of : MemberState → Client
client_of m = record { setup = m.state.setup; id = λ w. place_on w m + 1 }

-- the seat of the client at the end of this place, and the world with it there
abbrev pub seat_at : ℕ → WorldState → Seat
seat_at at w = record {
  links = w.links;
  member = client_at w at;
  reader = (end_at w.ends at).reader;
}

abbrev pub with_seat : ℕ → WorldState → Seat → WorldState
with_seat at w s =
    let e = (end_at w.ends at).end in
    record w {
      links = s.links;
      members = slice_set w.members e.client s.member;
      ends = slice_set w.ends at (record { end = e; reader = s.reader });
    }

abbrev pub world : ℕ → LinksState → List MemberState → List EndState → WorldState
world log_max links members ends =
    record { links = links; members = members; ends = ends; log_max = log_max }

-- something happens to the links
unfoldable pub links_do : LinkEvent → Seat → Outcome Seat
links_do event s = within (with_links s) (links.step s.links event)
