-- The server and one link to it: what a move over that link is given, and changes. A turn may drop
-- connections of other links, and prints these by their names.
use Rattle.std.specs.Prelude.{ℕ, List, slice_set}
use Rattle.serial_model.specs.declared.history.Limits.{Limits}
use Rattle.serial_model.specs.declared.history.Entry.{Entry}
use Rattle.resp_stream.specs.Stream.{Stream}
use Rattle.server_links.specs.declared.direction.Direction.{Direction}
use Rattle.server_links.specs.declared.link.Link.{Link}
use Rattle.server_links.specs.ServerState.{ServerState}
use Rattle.server_links.specs.LinksState.{LinksState, at_place, names}

pub record Session : Type 0 where
  pub limits : Limits
  pub now : ℕ
  pub past : List Entry
  pub names : List (List ℕ)
  pub link : Link

abbrev pub session : ServerState → Link → Session
session server link = record {
  limits = server.book.limits;
  now = server.clock;
  past = server.book.past;
  names = server.names;
  link = link;
}

abbrev pub with_past : Session → List Entry → Session
with_past s past = record s { past = past }

abbrev pub with_link : Session → Link → Session
with_link s link = record s { link = link }

abbrev pub with_up : Link → Direction → Link
with_up l up = record { id = l.id; name = l.name; up = up; down = l.down; reader = l.reader }

abbrev pub with_down : Link → Direction → Link
with_down l down = record { id = l.id; name = l.name; up = l.up; down = down; reader = l.reader }

abbrev pub with_reader : Link → Stream → Link
with_reader l reader =
    record { id = l.id; name = l.name; up = l.up; down = l.down; reader = reader }

-- the session of the link at this place, and the world with it there
abbrev pub session_at : ℕ → LinksState → Session
session_at at w =
    record {
      limits = w.limits;
      now = w.now;
      past = w.past;
      names = names w.links;
      link = at_place w.links at;
    }

abbrev pub with_session : ℕ → LinksState → Session → LinksState
with_session at w s = record {
  limits = w.limits;
  now = w.now;
  past = s.past;
  links = slice_set w.links at s.link;
}

abbrev pub world : ServerState → List Link → LinksState
world server links = record {
  limits = server.book.limits;
  now = server.clock;
  past = server.book.past;
  links = links;
}
