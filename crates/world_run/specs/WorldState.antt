-- What a world is seen as: a server with its links, and the clients at the other ends of some; and
-- when a link is over that has no client.
use Rattle.std.specs.Prelude.{◌≡◌, ◌≤◌, ◌<◌, ℕ, List, [], ◌++◌, ◌&&◌, false, codes, position}
use Rattle.std.specs.Prelude.{slice_index_or, length}
use Rattle.std.specs.declared.option.Option.{Option}
use Rattle.std.specs.declared.option.Option.TheVariants.{None}
use Rattle.std.specs.Str.{bytes_eq}
use Rattle.resp_stream.specs.Stream.{Stream, begun}
use Rattle.resp_value.specs.declared.value.Proto.TheVariants.{Three}
use Rattle.serial_model.specs.declared.history.Limits.{Limits}
use Rattle.shared_cache.specs.declared.log.Shape.TheVariants.{Single}
use Rattle.shared_cache.specs.declared.log.Caching.TheVariants.{Default}
use Rattle.shared_cache.specs.declared.log.Wire.{Wire}
use Rattle.shared_cache.specs.declared.log.Wire.TheVariants.{Main, Side}
use Rattle.shared_cache.specs.ClientFields.{Client}
use Rattle.shared_cache.specs.Held.{Setup}
use Rattle.shared_cache.specs.Log.{HasWire, is_wire}
use Rattle.server_links.specs.LinksState as links
use Rattle.server_links.specs.LinksState.{LinksState, at_place}

-- a client: its name, the places of its links, and its setup and log; of one link both are the one
-- place
pub record MemberState : Type 0 where
  pub name : List ℕ
  pub main : ℕ
  pub side : ℕ
  pub state : Client

-- a client's end of one of its links: the place of the client, which of its links it is, and that
-- link's name and place
pub record LinkEnd : Type 0 where
  pub client : ℕ
  pub wire : Wire
  pub link : List ℕ
  pub place : ℕ

-- and what it has read
pub record EndState : Type 0 where
  pub end : LinkEnd
  pub reader : Stream

-- the server with its links, the clients in the order in which they were made, their ends in the
-- order in which those links were, and how many entries the log of each client may have
pub record WorldState : Type 0 where
  pub links : LinksState
  pub members : List MemberState
  pub ends : List EndState
  pub log_max : ℕ

abbrev pub start_with : Limits → ℕ → WorldState
start_with limits log_max =
    record { links = links.start limits; members = []; ends = []; log_max = log_max }

-- a client's log may have as many entries as the server keeps
abbrev pub start : Limits → WorldState
start limits = start_with limits limits.history_max

-- the name of the link of a client that its commands go on, and of the other that it may have
abbrev pub link_on : Wire → List ℕ → List ℕ
link_on Main name = name ++ codes ".data"
link_on Side name = name ++ codes ".inv"

-- the place of a client's link
abbrev pub place_on : Wire → MemberState → ℕ
place_on Main m = m.main
place_on Side m = m.side

-- a client whose log is empty, at the links of these places
abbrev pub fresh_member : List ℕ → ℕ → ℕ → Setup → MemberState
fresh_member name main side setup = record {
  name = name;
  main = main;
  side = side;
  state = record { setup = setup; past = [] };
}

-- its end of a link, which has read nothing
abbrev pub fresh_end : ℕ → Wire → List ℕ → ℕ → EndState
fresh_end client wire name place = record {
  end = record { client = client; wire = wire; link = link_on wire name; place = place };
  reader = begun;
}

-- a setup for a place where there is no client
abbrev pub no_setup : Setup
no_setup = record {
  mode = record { shape = Single; proto = Three; caching = Default; noloop = false };
  capacity = 0;
  log_max = 0;
}

abbrev pub member_at : List MemberState → ℕ → MemberState
member_at members at = slice_index_or members at (fresh_member [] 0 0 no_setup)

abbrev pub end_at : List EndState → ℕ → EndState
end_at ends at = slice_index_or ends at (fresh_end 0 Main [] 0)

-- the client of an end
abbrev pub client_at : WorldState → ℕ → MemberState
client_at w at = member_at w.members (end_at w.ends at).end.client

-- the place of a client by its name
abbrev pub client_named : List ℕ → List MemberState → Option ℕ
client_named name members = position (λ (m : MemberState). bytes_eq m.name name) members

-- the place of an end by the name of its link, and by the name of the client whose commands go
-- there
abbrev pub end_of_link : List ℕ → List EndState → Option ℕ
end_of_link link ends = position (λ (e : EndState). bytes_eq e.end.link link) ends

abbrev pub end_of_client : List ℕ → List MemberState → List EndState → Option ℕ
end_of_client name members ends =
    position
    (λ (e : EndState).
    is_wire e.end.wire Main && bytes_eq (member_at members e.end.client).name name)
    ends

-- Nothing moves any more over the link at this place, and no client is at its end.
pub record IsOver (w : WorldState) (at : ℕ) : Type 0 where
  pub link : links.IsOver w.links at
  pub apart : end_of_link (at_place w.links.links at).name w.ends ≡ None

-- From each place on, the links before the place that is told are over.
abbrev pub AreOver : List ℕ → WorldState → Type 0
AreOver next w = (from at : ℕ) → from ≤ at → at < slice_index_or next from 0 → IsOver w at

-- each end is one of a client that there is, and that has such a link
abbrev pub HaveClients : WorldState → Type 0
HaveClients w =
    (at : ℕ) → at < length w.ends →
    let e = (end_at w.ends at).end in
    (e.client < length w.members)
    × HasWire (client_at w at).state.setup.mode.shape e.wire

-- each client has an end of each of its links
abbrev pub HaveEnds : WorldState → Type 0
HaveEnds w =
    (i : ℕ) → i < length w.members → (u : Wire)
    → HasWire (member_at w.members i).state.setup.mode.shape u
    → (k : ℕ) × (k < length w.ends) × ((end_at w.ends k).end.client ≡ i)
    × ((end_at w.ends k).end.wire ≡ u)
