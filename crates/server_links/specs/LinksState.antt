-- What a server with its links is seen as, and when a link is over.
use Rattle.std.specs.Prelude.{◌≡◌, ◌+◌, ◌<◌, ℕ, List, [], true, false, length, map}
use Rattle.std.specs.Prelude.{slice_index_or}
use Rattle.resp_stream.specs.Stream.{begun}
use Rattle.serial_model.specs.declared.history.Limits.{Limits}
use Rattle.serial_model.specs.declared.history.Entry.{Entry}
use Rattle.serial_model.specs.History.{admitted, is_admitted, reads_on}
use Rattle.server_links.specs.declared.link.Link.{Link}
use Rattle.server_links.specs.Directions.{fresh, spent}

abbrev pub fresh_link : ℕ → List ℕ → Link
fresh_link id name = record { id = id; name = name; up = fresh; down = fresh; reader = begun }

-- the limits, the clock in milliseconds, the history with its newest entry first, and the links in
-- the order in which they were made
pub record LinksState : Type 0 where
  pub limits : Limits
  pub now : ℕ
  pub past : List Entry
  pub links : List Link

abbrev pub start : Limits → LinksState
start limits = record { limits = limits; now = 0; past = []; links = [] }

abbrev pub at_place : List Link → ℕ → Link
at_place links at = slice_index_or links at (fresh_link 0 [])

-- each admitted connection has a link, the one of the id n at the place n - 1
pub record Fits (past : List Entry) (links : List Link) : Type 0 where
  pub count : length links ≡ admitted past
  pub ids : (at : ℕ) → at < length links → (at_place links at).id ≡ at + 1

abbrev pub names : List Link → List (List ℕ)
names links = map (λ (l : Link). l.name) links

-- no two of them are the same
abbrev pub AreApart : List (List ℕ) → Type 0
AreApart ns = (i j : ℕ) → i < length ns → j < length ns
    → slice_index_or ns j [] ≡ slice_index_or ns i [] → j ≡ i

-- these are the names of the links, in order, and each is one link's
pub record AreNames (ns : List (List ℕ)) (links : List Link) : Type 0 where
  pub all : ns ≡ names links
  pub apart : AreApart ns

-- The link at this place is over, whatever happens: its connection was admitted and is read no
-- more, and the EOF on the way down was read. One that has quit is still read.
pub record IsOver (w : LinksState) (at : ℕ) : Type 0 where
  pub there : is_admitted w.past (at_place w.links at).id ≡ true
  pub unread : reads_on w.limits w.past (at_place w.links at).id ≡ false
  pub read : (at_place w.links at).down ≡ spent
