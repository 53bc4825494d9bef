-- Connections by their ids, which begin at 1.
use Rattle.std.specs.Prelude.{◌≡◌, ◌-◌, ◌<◌, ◌≤◌, ◌&&◌, ℕ, List, Bool, true, nat_lt}
use Rattle.std.specs.Prelude.{length, nat_le}
use Rattle.std.specs.Prelude.{slice_index_or, slice_set}
use Rattle.std.specs.List.{count_by}
use Rattle.serial_model.specs.Each.{AllIn}
use Rattle.serial_model.specs.State as state
use Rattle.serial_model.specs.State.{keeps_bytes, may_take}
use Rattle.serial_model.specs.declared.history.Post.{Post}
use Rattle.server_book.specs.Places.{Connection, fresh}

-- the connections, what the last turn sent, those whose messages were due where the target of their
-- redirection had ended, which is not told of them yet, and whom the turn dropped
pub record ConnectionsState : Type 0 where
  pub items : List Connection
  pub posts : List Post
  pub lost : List ℕ
  pub drops : List ℕ

abbrev pub IsId : List Connection → ℕ → Type 0
IsId connections id = (0 < id) × (id ≤ length connections)

abbrev pub connection_at : List Connection → ℕ → Connection
connection_at connections id = slice_index_or connections (id - 1) fresh

abbrev pub with_connection : List Connection → ℕ → Connection → List Connection
with_connection connections id connection = slice_set connections (id - 1) connection

abbrev pub is_there : List Connection → ℕ → Bool
is_there connections id = nat_lt 0 id && nat_le id (length connections)

-- it has not ended; it can still be closed; it can still take
abbrev pub is_live : List Connection → ℕ → Bool
is_live connections id =
    is_there connections id && state.is_live (connection_at connections id).standing

abbrev pub reads : List Connection → ℕ → Bool
reads connections id =
    is_there connections id && keeps_bytes (connection_at connections id).standing

abbrev pub gives : List Connection → ℕ → Bool
gives connections id = is_there connections id && may_take (connection_at connections id).standing

-- a connection that can still be closed
abbrev pub is_open : Connection → Bool
is_open connection = keeps_bytes connection.standing

abbrev pub IsOpen : List Connection → ℕ → Type 0
IsOpen connections id =
    IsId connections id × (is_open (connection_at connections id) ≡ true)

-- each post is of a connection that is there
abbrev pub ArePosted : List Connection → List Post → Type 0
ArePosted connections posts = AllIn (λ (post : Post). IsId connections post.id) posts

-- a connection that has not ended
abbrev pub has_life : Connection → Bool
has_life connection = state.is_live connection.standing

-- and so are those that were lost; there is room for the end of each connection that has not ended,
-- as a post and as a drop
pub record HoldsPosts (connections : List Connection) (posts : List Post) (lost : List ℕ)
    (live room drop_room : ℕ) : Type 0 where
  pub there : ArePosted connections posts
  pub lost_there : AllIn (IsId connections) lost
  pub live_are : live ≡ count_by has_life connections
  pub for_each : live ≤ room
  pub for_drops : live ≤ drop_room
