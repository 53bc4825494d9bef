-- Whom a turn ends, behind all that it sends, and what that leaves of the connections.
use Rattle.std.specs.Prelude.{◌≡◌, ◌+◌, ◌<◌, ◌≤◌, ◌==◌, ◌&&◌, ◌||◌, ℕ, List, [], ◌∷◌, ◌++◌, Bool}
use Rattle.std.specs.Prelude.{true, false, not, length, nat_lt, map, filter, if◌then◌else◌}
use Rattle.std.specs.List.{count_by, list_any}
use Rattle.serial_model.specs.Modes.{is_quitting, is_stopping}
use Rattle.serial_model.specs.State as state
use Rattle.serial_model.specs.Tracking.{ids_where}
use Rattle.serial_model.specs.declared.history.Post.{Post}
use Rattle.server_book.specs.declared.deed.Deed.{Deed}
use Rattle.server_book.specs.declared.ends.Ends.{Ends}
use Rattle.server_book.specs.Places.{Connection, ended_one}
use Rattle.server_book.specs.Connections.{ConnectionsState, IsId, connection_at, is_open}
use Rattle.server_book.specs.Connections.{with_connection}
use Rattle.server_book.specs.Plans.{ending_by}
use Rattle.server_book.specs.Sendings.{end_post}

-- whom a deed ends
abbrev pub ends_of : ℕ → Deed → ℕ → Ends
ends_of by deed limit =
    record {
      by = by;
      quits = is_quitting (ending_by deed);
      stops = is_stopping (ending_by deed);
      limit = limit;
    }

-- whom a Tick ends
abbrev pub by_tick : ℕ → Ends
by_tick limit = record { by = 0; quits = false; stops = false; limit = limit }

abbrev pub quits_in : Ends → ℕ → Bool
quits_in ends id = (ends.by == id) && ends.quits

-- more bytes wait for it than the limit
abbrev pub is_past : ℕ → List Connection → ℕ → Bool
is_past limit connections id = nat_lt limit (length (connection_at connections id).queue)

abbrev pub is_ending : Ends → List Connection → ℕ → Bool
is_ending ends connections id =
    state.is_live (connection_at connections id).standing
    && (quits_in ends id || ends.stops || is_past ends.limit connections id)

abbrev pub ending_ids : Ends → List Connection → List ℕ
ending_ids ends connections = ids_where (is_ending ends connections) (length connections)

-- those that do not quit are dropped
abbrev pub dropped_ids : Ends → List Connection → List ℕ
dropped_ids ends connections =
    filter (λ id. not (quits_in ends id)) (ending_ids ends connections)

-- each that has not ended, and for which more bytes wait than the limit, was sent something
abbrev pub ArePostedTo : ℕ → List Connection → List Post → Type 0
ArePostedTo limit connections posts =
    (id : ℕ) → IsId connections id
    → state.is_live (connection_at connections id).standing ≡ true
    → is_past limit connections id ≡ true
    → list_any (λ p. p.id == id) posts ≡ true

-- those whom a turn ends are past the one number, and not past the other
pub record IsWithin (ends : Ends) (connections : List Connection) (after last : ℕ) : Type 0 where
  pub order : after ≤ last
  pub there : last ≤ length connections
  pub within : (id : ℕ) → IsId connections id → is_ending ends connections id ≡ true
      → (after < id) × (id ≤ last)

-- the connections once one of them has ended
abbrev pub ended : ℕ → Ends → ℕ → ConnectionsState → ConnectionsState
ended entry ends id state =
    let quits = quits_in ends id in
    let c = ended_one quits (connection_at state.items id) in
    record state {
      items = with_connection state.items id c;
      posts = state.posts ++ end_post entry id ∷ [];
      drops = state.drops ++ (if quits then [] else id ∷ []);
    }

abbrev pub ended_if : Bool → ℕ → Ends → ℕ → ConnectionsState → ConnectionsState
ended_if ends_it entry ends id state = if ends_it then ended entry ends id state else state

-- and once all have whom a turn ends
abbrev pub left_of : Ends → List Connection → ℕ → Connection
left_of ends connections id =
    let c = connection_at connections id in
    if is_ending ends connections id then ended_one (quits_in ends id) c else c

pub record HasEnded (entry : ℕ) (ends : Ends) (old new : ConnectionsState) : Type 0 where
  pub count : length new.items ≡ length old.items
  pub each : (id : ℕ) → IsId old.items id
      → connection_at new.items id ≡ left_of ends old.items id
  pub posts : new.posts ≡ old.posts ++ map (end_post entry) (ending_ids ends old.items)
  pub drops : new.drops ≡ old.drops ++ dropped_ids ends old.items
  pub lost : new.lost ≡ old.lost
  -- one that is dropped cannot be closed any more
  pub closable : count_by is_open new.items + length new.drops
      ≤ count_by is_open old.items + length old.drops
