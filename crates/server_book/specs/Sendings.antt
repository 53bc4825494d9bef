-- What sendings do to the connections, and what taking them back does.
use Rattle.std.specs.Prelude.{◌≡◌, ◌-◌, ◌==◌, ◌&&◌, ◌||◌, ℕ, List, [], ◌∷◌, ◌++◌, Bool, true, false}
use Rattle.std.specs.Prelude.{length, IfSome, not, take, Option, Some, None, if◌then◌else◌, filter}
use Rattle.std.specs.Prelude.{nat_eq, slice_index_or}
use Rattle.std.specs.List.{starts_with}
use Rattle.track_table.specs.declared.table.Held.{Held}
use Rattle.prefix_table.specs.declared.table.Registration.{Registration}
use Rattle.prefix_table.specs.Table.{nothing}
use Rattle.resp_value.specs.declared.value.Value.{Value}
use Rattle.redirect.specs.declared.routes.Route.{Route}
use Rattle.redirect.specs.declared.routes.Route.TheVariants as route
use Rattle.redirect.specs.Messages.{message_of}
use Rattle.redirect.specs.Routes.{breaks}
use Rattle.serial_model.specs.declared.history.Post.{Post}
use Rattle.serial_model.specs.declared.history.Posted.{Posted}
use Rattle.serial_model.specs.declared.history.Posted.TheVariants.{Message, End}
use Rattle.serial_model.specs.Actions.{are_lost, routed, target_at}
use Rattle.serial_model.specs.State as state
use Rattle.serial_model.specs.declared.standing.Standing.{Standing}
use Rattle.serial_model.specs.Tracking.{Invalidation, ids_where, told_to, whole_group}
use Rattle.serial_model.specs.History.{Sending, sending_bytes, posted_of}
use Rattle.server_book.specs.Places.{Connection, lost_one}
use Rattle.server_book.specs.Connections.{ConnectionsState, connection_at, with_connection}
use Rattle.server_book.specs.Connections.{IsOpen, is_live}
use Rattle.track_modes.specs.ModeState as track
use Rattle.track_modes.specs.ModeState.{ModeState}

-- the one key that is told of, or none for all
abbrev pub told_keys : Option (List ℕ) → Option (List (List ℕ))
told_keys None = None
told_keys (Some key) = Some (key ∷ [])

-- those who registered the prefix at a place are told, by one message each, of the keys that start
-- with it
abbrev pub told_at : List (List ℕ) → List Registration → ℕ → List Invalidation
told_at keys prefixes n =
    let r = slice_index_or prefixes n nothing in
    told_to (Some (filter (λ key. starts_with nat_eq key r.prefix) keys)) r.ids

-- a connection that tracks and has not ended
abbrev pub tracks : List Connection → ℕ → Bool
tracks connections id =
    let c = connection_at connections id in
    track.is_on c.mode.tracking && state.is_live c.standing

-- those that do, in order of their ids
abbrev pub tracking_ids : List Connection → List ℕ
tracking_ids connections = ids_where (tracks connections) (length connections)

-- the connection itself, where it is told of no key that it changes (NOLOOP)
abbrev pub passed_over : List Connection → ℕ → Option ℕ
passed_over connections id =
    if track.is_noloop (connection_at connections id).mode.tracking then Some id else None

abbrev pub passes : Option ℕ → ℕ → Bool
passes None id = false
passes (Some passed) id = passed == id

-- those who are not passed over
abbrev pub unpassed : Option ℕ → List Invalidation → List Invalidation
unpassed but told = filter (λ i. not (passes but i.to)) told

-- the modes of those that have not ended
abbrev pub modes_in : List Connection → ℕ → ModeState
modes_in connections id =
    if is_live connections id then (connection_at connections id).mode else track.new_mode

-- what these are sent where they are told
abbrev pub ways : List Connection → List Invalidation → List (ℕ × Sending)
ways connections told = routed (modes_in connections) (is_live connections) told

-- what goes this way goes to a connection that is open
abbrev pub IsOpenRoute : List Connection → Route → Type 0
IsOpenRoute connections (route.Push to) = IsOpen connections to
IsOpenRoute connections (route.Message to) = IsOpen connections to
IsOpenRoute connections (route.BrokenNotice to) = IsOpen connections to
IsOpenRoute connections route.Nowhere = Unit {0}

-- the message that was built, if one was, is that of these keys
abbrev pub IsMessage : Option (List (List ℕ)) → Option Value → Type 0
IsMessage keys message = IfSome message (λ m. m ≡ message_of keys)

-- a connection that redirects its messages to one that has ended
abbrev pub is_lost : List Connection → ℕ → Bool
is_lost connections id =
    let modes = modes_in connections in
    breaks (modes id).tracking (target_at modes (is_live connections) id)

-- those of them that do
abbrev pub lost_ids : List Connection → List Invalidation → List ℕ
lost_ids connections [] = []
lost_ids connections (i ∷ told) =
    if is_lost connections i.to then i.to ∷ lost_ids connections told
    else lost_ids connections told

-- its redirection is broken, or is found so where these keys leave
abbrev pub is_broken_by : List (List ℕ) → List Held → List Registration → List Connection → ℕ
    → Bool
is_broken_by keys rows prefixes connections id =
    (connection_at connections id).is_broken
    || are_lost (modes_in connections) (is_live connections) (whole_group keys rows prefixes) id

-- the target of a redirection, if there is one, has not ended
abbrev pub is_target : (ℕ → Bool) → Option ℕ → Bool
is_target on None = true
is_target on (Some r) = on r

-- bytes behind those that a connection has not taken
abbrev pub queued : List Connection → ℕ → List ℕ → List Connection
queued connections id bytes =
    let c = connection_at connections id in
    with_connection connections id (record c { queue = c.queue ++ bytes })

abbrev pub message_post : ℕ → ℕ → ℕ → Post
message_post entry id size = record { entry = entry; id = id; what = Message size }

abbrev pub end_post : ℕ → ℕ → Post
end_post entry id = record { entry = entry; id = id; what = End }

-- the end of a connection that had not ended
abbrev pub end_posts : ℕ → ℕ → Standing → List Post
end_posts entry id standing = if state.is_live standing then end_post entry id ∷ [] else []

-- the connections and the posts after one more sending of an entry, and after several
abbrev pub with_sending : ℕ → (ℕ × Sending) → ConnectionsState → ConnectionsState
with_sending entry s state =
    record state {
      items = queued state.items s.0 (sending_bytes s.1);
      posts = state.posts ++ record { entry = entry; id = s.0; what = posted_of s.1 } ∷ [];
    }

abbrev pub with_sendings : ℕ → List (ℕ × Sending) → ConnectionsState → ConnectionsState
with_sendings entry [] state = state
with_sendings entry (s ∷ ss) state = with_sendings entry ss (with_sending entry s state)

-- once these are told, each by its way
abbrev pub with_told : ℕ → List Invalidation → ConnectionsState → ConnectionsState
with_told entry told state =
    record (with_sendings entry (ways state.items told) state) {
      lost = state.lost ++ lost_ids state.items told;
    }

-- the redirections of these are broken, the last first
abbrev pub marked_one : ℕ → List Connection → List Connection
marked_one id connections =
    with_connection connections id (lost_one (connection_at connections id))

abbrev pub marked : List ℕ → List Connection → List Connection
marked [] connections = connections
marked (id ∷ ids) connections = marked_one id (marked ids connections)

abbrev pub lost_marked : ConnectionsState → ConnectionsState
lost_marked state = record state { items = marked state.lost state.items; lost = [] }

abbrev pub size_of : Posted → ℕ
size_of (Message length) = length
size_of End = 0

-- a connection without the bytes of a post, which are its last
abbrev pub unqueued : Post → List Connection → List Connection
unqueued post connections =
    let c = connection_at connections post.id in
    let left = length c.queue - size_of post.what in
    with_connection connections post.id (record c { queue = take left c.queue })

-- the connections before all that was posted: the last post goes first
abbrev pub before_posts : List Post → List Connection → List Connection
before_posts [] connections = connections
before_posts (post ∷ posts) connections = unqueued post (before_posts posts connections)
