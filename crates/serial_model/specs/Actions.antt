-- What one action of the server sends, in order, and what it leaves: a Run's or a Tick's. An action
-- reads only the state before it.
use Rattle.std.specs.Prelude.{◌==◌, ◌+◌, ◌&&◌, ◌||◌, ℕ, List, [], ◌∷◌, ◌++◌, Bool, false}
use Rattle.std.specs.Prelude.{if◌then◌else◌, Option, Some, None, option_map, map, filter}
use Rattle.std.specs.Prelude.{length, nat_lt}
use Rattle.std.specs.List.{list_any, flat_map}
use Rattle.resp_value.specs.declared.value.Value.{Value}
use Rattle.resp_value.specs.declared.value.Proto.{Proto}
use Rattle.resp_value.specs.declared.value.Proto.TheVariants.{Two, Three}
use Rattle.resp_value.specs.ValueTree.{tree_of}
use Rattle.resp_value.specs.Spelling.{spelling}
use Rattle.command_words.specs.declared.command.Signalled.{Signalled}
use Rattle.command_words.specs.Space.{Space}
use Rattle.track_table.specs.declared.table.Held.{Held}
use Rattle.track_table.specs.Table.{without_connection, without_keys, dropped, kept}
use Rattle.prefix_table.specs.Table as registrations
use Rattle.track_modes.specs.declared.peer.Peer.{Peer}
use Rattle.track_modes.specs.ModeState as track
use Rattle.track_modes.specs.ModeState.{ModeState, peer_of, is_noloop, redirect_of}
use Rattle.redirect.specs.declared.routes.Route.{Route}
use Rattle.redirect.specs.declared.routes.Route.TheVariants as route
use Rattle.redirect.specs.Routes.{route_of, breaks}
use Rattle.redirect.specs.Messages.{invalidation_of, notice_of}
use Rattle.serial_model.specs.declared.history.Limits.{Limits}
use Rattle.serial_model.specs.Modes.{Memory, Ending, mends, is_quitting, is_stopping}
use Rattle.serial_model.specs.Tracking.{Invalidation, drop_group, has_id, ids_where, registering}
use Rattle.serial_model.specs.Tracking.{remembering, signal_group, whole_group}
use Rattle.serial_model.specs.Tracking.{without_signalled}
use Rattle.serial_model.specs.State.{State, Standing, Quit, Gone, is_live, is_on, keeps_bytes, at}
use Rattle.serial_model.specs.State.{for_each}

-- what a connection is sent: a message in the protocol that it has at that moment, or its end
pub data Sending : Type 0 where
  Message : Proto → Value → Sending
  End : Sending

-- the bytes of a message in a protocol
unfoldable pub spelled : Proto → Value → List ℕ
spelled proto value = spelling proto (tree_of value)

-- an end has no bytes
abbrev pub sending_bytes : Sending → List ℕ
sending_bytes (Message proto value) = spelled proto value
sending_bytes End = []

-- the bytes of those that are for one connection
abbrev pub bytes_to : ℕ → List (ℕ × Sending) → List ℕ
bytes_to c ss = flat_map (λ s. if s.0 == c then sending_bytes s.1 else []) ss

-- ---- the way of an invalidation (the page of CLIENT TRACKING, REDIRECT)

-- what is known of the target of a redirection; of one that has ended, nothing
abbrev pub peer_at : (ℕ → ModeState) → (ℕ → Bool) → Option ℕ → Option Peer
peer_at modes on None = None
peer_at modes on (Some r) = if on r then Some (peer_of (modes r)) else None

abbrev pub target_at : (ℕ → ModeState) → (ℕ → Bool) → ℕ → Option Peer
target_at modes on c = peer_at modes on (redirect_of (modes c).tracking)

abbrev pub route_at : (ℕ → ModeState) → (ℕ → Bool) → ℕ → Route
route_at modes on c = route_of c (target_at modes on c) (modes c)

-- a message for a connection, if there is one
abbrev pub to_one : ℕ → Proto → Option Value → List (ℕ × Sending)
to_one c proto None = []
to_one c proto (Some value) = (c, Message proto value) ∷ []

abbrev pub carried : Route → Option ℕ → Option (List (List ℕ)) → List (ℕ × Sending)
carried (route.Push r) target keys = to_one r Three (invalidation_of (route.Push r) keys)
carried (route.Message r) target keys = to_one r Two (invalidation_of (route.Message r) keys)
carried (route.BrokenNotice c) target keys = to_one c Three (option_map notice_of target)
carried route.Nowhere target keys = []

abbrev pub way : (ℕ → ModeState) → (ℕ → Bool) → Invalidation → List (ℕ × Sending)
way modes on i =
    carried (route_at modes on i.to) (redirect_of (modes i.to).tracking) i.keys

abbrev pub routed : (ℕ → ModeState) → (ℕ → Bool) → List Invalidation → List (ℕ × Sending)
routed modes on told = flat_map (way modes on) told

-- a message was due to a connection, and its target had ended
abbrev pub are_lost : (ℕ → ModeState) → (ℕ → Bool) → List Invalidation → ℕ → Bool
are_lost modes on told c =
    list_any (λ i. i.to == c) told && breaks (modes c).tracking (target_at modes on c)

-- ---- one action: keys that are past their deadline leave and are told; a command runs, and its
-- reply is sent; keys that it signals are told and forgotten, and its connection remembers; keys
-- past the table's limit are dropped; and connections end

pub record ActionEffect : Type 0 where
  pub reply : Option Value
  pub signalled : Signalled
  pub mode : ModeState
  pub memory : Memory
  pub ending : Ending
  pub space : Space

pub record Action : Type 0 where
  pub by : ℕ
  pub moment : ℕ
  pub expired : List (List ℕ)
  pub effect : ActionEffect

-- Who is told of the expired keys and how goes by the modes before the action's command, the rest
-- by those behind it.
abbrev pub modes_then : Action → State → ℕ → ModeState
modes_then t s = at t.by t.effect.mode s.modes

abbrev pub expiry_told : Action → State → List Invalidation
expiry_told t s = whole_group t.expired s.table s.prefixes

abbrev pub rows_then : Action → State → List Held
rows_then t s = without_keys t.expired s.table

-- under NOLOOP a connection is not told of what its own command signals
abbrev pub is_passed : Action → State → ℕ → Bool
is_passed t s c = (t.by == c) && is_noloop (s.modes c).tracking

abbrev pub tracks : State → ℕ → Bool
tracks s c = track.is_on (s.modes c).tracking && is_on s c

abbrev pub own_told : Action → State → List Invalidation
own_told t s =
    signal_group t.effect.signalled (is_passed t s) (ids_where (tracks s) s.admitted)
    (rows_then t s) s.prefixes

abbrev pub rows_grown : Action → State → List Held
rows_grown t s =
    remembering t.by t.effect.memory (without_signalled t.effect.signalled (rows_then t s))

-- keys past the table's limit (tracking-table-max-keys)
abbrev pub drops_told : Limits → Action → State → List Invalidation
drops_told l t s = drop_group (dropped l.table_max (rows_grown t s))

abbrev pub later_told : Limits → Action → State → List Invalidation
later_told l t s = own_told t s ++ drops_told l t s

-- the reply, in the protocol that the command leaves
abbrev pub replies : Action → List (ℕ × Sending)
replies t = to_one t.by t.effect.mode.proto t.effect.reply

-- the messages of an action, in order
abbrev pub all_messages : Limits → Action → State → List (ℕ × Sending)
all_messages l t s =
    routed s.modes (is_on s) (expiry_told t s)
    ++ replies t
    ++ routed (modes_then t s) (is_on s) (later_told l t s)

-- a connection that has ended receives nothing more
abbrev pub heard : State → List (ℕ × Sending) → List (ℕ × Sending)
heard s ss = filter (λ m. is_on s m.0) ss

abbrev pub messages : Limits → Action → State → List (ℕ × Sending)
messages l t s = heard s (all_messages l t s)

-- more bytes wait for a connection than the limit (client-output-buffer-limit)
abbrev pub is_overgrown : Limits → Action → State → ℕ → Bool
is_overgrown l t s c = nat_lt l.out_max (s.waiting c + length (bytes_to c (messages l t s)))

abbrev pub quits : Action → ℕ → Bool
quits t c = (t.by == c) && is_quitting t.effect.ending

-- the connections that end by an action: one that quits; all at a SHUTDOWN; those that are
-- overgrown
abbrev pub is_ending : Limits → Action → State → ℕ → Bool
is_ending l t s c =
    is_live (s.standing c)
    && (quits t c || is_stopping t.effect.ending || is_overgrown l t s c)

abbrev pub ends : Limits → Action → State → List ℕ
ends l t s = ids_where (is_ending l t s) s.admitted

abbrev pub action_sends : Limits → Action → State → List (ℕ × Sending)
action_sends l t s = messages l t s ++ map (λ c. (c, End)) (ends l t s)

-- ---- what an action leaves

abbrev pub standing_after : Limits → Action → State → ℕ → Standing
standing_after l t s c =
    if has_id c (ends l t s) then (if quits t c then Quit else Gone) else s.standing c

abbrev pub broken_after : Limits → Action → State → ℕ → Bool
broken_after l t s c =
    (if (t.by == c) && mends t.effect.memory then false
    else s.broken c || are_lost s.modes (is_on s) (expiry_told t s) c)
    || are_lost (modes_then t s) (is_on s) (later_told l t s) c

abbrev pub waiting_after : Limits → Action → State → ℕ → ℕ
waiting_after l t s c =
    if keeps_bytes (standing_after l t s c)
    then s.waiting c + length (bytes_to c (action_sends l t s)) else 0

abbrev pub action_leaves : Limits → Action → State → State
action_leaves l t s =
    record {
      space = t.effect.space;
      admitted = s.admitted;
      latest = t.moment;
      modes = modes_then t s;
      standing = standing_after l t s;
      broken = broken_after l t s;
      waiting = waiting_after l t s;
      table = for_each without_connection (ends l t s) (kept l.table_max (rows_grown t s));
      prefixes = for_each registrations.without_connection (ends l t s)
          (registering t.by t.effect.memory s.prefixes);
      stopped = s.stopped || is_stopping t.effect.ending;
    }
