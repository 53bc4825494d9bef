-- What holds of every history that turns make, read off the definitions alone.
use Rattle.std.specs.Prelude.{◌≡◌, ◌==◌, ◌↔◌, ◌⊎◌, ◌<◌, ◌≤◌, ◌+◌, ◌||◌, ◌&&◌, not, ℕ, List, []}
use Rattle.std.specs.Prelude.{◌∷◌, ◌++◌, Bool, true, false, filter, take, length, All, nat_eq}
use Rattle.std.specs.Prelude.{nat_lt, Option, Some, None, is_some, Result, Ok, if◌then◌else◌}
use Rattle.std.specs.List.{list_any, starts_with}
use Rattle.std.specs.Str.{bytes_eq}
use Rattle.resp_value.specs.Lists.{IsPrefix}
use Rattle.resp_value.specs.declared.value.Proto.{Proto}
use Rattle.resp_value.specs.declared.value.Proto.TheVariants.{Two, Three}
use Rattle.command_words.specs.declared.command.Command.{Command}
use Rattle.command_words.specs.declared.command.Command.TheVariants.{ClientCaching, ClientTracking}
use Rattle.command_words.specs.declared.command.Command.TheVariants.{Reset, Shutdown}
use Rattle.command_words.specs.declared.command.WordFault.{WordFault}
use Rattle.command_words.specs.declared.command.Signalled.{Signalled}
use Rattle.command_words.specs.declared.command.Signalled.TheVariants as signalled
use Rattle.command_words.specs.Laws.{signals}
use Rattle.command_words.specs.Space.{held_at}
use Rattle.command_words.specs.Queries.{key_of, reads_as_cacheable, writes}
use Rattle.command_words.specs.Words.{reading}
use Rattle.command_words.specs.Effects.{answer}
use Rattle.track_table.specs.declared.table.Held.{Held}
use Rattle.track_table.specs.Table.{holders_of}
use Rattle.prefix_table.specs.declared.table.Registration.{Registration}
use Rattle.track_modes.specs.ModeState.{ModeState, new_mode, prefixes_of, redirect_of}
use Rattle.track_modes.specs.ModeState.{remembers_read}
use Rattle.track_modes.specs.Tracked.{caching_fault, tracking_fault}
use Rattle.redirect.specs.declared.routes.Route.{Route}
use Rattle.redirect.specs.declared.routes.Route.TheVariants as route
use Rattle.redirect.specs.Messages.{push_of, message_of, notice_of}
use Rattle.serial_model.specs.declared.history.Limits.{Limits}
use Rattle.serial_model.specs.declared.history.Entry.{Entry}
use Rattle.serial_model.specs.declared.history.Entry.TheVariants as entry
use Rattle.serial_model.specs.declared.history.Post.{Post}
use Rattle.serial_model.specs.declared.history.BookCall.{BookCall}
use Rattle.serial_model.specs.declared.history.BookCall.TheVariants.{Admit, Run, Tick, Take}
use Rattle.serial_model.specs.declared.history.BookCall.TheVariants.{Close}
use Rattle.serial_model.specs.declared.history.BookReply.{BookReply}
use Rattle.serial_model.specs.Modes.{Memory, Remembers, Registers, Forgets, Runner, is_confined}
use Rattle.serial_model.specs.Tracking.{tells, names_key, has_id}
use Rattle.serial_model.specs.State.{State, Live, is_on}
use Rattle.serial_model.specs.Actions.{Action, Sending, Message, End, routed, heard, messages}
use Rattle.serial_model.specs.Actions.{modes_then}
use Rattle.serial_model.specs.Actions.{all_messages, route_at, is_passed}
use Rattle.serial_model.specs.EntryEffects.{dropped_by}
use Rattle.serial_model.specs.History.{admitted, is_admitted, has_ended, runs_on, sends, sent}
use Rattle.serial_model.specs.History.{is_quit, is_stopped, protocol, sent_bytes}
use Rattle.serial_model.specs.History.{state}
use Rattle.serial_model.specs.History.{stream, taken, unsent, runs_of, posted, posted_of, IsLegal}
use Rattle.serial_model.specs.History.{mode, modes, reply_of, ran, effect_in}
use Rattle.serial_model.specs.History.{keyspace, expired}
use Rattle.serial_model.specs.History.{expiry_group, drops, invalidations, made, served_reading}
use Rattle.serial_model.specs.History.{sent_to, run_action, runner, tick_action, table}
use Rattle.serial_model.specs.Steps.{book_step, IsCallable, Turns, given, answered}

-- The bytes that a connection was given are the first bytes of what was sent to it.
abbrev pub GivenIsStream : Type 0
GivenIsStream =
    (l : Limits) (c : ℕ) (calls : List BookCall) (replies : List BookReply) (past : List Entry)
    → Turns l [] calls replies past
    → given c calls replies ≡ take (taken l c past) (stream l c past)

-- Each request that was answered as run is one entry, in the order of its connection, and no other
-- is.
abbrev pub EachRunOnce : Type 0
EachRunOnce =
    (l : Limits) (c : ℕ) (calls : List BookCall) (replies : List BookReply) (past : List Entry)
    → Turns l [] calls replies past
    → runs_of c past ≡ answered c calls replies

-- The newest entry is one that a step adds on a legal past.
abbrev pub IsAdded : Limits → List Entry → Type 0
IsAdded l [] = Unit {0}
IsAdded l (entry ∷ past) =
    IsLegal l past
    × (call : BookCall) × IsCallable call × ((book_step l past call).past ≡ entry ∷ past)

abbrev pub LegalIsAdded : Type 0
LegalIsAdded = (l : Limits) (past : List Entry) → IsLegal l past ↔ IsAdded l past

-- What another connection's turn leaves of a connection: what was sent to it may grow, and it may
-- end; what it took and what it ran are the same.
pub record Extends (l : Limits) (c : ℕ) (old new : List Entry) : Type 0 where
  pub is_still_admitted : is_admitted old c ≡ true → is_admitted new c ≡ true
  pub stream_grew : IsPrefix (stream l c old) (stream l c new)
  pub taken_is : taken l c new ≡ taken l c old
  pub runs_are : runs_of c new ≡ runs_of c old
  pub stays_ended : has_ended l c old ≡ true → has_ended l c new ≡ true

-- The entry is no Run of this connection.
abbrev pub IsNoRun : ℕ → Entry → Type 0
IsNoRun c (entry.Admit id) = Unit {0}
IsNoRun c (entry.Run id words moment) = (id == c) ≡ false
IsNoRun c (entry.Tick moment) = Unit {0}
IsNoRun c (entry.Take id max) = Unit {0}
IsNoRun c (entry.Close id) = Unit {0}

-- A connection's own Runs alone change its mode.
abbrev pub ModeByOwnRuns : Type 0
ModeByOwnRuns =
    (l : Limits) (c : ℕ) (entry : Entry) (past : List Entry)
    → IsNoRun c entry → mode l c (entry ∷ past) ≡ mode l c past

-- the words are CLIENT CACHING, which this mode allows and does not refuse
abbrev pub sets_caching : Result Command WordFault → ModeState → Bool
sets_caching (Ok (ClientCaching is_yes)) m =
    not (is_confined m) && not (is_some (caching_fault is_yes m.tracking))
sets_caching read m = false

-- the newest Run of the connection is an accepted CLIENT CACHING
abbrev pub is_marked : Limits → ℕ → List Entry → Bool
is_marked l c [] = false
is_marked l c (entry.Admit id ∷ past) = is_marked l c past
is_marked l c (entry.Run id words moment ∷ past) =
    if id == c then sets_caching (reading words) (mode l c past) else is_marked l c past
is_marked l c (entry.Tick moment ∷ past) = is_marked l c past
is_marked l c (entry.Take id max ∷ past) = is_marked l c past
is_marked l c (entry.Close id ∷ past) = is_marked l c past

-- What CLIENT CACHING says is in force for a Run exactly where it is its connection's Run before.
abbrev pub NextAfterMark : Type 0
NextAfterMark =
    (l : Limits) (c : ℕ) (past : List Entry) → (mode l c past).caching ≡ is_marked l c past

-- RESET leaves its connection the mode with which it was admitted, and no broken redirection (the
-- page of RESET).
abbrev pub ResetRenews : Type 0
ResetRenews =
    (l : Limits) (id moment : ℕ) (words : List (List ℕ)) (past : List Entry)
    → reading words ≡ Ok Reset
    → (mode l id (entry.Run id words moment ∷ past) ≡ new_mode)
    × ((state l (entry.Run id words moment ∷ past)).broken id ≡ false)

-- The call is none of this connection's.
abbrev pub IsOther : ℕ → BookCall → Type 0
IsOther c Admit = Unit {0}
IsOther c (Run id words now) = (id == c) ≡ false
IsOther c (Tick now) = Unit {0}
IsOther c (Take id most) = (id == c) ≡ false
IsOther c (Close id) = (id == c) ≡ false

abbrev pub OthersExtend : Type 0
OthersExtend =
    (l : Limits) (c : ℕ) (past : List Entry) (call : BookCall)
    → IsOther c call → Extends l c past (book_step l past call).past

abbrev pub is_end : Sending → Bool
is_end (Message proto value) = false
is_end End = true

-- what was sent to a connection, as posts
abbrev pub as_posts : ℕ → List (ℕ × Sending) → List Post
as_posts c [] = []
as_posts c (s ∷ ss) = record { entry = s.0; id = c; what = posted_of s.1 } ∷ as_posts c ss

-- The posts of the newest entry are what it added to what each connection was sent.
abbrev pub PostedIsSent : Type 0
PostedIsSent =
    (l : Limits) (c : ℕ) (entry : Entry) (past : List Entry)
    → as_posts c (sent l c (entry ∷ past))
    ≡ as_posts c (sent l c past) ++ filter (λ p. p.id == c) (posted l (entry ∷ past))

-- Each post of the newest entry has the number of that entry.
abbrev pub PostsAreNumbered : Type 0
PostsAreNumbered =
    (l : Limits) (past : List Entry) → All (λ p. p.entry ≡ length past) (posted l past)

abbrev pub has_end : List (ℕ × Sending) → Bool
has_end ss = list_any (λ s. is_end s.1) ss

-- A connection has ended exactly where its end was sent.
abbrev pub EndIsSent : Type 0
EndIsSent = (l : Limits) (c : ℕ) (past : List Entry) → has_ended l c past ≡ has_end (sent l c past)

-- All sendings have this number.
abbrev pub AreOf : ℕ → List (ℕ × Sending) → Type 0
AreOf entry [] = Unit {0}
AreOf entry (s ∷ ss) = (s.0 ≡ entry) × AreOf entry ss

-- What was sent only grows, and what an entry adds has the number of that entry.
abbrev pub SentGrows : Type 0
SentGrows =
    (l : Limits) (c : ℕ) (entry : Entry) (past : List Entry)
    → (new : List (ℕ × Sending))
    × (sent l c (entry ∷ past) ≡ sent l c past ++ new) × AreOf (length past + 1) new

-- Nothing is sent to a connection after its end.
abbrev pub EndIsLast : Type 0
EndIsLast =
    (l : Limits) (c : ℕ) (entry : Entry) (past : List Entry)
    → has_ended l c past ≡ true → sent l c (entry ∷ past) ≡ sent l c past

-- The entry at which a connection ends sends its end, behind all else that it sends to it.
abbrev pub EndIsAtItsEntry : Type 0
EndIsAtItsEntry =
    (l : Limits) (c : ℕ) (entry : Entry) (past : List Entry)
    → has_ended l c past ≡ false → has_ended l c (entry ∷ past) ≡ true
    → (before : List (ℕ × Sending)) × (has_end before ≡ false)
    × (sent l c (entry ∷ past) ≡ before ++ (length past + 1, End) ∷ [])

-- How many bytes wait for a connection is how many it did not take and still can.
abbrev pub WaitingIsUnsent : Type 0
WaitingIsUnsent =
    (l : Limits) (c : ℕ) (past : List Entry)
    → (state l past).waiting c ≡ length (unsent l c past)

-- A Close gives up what its connection had not taken.
abbrev pub CloseGivesUp : Type 0
CloseGivesUp =
    (l : Limits) (c : ℕ) (past : List Entry) → unsent l c (entry.Close c ∷ past) ≡ []

-- No more bytes wait for a connection that has not ended than the limit.
abbrev pub LimitIsKept : Type 0
LimitIsKept =
    (l : Limits) (c : ℕ) (past : List Entry)
    → has_ended l c past ≡ false → length (unsent l c past) ≤ l.out_max

-- the words are SHUTDOWN, which this mode allows
abbrev pub stops : Result Command WordFault → ModeState → Bool
stops (Ok (Shutdown saving)) m = not (is_confined m)
stops read m = false

abbrev pub is_shutdown : Limits → Entry → List Entry → Bool
is_shutdown l (entry.Run id words moment) past = stops (reading words) (mode l id past)
is_shutdown l _ past = false

abbrev pub has_shutdown : Limits → List Entry → Bool
has_shutdown l [] = false
has_shutdown l (entry ∷ past) = is_shutdown l entry past || has_shutdown l past

-- The server is stopped exactly where a SHUTDOWN ran (the page of SHUTDOWN).
abbrev pub StoppedIsShutdown : Type 0
StoppedIsShutdown = (l : Limits) (past : List Entry) → is_stopped l past ≡ has_shutdown l past

-- Every connection has ended by then.
abbrev pub StoppedHasEnded : Type 0
StoppedHasEnded =
    (l : Limits) (c : ℕ) (past : List Entry)
    → IsLegal l past → is_stopped l past ≡ true → runs_on l past c ≡ false

-- the entry is a Run by which the connection quits; its Close
abbrev pub quits_by : Entry → ℕ → Bool
quits_by (entry.Run id words moment) c = (id == c) && is_quit words
quits_by _ c = false

abbrev pub closes_by : Entry → ℕ → Bool
closes_by (entry.Close id) c = id == c
closes_by _ c = false

-- how many bytes wait for a connection with those that an entry sends it
abbrev pub waiting_with : Limits → Entry → List Entry → ℕ → ℕ
waiting_with l entry past c =
    length (unsent l c past)
    + length (sent_bytes (sent_to (length past + 1) c (sends l entry (state l past))))

-- A connection that had not ended is dropped exactly by a SHUTDOWN, or where more bytes wait for it
-- than the limit; but not by the entry by which it quits.
abbrev pub DropIsCaused : Type 0
DropIsCaused =
    (l : Limits) (c : ℕ) (entry : Entry) (past : List Entry)
    → runs_on l past c ≡ true
    → has_id c (dropped_by l (entry ∷ past))
    ≡ ((is_shutdown l entry past || nat_lt l.out_max (waiting_with l entry past c))
    && not (quits_by entry c))

-- One that had not ended ends exactly where it is dropped, quits or is closed.
abbrev pub EndIsCaused : Type 0
EndIsCaused =
    (l : Limits) (c : ℕ) (entry : Entry) (past : List Entry)
    → runs_on l past c ≡ true
    → has_ended l c (entry ∷ past)
    ≡ (has_id c (dropped_by l (entry ∷ past)) || quits_by entry c || closes_by entry c)

-- One that had ended, or was not admitted, is not dropped.
abbrev pub DropIsOnce : Type 0
DropIsOnce =
    (l : Limits) (c : ℕ) (entry : Entry) (past : List Entry)
    → runs_on l past c ≡ false → has_id c (dropped_by l (entry ∷ past)) ≡ false

-- A connection has what it has as it is admitted.
pub record IsFirst (s : State) (c : ℕ) : Type 0 where
  pub mode : s.modes c ≡ new_mode
  pub standing : s.standing c ≡ Live
  pub broken : s.broken c ≡ false
  pub waiting : s.waiting c ≡ 0

-- One that was not admitted has that, and was sent nothing.
abbrev pub FreshIsFirst : Type 0
FreshIsFirst =
    (l : Limits) (c : ℕ) (past : List Entry)
    → IsLegal l past → admitted past < c → IsFirst (state l past) c

abbrev pub FreshIsSentNothing : Type 0
FreshIsSentNothing =
    (l : Limits) (c : ℕ) (past : List Entry)
    → IsLegal l past → admitted past < c → sent l c past ≡ []

-- the action of an entry
abbrev pub OnAction : (Action → State → Type 0) → Entry → State → Type 0
OnAction P (entry.Run id words moment) s = P (run_action id words moment s) s
OnAction P (entry.Tick moment) s = P (tick_action moment s) s
OnAction P _ s = Unit {0}

-- In a legal history no message is for a connection that has ended.
abbrev pub MessagesAreLive : Type 0
MessagesAreLive =
    (l : Limits) (entry : Entry) (past : List Entry) → IsLegal l (entry ∷ past)
    → OnAction (λ t s. messages l t s ≡ all_messages l t s) entry (state l past)

-- The reply to a Run stands behind what tells of keys that left before it, and before the rest.
abbrev pub ReplyBehindExpiry : Type 0
ReplyBehindExpiry =
    (l : Limits) (id moment : ℕ) (words : List (List ℕ)) (past : List Entry)
    → (rest : List (ℕ × Sending))
    × (sends l (entry.Run id words moment) (state l past)
    ≡ heard (state l past)
    (routed (modes l past) (is_on (state l past)) (expiry_group l past moment))
    ++ heard (state l past) (reply_of l past id words moment) ++ rest)

-- A Run in a legal history is of a connection that has not ended.
abbrev pub RunsLive : Type 0
RunsLive =
    (l : Limits) (id moment : ℕ) (words : List (List ℕ)) (past : List Entry)
    → IsLegal l (entry.Run id words moment ∷ past)
    → (is_admitted past id ≡ true) × (has_ended l id past ≡ false)

-- ---- What an entry does to keys, and whom it tells: all that a client's theorem needs of it.

abbrev pub is_among : List (List ℕ) → List ℕ → Bool
is_among keys key = list_any (bytes_eq key) keys

-- an entry signals a key
abbrev pub signals_key : Limits → Entry → List Entry → List ℕ → Bool
signals_key l (entry.Run id words moment) past key =
    is_among (expired l past moment) key || signals (ran l past id words moment).signalled key
signals_key l (entry.Tick moment) past key = is_among (expired l past moment) key
signals_key l _ past key = false

-- an entry drops a key from the table
abbrev pub drops_key : Limits → Entry → List Entry → List ℕ → Bool
drops_key l (entry.Run id words moment) past key =
    list_any (λ r. bytes_eq key r.key) (drops l past id words moment)
drops_key l _ past key = false

-- the connection is among those that remember the key
abbrev pub remembers : List Held → ℕ → List ℕ → Bool
remembers rows c key = has_id c (holders_of key rows)

-- it is among those that registered a prefix of the key
abbrev pub has_prefix_of : List Registration → ℕ → List ℕ → Bool
has_prefix_of rows c key =
    list_any (λ r. starts_with nat_eq key r.prefix && has_id c r.ids) rows

-- one of the prefixes that a connection tracks by starts the key
abbrev pub covers_key : ModeState → List ℕ → Bool
covers_key m key = list_any (λ prefix. starts_with nat_eq key prefix) (prefixes_of m.tracking)

-- A connection has registered a prefix of a key exactly where it has not ended and tracks by one
-- (the page of CLIENT TRACKING, BCAST and PREFIX).
abbrev pub RegisteredIsMode : Type 0
RegisteredIsMode =
    (l : Limits) (c : ℕ) (past : List Entry) (key : List ℕ) → IsLegal l past
    → has_prefix_of (state l past).prefixes c key
    ≡ (is_on (state l past) c && covers_key (mode l c past) key)

-- a connection that has not ended is told of a key
abbrev pub is_told_in : State → ℕ → List ℕ → Bool
is_told_in s c key = is_on s c && (remembers s.table c key || has_prefix_of s.prefixes c key)

abbrev pub is_told : Limits → List Entry → ℕ → List ℕ → Bool
is_told l past c key = is_told_in (state l past) c key

-- an action signals a key to a connection: the key leaves at its deadline; or the command signals
-- it, and the connection did not run it under NOLOOP; or the command signals all
abbrev pub signals_to : Signalled → Bool → List ℕ → Bool
signals_to (signalled.Keys keys) passed key = is_among keys key && not passed
signals_to signalled.All passed key = true

abbrev pub action_signals_to : Action → State → ℕ → List ℕ → Bool
action_signals_to t s c key =
    is_among t.expired key || signals_to t.effect.signalled (is_passed t s c) key

abbrev pub signals_key_to : Limits → Entry → List Entry → ℕ → List ℕ → Bool
signals_key_to l (entry.Run id words moment) past c key =
    let s = state l past in action_signals_to (run_action id words moment s) s c key
signals_key_to l (entry.Tick moment) past c key = is_among (expired l past moment) key
signals_key_to l _ past c key = false

-- an entry tells a connection of a key, by the route that it has then
abbrev pub is_due : Limits → Entry → List Entry → ℕ → List ℕ → Bool
is_due l entry past c key = list_any (tells c key) (invalidations l entry past)

abbrev pub is_forgets : Memory → Bool
is_forgets (Remembers keys) = false
is_forgets (Registers prefixes) = false
is_forgets Forgets = true

-- an entry is a Run by which a connection stops tracking
abbrev pub stops_tracking : Limits → Entry → List Entry → ℕ → Bool
stops_tracking l (entry.Run id words moment) past c =
    (id == c) && is_forgets (made l past id words moment).memory
stops_tracking l _ past c = false

-- A changed answer is signalled: where a key is not, each query on it answers as before.
abbrev pub ChangeIsSignalled : Type 0
ChangeIsSignalled =
    (l : Limits) (entry : Entry) (past : List Entry) (key : List ℕ)
    → signals_key l entry past key ≡ false
    → (held_at key (keyspace l (entry ∷ past)) ≡ held_at key (keyspace l past))
    × ((query : List (List ℕ)) → reads_as_cacheable (reading query) ≡ true → key_of query ≡ key
    → answer query (keyspace l (entry ∷ past)) ≡ answer query (keyspace l past))

-- A cacheable read that its connection's mode allows replies what its query answers at its entry.
abbrev pub ReadReplies : Type 0
ReadReplies =
    (l : Limits) (id moment : ℕ) (words : List (List ℕ)) (past : List Entry)
    → reads_as_cacheable (served_reading words) ≡ true
    → is_confined (mode l id past) ≡ false
    → (effect_in (state l past) id words moment).reply
    ≡ Some (answer words (keyspace l (entry.Run id words moment ∷ past)))

-- A connection that is told of a key gets its message where the key is signalled to it, or dropped
-- while it remembers it.
abbrev pub ToldIsDue : Type 0
ToldIsDue =
    (l : Limits) (entry : Entry) (past : List Entry) (c : ℕ) (key : List ℕ)
    → is_told l past c key ≡ true
    → (signals_key_to l entry past c key
    || (remembers (table l past) c key && drops_key l entry past key)) ≡ true
    → is_due l entry past c key ≡ true

-- Where a Run's command does not write a key, each query on the key answers as before; or the key
-- has left at its deadline, and a connection that is told of it is told before the reply.
abbrev pub BeforeTheReply : Type 0
BeforeTheReply =
    (l : Limits) (id moment : ℕ) (words : List (List ℕ)) (past : List Entry) (c : ℕ)
    (key : List ℕ)
    → is_told l past c key ≡ true → writes words key ≡ false
    → ((query : List (List ℕ)) → reads_as_cacheable (reading query) ≡ true → key_of query ≡ key
    → answer query (keyspace l (entry.Run id words moment ∷ past))
    ≡ answer query (keyspace l past))
    ⊎ (list_any (tells c key) (expiry_group l past moment) ≡ true)

-- ---- what is sent of that, by the routes

-- the receiver of a route, and the protocol in which it is told
abbrev pub receiver : Route → Option (ℕ × Proto)
receiver (route.Push r) = Some (r, Three)
receiver (route.Message r) = Some (r, Two)
receiver (route.BrokenNotice c) = None
receiver route.Nowhere = None

-- on the third protocol by a push, on the second by a message of the channel of invalidations
abbrev pub telling : Proto → Option (List (List ℕ)) → Sending
telling Three keys = Message Three (push_of keys)
telling Two keys = Message Two (message_of keys)

-- A message that names the key is among these sendings of an entry.
pub record IsToldAmong (proto : Proto) (key : List ℕ) (entry : ℕ) (ss : List (ℕ × Sending)) : Type 0
  where
    pub keys : Option (List (List ℕ))
    pub named : names_key keys key ≡ true
    pub before : List (ℕ × Sending)
    pub behind : List (ℕ × Sending)
    pub is : ss ≡ before ++ (entry, telling proto keys) ∷ behind

-- What a connection is told goes to this receiver, before the action's command and behind it.
abbrev pub ReceivedBy : Action → State → ℕ → ℕ → Proto → Type 0
ReceivedBy t s c r proto =
    (receiver (route_at s.modes (is_on s) c) ≡ Some (r, proto))
    × (receiver (route_at (modes_then t s) (is_on s) c) ≡ Some (r, proto))

-- A mode on the third protocol that redirects messages to no other connection.
pub record IsDirect (m : ModeState) : Type 0 where
  pub proto : m.proto ≡ Three
  pub own : redirect_of m.tracking ≡ None

-- The receiver is sent a message of each key that an entry tells the connection of.
abbrev pub DueIsSent : Type 0
DueIsSent =
    (l : Limits) (entry : Entry) (past : List Entry) (c r : ℕ) (proto : Proto) (key : List ℕ)
    → runs_on l past c ≡ true → OnAction (λ t s. ReceivedBy t s c r proto) entry (state l past)
    → is_due l entry past c key ≡ true
    → IsToldAmong proto key (length past + 1)
    (sent_to (length past + 1) r (sends l entry (state l past)))

-- On the third protocol a connection that redirects its messages to none is sent a push of each key
-- that an entry tells it of.
abbrev pub DueIsPushed : Type 0
DueIsPushed =
    (l : Limits) (entry : Entry) (past : List Entry) (c : ℕ) (key : List ℕ)
    → runs_on l past c ≡ true
    → IsDirect (mode l c past) → IsDirect (mode l c (entry ∷ past))
    → is_due l entry past c key ≡ true
    → IsToldAmong Three key (length past + 1)
    (sent_to (length past + 1) c (sends l entry (state l past)))

-- A connection that redirects its messages to one that has not ended: this one is sent a message of
-- each key that an entry tells the connection of, on the third protocol as a push, and on the
-- second where it is subscribed (the page of CLIENT TRACKING, REDIRECT).
abbrev pub RedirectedIsSent : Type 0
RedirectedIsSent =
    (l : Limits) (entry : Entry) (past : List Entry) (c target : ℕ) (key : List ℕ)
    → runs_on l past c ≡ true → runs_on l past target ≡ true
    → redirect_of (mode l c past).tracking ≡ Some target
    → (protocol l target past ≡ Three) ⊎ ((mode l target past).subscribed ≡ true)
    → is_due l entry past c key ≡ true
    → IsToldAmong (protocol l target past) key (length past + 1)
    (sent_to (length past + 1) target (sends l entry (state l past)))

-- A mode on the third protocol that redirects messages to this connection.
pub record RedirectsTo (target : ℕ) (m : ModeState) : Type 0 where
  pub proto : m.proto ≡ Three
  pub to : redirect_of m.tracking ≡ Some target

-- This is among the sendings of an entry.
pub record IsSentAmong (what : Sending) (entry : ℕ) (ss : List (ℕ × Sending)) : Type 0 where
  pub before : List (ℕ × Sending)
  pub behind : List (ℕ × Sending)
  pub is : ss ≡ before ++ (entry, what) ∷ behind

-- On the third protocol a connection that redirects its messages to one that has ended is sent the
-- notice that names this one by each entry that tells it of a key (the page of CLIENT TRACKING,
-- REDIRECT).
abbrev pub BrokenIsTold : Type 0
BrokenIsTold =
    (l : Limits) (entry : Entry) (past : List Entry) (c target : ℕ) (key : List ℕ)
    → runs_on l past c ≡ true
    → RedirectsTo target (mode l c past) → is_on (state l past) target ≡ false
    → is_due l entry past c key ≡ true
    → IsSentAmong (Message Three (notice_of target)) (length past + 1)
    (sent_to (length past + 1) c (sends l entry (state l past)))

-- the connection that messages are redirected to has ended
abbrev pub is_lost : State → Option ℕ → Bool
is_lost s None = false
is_lost s (Some target) = not (is_on s target)

-- the words are RESET, or CLIENT TRACKING, which the mode allows and does not refuse
abbrev pub sets_anew : Result Command WordFault → Runner → Bool
sets_anew (Ok (ClientTracking o)) by =
    not (is_confined by.mode)
    && not (is_some (tracking_fault o by.target_exists by.mode.tracking))
sets_anew (Ok Reset) by = true
sets_anew read by = false

abbrev pub is_set_anew : Limits → Entry → List Entry → ℕ → Bool
is_set_anew l (entry.Run id words moment) past c =
    (id == c) && sets_anew (served_reading words) (runner l past id words moment)
is_set_anew l _ past c = false

-- A connection's redirection is broken behind an entry exactly where it was, or the entry tells the
-- connection while the target has ended; but not where the connection sets its tracking anew
-- (CLIENT TRACKINGINFO, broken_redirect).
abbrev pub BrokenIsLost : Type 0
BrokenIsLost =
    (l : Limits) (entry : Entry) (past : List Entry) (c : ℕ)
    → (state l (entry ∷ past)).broken c
    ≡ (((state l past).broken c
    || (list_any (λ i. i.to == c) (invalidations l entry past)
    && is_lost (state l past) (redirect_of (mode l c past).tracking)))
    && not (is_set_anew l entry past c))

-- So it is sent one of each key that is signalled to a connection that is told of it.
abbrev pub ToldIsSent : Type 0
ToldIsSent =
    (l : Limits) (entry : Entry) (past : List Entry) (c r : ℕ) (proto : Proto) (key : List ℕ)
    → is_told l past c key ≡ true → signals_key_to l entry past c key ≡ true
    → OnAction (λ t s. ReceivedBy t s c r proto) entry (state l past)
    → IsToldAmong proto key (length past + 1)
    (sent_to (length past + 1) r (sends l entry (state l past)))

-- A remembered read is owed or told: its connection is told of the key from then on, or it has been
-- told already, or it has ended.
abbrev pub ReadIsOwedOrTold : Type 0
ReadIsOwedOrTold =
    (l : Limits) (c moment : ℕ) (words : List (List ℕ)) (past : List Entry) (key : List ℕ)
    → IsLegal l (entry.Run c words moment ∷ past)
    → reads_as_cacheable (served_reading words) ≡ true
    → is_confined (mode l c past) ≡ false
    → remembers_read (mode l c past) ≡ true
    → key_of words ≡ key
    → (is_told l (entry.Run c words moment ∷ past) c key
    || is_due l (entry.Run c words moment) past c key
    || has_ended l c (entry.Run c words moment ∷ past)) ≡ true

-- Being told ends only for a cause.
abbrev pub ToldEndsForCause : Type 0
ToldEndsForCause =
    (l : Limits) (entry : Entry) (past : List Entry) (c : ℕ) (key : List ℕ)
    → is_told l past c key ≡ true
    → is_told l (entry ∷ past) c key ≡ false
    → (signals_key l entry past key || drops_key l entry past key
    || stops_tracking l entry past c || has_ended l c (entry ∷ past)) ≡ true
