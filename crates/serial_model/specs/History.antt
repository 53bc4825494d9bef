-- What a history says. A past is a list of entries, the newest first; entries, connections and the
-- runs of words are numbered from 1, and 0 is no number.
use Rattle.std.specs.Prelude.{◌≡◌, ◌+◌, ◌-◌, ◌≤◌, ◌&&◌, ◌||◌, ◌==◌, ℕ, List, [], ◌∷◌, ◌++◌, Bool}
use Rattle.std.specs.Prelude.{true, false, not, if◌then◌else◌, nat_lt, nat_le, length, min, take}
use Rattle.std.specs.Prelude.{drop, Option, Some, None, codes, pos}
use Rattle.std.specs.Prelude.{Ok, Err, Result}
use Rattle.std.specs.List.{flat_map}
use Rattle.resp_value.specs.declared.value.Value.TheVariants.{Blob, Error, Map, Null, Number}
use Rattle.resp_value.specs.declared.value.Value.TheVariants.{Simple}
use Rattle.resp_value.specs.declared.value.Proto.{Proto}
use Rattle.command_words.specs.declared.command.Command.{Command}
use Rattle.command_words.specs.declared.command.Command.TheVariants.{Ping, Echo, Hello, Reset, Quit}
use Rattle.command_words.specs.declared.command.Command.TheVariants.{ClientId, ClientTracking}
use Rattle.command_words.specs.declared.command.Command.TheVariants.{ClientCaching, ClientGetRedir}
use Rattle.command_words.specs.declared.command.Command.TheVariants.{ClientTrackingInfo}
use Rattle.command_words.specs.declared.command.Command.TheVariants.{Subscribe, Unsubscribe}
use Rattle.command_words.specs.declared.command.Command.TheVariants.{Shutdown}
use Rattle.command_words.specs.declared.command.Signalled.{Signalled}
use Rattle.command_words.specs.declared.command.Signalled.TheVariants.{Keys}
use Rattle.command_words.specs.declared.command.WordFault.{WordFault}
use Rattle.command_words.specs.declared.command.WordFault.TheVariants.{Unknown}
use Rattle.command_words.specs.Words.{reading, fault_text}
use Rattle.command_words.specs.Space.{Space}
use Rattle.command_words.specs.Effect as words
use Rattle.command_words.specs.Effect.{replied}
use Rattle.command_words.specs.Effects.{effect, has_row}
use Rattle.command_words.specs.Expiry.{without_due}
use Rattle.track_table.specs.declared.table.Held.{Held}
use Rattle.track_table.specs.Table.{without_connection, without_keys, dropped}
use Rattle.prefix_table.specs.Table as registrations
use Rattle.track_modes.specs.ModeState.{ModeState}
use Rattle.track_modes.specs.Commands.{fault_at}
use Rattle.serial_model.specs.Modes.{hello, hello_reply, accepted, target_of}
use Rattle.serial_model.specs.Modes.{pong, redirect_number, tracking_info, subscribe_reply}
use Rattle.serial_model.specs.Modes.{unsubscribe_reply}
use Rattle.serial_model.specs.Modes.{Runner, OwnEffect, own_effect, refused_effect, Remembers}
use Rattle.serial_model.specs.Modes.{Ending, ending_of, Stays, is_barred, is_quitting}
use Rattle.serial_model.specs.Modes.{is_stopping}
use Rattle.serial_model.specs.Deadlines.{due_keys}
use Rattle.serial_model.specs.Tracking.{Invalidation, whole_group}
use Rattle.serial_model.specs.State.{State, start, is_on, is_live, keeps_bytes, may_take}
use Rattle.serial_model.specs.State.{closed, at}
pub use Rattle.serial_model.specs.Actions.{Sending, Message, End, spelled, sending_bytes, routed}
use Rattle.serial_model.specs.Actions.{Action, ActionEffect, replies, action_sends, action_leaves}
use Rattle.serial_model.specs.Actions.{are_lost, expiry_told}
use Rattle.serial_model.specs.Actions.{own_told, later_told, rows_grown, tracks}
use Rattle.serial_model.specs.declared.history.Limits.{Limits}
use Rattle.serial_model.specs.declared.history.Entry.{Entry}
use Rattle.serial_model.specs.declared.history.Entry.TheVariants.{Admit, Run, Tick, Take, Close}
use Rattle.serial_model.specs.declared.history.Post.{Post}
use Rattle.serial_model.specs.declared.history.Posted.{Posted}
use Rattle.serial_model.specs.declared.history.Posted.TheVariants as posted_as

-- how many connections were admitted; their ids are 1 to that number
abbrev pub admitted : List Entry → ℕ
admitted [] = 0
admitted (Admit id ∷ past) = admitted past + 1
admitted (Run id words moment ∷ past) = admitted past
admitted (Tick moment ∷ past) = admitted past
admitted (Take id max ∷ past) = admitted past
admitted (Close id ∷ past) = admitted past

abbrev pub is_admitted : List Entry → ℕ → Bool
is_admitted past id = nat_lt 0 id && nat_le id (admitted past)

-- the greatest moment so far
abbrev pub latest : List Entry → ℕ
latest [] = 0
latest (Admit id ∷ past) = latest past
latest (Run id words moment ∷ past) = moment
latest (Tick moment ∷ past) = moment
latest (Take id max ∷ past) = latest past
latest (Close id ∷ past) = latest past

-- ---- what words do

-- the commands that the server runs: those on strings, on hashes and on keys, and those of a
-- connection
abbrev pub is_served : Command → Bool
is_served (Ping text) = true
is_served (Echo text) = true
is_served (Hello word) = true
is_served Reset = true
is_served Quit = true
is_served (Shutdown mode) = true
is_served ClientId = true
is_served (ClientTracking options) = true
is_served (ClientCaching is_yes) = true
is_served ClientGetRedir = true
is_served ClientTrackingInfo = true
is_served (Subscribe channel) = true
is_served (Unsubscribe channel) = true
is_served command = has_row command

-- words that read as another are unknown to it
abbrev pub served : Result Command WordFault → Result Command WordFault
served (Ok command) = if is_served command then Ok command else Err Unknown
served (Err fault) = Err fault

abbrev pub served_reading : List (List ℕ) → Result Command WordFault
served_reading words = served (reading words)

-- what a command that the mode allows does to keys, and what it answers
abbrev pub effect_of : Runner → List (List ℕ) → Result Command WordFault → Space → ℕ → words.Effect
effect_of by words (Ok (Ping text)) space moment = replied (pong by.mode text) space
effect_of by words (Ok (Echo text)) space moment = replied (Blob text) space
effect_of by words (Ok (Hello word)) space moment =
    replied (hello_reply by.id (hello word by.mode.proto)) space
effect_of by words (Ok Reset) space moment = replied (Simple (codes "RESET")) space
effect_of by words (Ok Quit) space moment = replied (Simple (codes "OK")) space
effect_of by words (Ok (Shutdown mode)) space moment = replied Null space
effect_of by words (Ok ClientId) space moment = replied (Number (pos by.id)) space
effect_of by words (Ok (ClientTracking options)) space moment =
    replied (accepted (fault_at (ClientTracking options) by.target_exists by.mode)) space
effect_of by words (Ok (ClientCaching is_yes)) space moment =
    replied (accepted (fault_at (ClientCaching is_yes) by.target_exists by.mode)) space
effect_of by words (Ok ClientGetRedir) space moment =
    replied (Number (redirect_number by.mode.tracking)) space
effect_of by words (Ok ClientTrackingInfo) space moment =
    replied (Map (tracking_info by.is_broken by.mode)) space
effect_of by words (Ok (Subscribe channel)) space moment = replied (subscribe_reply channel) space
effect_of by words (Ok (Unsubscribe channel)) space moment =
    replied (unsubscribe_reply channel by.mode) space
effect_of by words (Ok command) space moment = effect command space moment
effect_of by words (Err fault) space moment = replied (Error (fault_text words fault)) space

-- what a connection's words do to a keyspace at a moment, a command or not
unfoldable pub ran_over : Space → Runner → List (List ℕ) → ℕ → words.Effect
ran_over space by words moment =
    if is_barred by.mode (served_reading words)
    then replied (Error (codes "ERR not allowed while subscribed")) space
    else effect_of by words (served_reading words) space moment

-- what words make of their connection, a command or not
unfoldable pub made_of : List (List ℕ) → Runner → OwnEffect
made_of words by =
    if is_barred by.mode (served_reading words) then refused_effect by.mode
    else own_effect (served_reading words) by

-- how connections end by words that are run in a mode; a command that it does not allow ends none
abbrev pub ending_in : ModeState → Result Command WordFault → Ending
ending_in m read = if is_barred m read then Stays else ending_of read

-- the words end the connection that runs them; every mode allows them
abbrev pub is_quit : List (List ℕ) → Bool
is_quit words = is_quitting (ending_of (served_reading words))

-- the target of a redirection is a connection that was admitted and has not ended
abbrev pub is_target : State → Option ℕ → Bool
is_target s None = true
is_target s (Some r) = is_on s r

-- its redirection is broken where one of the keys that leave before its command finds the target
-- ended, too
abbrev pub is_broken_then : State → ℕ → ℕ → Bool
is_broken_then s id moment =
    s.broken id
    || are_lost s.modes (is_on s) (whole_group (due_keys moment s.space) s.table s.prefixes) id

abbrev pub runner_in : State → ℕ → List (List ℕ) → ℕ → Runner
runner_in s id words moment =
    record {
      id = id;
      mode = s.modes id;
      is_broken = is_broken_then s id moment;
      target_exists = is_target s (target_of (served_reading words));
    }

-- a SHUTDOWN that stops the server is not answered
abbrev pub effect_in : State → ℕ → List (List ℕ) → ℕ → ActionEffect
effect_in s id words moment =
    let by = runner_in s id words moment in
    let ran = ran_over (without_due moment s.space) by words moment in
    let made = made_of words by in
    let ending = ending_in by.mode (served_reading words) in
    record {
      reply = if is_stopping ending then None else Some ran.reply;
      signalled = ran.signalled;
      mode = made.mode;
      memory = made.memory;
      ending = ending;
      space = ran.space;
    }

-- ---- the history, entry by entry

abbrev pub run_action : ℕ → List (List ℕ) → ℕ → State → Action
run_action id words moment s =
    record {
      by = id;
      moment = moment;
      expired = due_keys moment s.space;
      effect = effect_in s id words moment;
    }

-- a Tick is of no connection, and nothing is answered
abbrev pub tick_action : ℕ → State → Action
tick_action moment s =
    record {
      by = 0;
      moment = moment;
      expired = due_keys moment s.space;
      effect = record {
        reply = None;
        signalled = Keys [];
        mode = s.modes 0;
        memory = Remembers [];
        ending = Stays;
        space = without_due moment s.space;
      };
    }

-- what one entry sends, and to whom, in order: the only place that says so
abbrev pub sends : Limits → Entry → State → List (ℕ × Sending)
sends l (Admit id) s = []
sends l (Run id words moment) s =
    let t = run_action id words moment s in action_sends l t s
sends l (Tick moment) s =
    let t = tick_action moment s in action_sends l t s
sends l (Take id max) s = []
sends l (Close id) s = if is_live (s.standing id) then (id, End) ∷ [] else []

-- what it leaves: a Close gives up what was not taken, and all that is kept for its connection
abbrev pub next : Limits → Entry → State → State
next l (Admit id) s = record s { admitted = s.admitted + 1 }
next l (Run id words moment) s =
    let t = run_action id words moment s in action_leaves l t s
next l (Tick moment) s =
    let t = tick_action moment s in action_leaves l t s
next l (Take id max) s = record s { waiting = at id (s.waiting id - max) s.waiting }
next l (Close id) s =
    record s {
      standing = at id (closed (s.standing id)) s.standing;
      waiting = at id 0 s.waiting;
      table = without_connection id s.table;
      prefixes = registrations.without_connection id s.prefixes;
    }

unfoldable pub state : Limits → List Entry → State
state l [] = start
state l (entry ∷ past) = next l entry (state l past)

-- ---- what the state says

abbrev pub keyspace : Limits → List Entry → Space
keyspace l past = (state l past).space

-- the remembered keys after all entries, in order of age
abbrev pub table : Limits → List Entry → List Held
table l past = (state l past).table

-- the mode of a connection: its own Runs alone change it
abbrev pub mode : Limits → ℕ → List Entry → ModeState
mode l c past = (state l past).modes c

abbrev pub modes : Limits → List Entry → ℕ → ModeState
modes l past = (state l past).modes

abbrev pub protocol : Limits → ℕ → List Entry → Proto
protocol l c past = (mode l c past).proto

abbrev pub has_ended : Limits → ℕ → List Entry → Bool
has_ended l c past = not (is_live ((state l past).standing c))

-- a SHUTDOWN ran
abbrev pub is_stopped : Limits → List Entry → Bool
is_stopped l past = (state l past).stopped

-- a connection that tracks and has not ended
abbrev pub is_tracking : Limits → List Entry → ℕ → Bool
is_tracking l past c = tracks (state l past) c

-- ---- what it says of an entry

abbrev pub runner : Limits → List Entry → ℕ → List (List ℕ) → ℕ → Runner
runner l past id words moment = runner_in (state l past) id words moment

-- what a connection's words do after a past, at a moment
abbrev pub ran : Limits → List Entry → ℕ → List (List ℕ) → ℕ → words.Effect
ran l past id words moment =
    ran_over (without_due moment (keyspace l past)) (runner l past id words moment) words moment

-- what its words make of a connection that has this past
abbrev pub made : Limits → List Entry → ℕ → List (List ℕ) → ℕ → OwnEffect
made l past id words moment = made_of words (runner l past id words moment)

-- the keys that are past their deadline, in order
abbrev pub expired : Limits → List Entry → ℕ → List (List ℕ)
expired l past moment = due_keys moment (keyspace l past)

-- the keys that a command signals, or all
abbrev pub signals : Limits → List Entry → ℕ → List (List ℕ) → ℕ → Signalled
signals l past id words moment = (ran l past id words moment).signalled

-- the table of a Run, where its command has run, and where it has remembered
abbrev pub table_then : Limits → List Entry → ℕ → List Held
table_then l past moment = without_keys (expired l past moment) (table l past)

abbrev pub table_grown : Limits → List Entry → ℕ → List (List ℕ) → ℕ → List Held
table_grown l past id words moment =
    let s = state l past in rows_grown (run_action id words moment s) s

abbrev pub drops : Limits → List Entry → ℕ → List (List ℕ) → ℕ → List Held
drops l past id words moment = dropped l.table_max (table_grown l past id words moment)

-- the groups of a Run, of which a Tick has the first alone
abbrev pub expiry_group : Limits → List Entry → ℕ → List Invalidation
expiry_group l past moment = let s = state l past in expiry_told (tick_action moment s) s

abbrev pub own_group : Limits → List Entry → ℕ → List (List ℕ) → ℕ → List Invalidation
own_group l past id words moment =
    let s = state l past in own_told (run_action id words moment s) s

abbrev pub reply_of : Limits → List Entry → ℕ → List (List ℕ) → ℕ → List (ℕ × Sending)
reply_of l past id words moment = replies (run_action id words moment (state l past))

-- whom an entry tells of which keys, in order, whatever the route
abbrev pub action_told : Limits → Action → State → List Invalidation
action_told l t s = expiry_told t s ++ later_told l t s

abbrev pub invalidations : Limits → Entry → List Entry → List Invalidation
invalidations l (Run id words moment) past =
    let s = state l past in action_told l (run_action id words moment s) s
invalidations l (Tick moment) past =
    let s = state l past in action_told l (tick_action moment s) s
invalidations l _ past = []

-- those of an entry's sendings that are for one connection, with the number of the entry
abbrev pub sent_to : ℕ → ℕ → List (ℕ × Sending) → List (ℕ × Sending)
sent_to entry c [] = []
sent_to entry c (s ∷ ss) =
    if s.0 == c then (entry, s.1) ∷ sent_to entry c ss else sent_to entry c ss

-- all that was sent to a connection, in order, each with the number of its entry
abbrev pub sent : Limits → ℕ → List Entry → List (ℕ × Sending)
sent l c [] = []
sent l c (entry ∷ past) =
    sent l c past ++ sent_to (length past + 1) c (sends l entry (state l past))

abbrev pub sent_bytes : List (ℕ × Sending) → List ℕ
sent_bytes ss = flat_map (λ s. sending_bytes s.1) ss

-- the bytes of all that was sent
unfoldable pub stream : Limits → ℕ → List Entry → List ℕ
stream l c past = sent_bytes (sent l c past)

abbrev pub posted_of : Sending → Posted
posted_of (Message proto value) =
    posted_as.Message (length (spelled proto value))
posted_of End = posted_as.End

-- the posts of the newest entry: whom it sent what, and how many bytes
abbrev pub posts_of : ℕ → List (ℕ × Sending) → List Post
posts_of entry [] = []
posts_of entry (s ∷ ss) =
    record { entry = entry; id = s.0; what = posted_of s.1 } ∷ posts_of entry ss

unfoldable pub posted : Limits → List Entry → List Post
posted l [] = []
posted l (entry ∷ past) = posts_of (length past + 1) (sends l entry (state l past))

-- ---- what a connection may still do

-- a Run of the connection is accepted
abbrev pub runs_on : Limits → List Entry → ℕ → Bool
runs_on l past c = is_admitted past c && not (has_ended l c past)

-- a Close of it is accepted, also after its QUIT
abbrev pub reads_on : Limits → List Entry → ℕ → Bool
reads_on l past c = is_admitted past c && keeps_bytes ((state l past).standing c)

-- a Take of the connection is accepted
abbrev pub gives_on : Limits → List Entry → ℕ → Bool
gives_on l past c = is_admitted past c && may_take ((state l past).standing c)

-- how many bytes of its stream a connection took
abbrev pub taken : Limits → ℕ → List Entry → ℕ
taken l c [] = 0
taken l c (Admit id ∷ past) = taken l c past
taken l c (Run id words moment ∷ past) = taken l c past
taken l c (Tick moment ∷ past) = taken l c past
taken l c (Take id max ∷ past) =
    if id == c then taken l c past + min max (length (stream l c past) - taken l c past)
    else taken l c past
taken l c (Close id ∷ past) = taken l c past

-- those that it did not take and still can: a Close gives up what was not taken, a QUIT does not
unfoldable pub unsent : Limits → ℕ → List Entry → List ℕ
unsent l c past =
    if keeps_bytes ((state l past).standing c) then drop (taken l c past) (stream l c past) else []

-- the requests of a connection that ran, in order
abbrev pub runs_of : ℕ → List Entry → List (List (List ℕ))
runs_of c [] = []
runs_of c (Admit id ∷ past) = runs_of c past
runs_of c (Run id words moment ∷ past) =
    if id == c then runs_of c past ++ words ∷ [] else runs_of c past
runs_of c (Tick moment ∷ past) = runs_of c past
runs_of c (Take id max ∷ past) = runs_of c past
runs_of c (Close id ∷ past) = runs_of c past

-- the numbers of the entries at which a connection's commands ran, in order
abbrev pub run_entries : ℕ → List Entry → List ℕ
run_entries c [] = []
run_entries c (Admit id ∷ past) = run_entries c past
run_entries c (Run id words moment ∷ past) =
    if id == c then run_entries c past ++ (length past + 1) ∷ [] else run_entries c past
run_entries c (Tick moment ∷ past) = run_entries c past
run_entries c (Take id max ∷ past) = run_entries c past
run_entries c (Close id ∷ past) = run_entries c past

-- ---- which pasts there are

-- each entry is one that a turn adds there: an Admit has the next id; a Run, a Take and a Close are
-- of a connection that may do so; moments never fall; a Tick takes out a key, and a Take takes
-- something; behind a SHUTDOWN there is no Admit and no Tick
abbrev pub IsLegal : Limits → List Entry → Type 0
IsLegal l [] = Unit {0}
IsLegal l (Admit id ∷ past) =
    (is_stopped l past ≡ false) × (id ≡ admitted past + 1) × IsLegal l past
IsLegal l (Run id words moment ∷ past) =
    (runs_on l past id ≡ true) × (latest past ≤ moment) × IsLegal l past
IsLegal l (Tick moment ∷ past) =
    (is_stopped l past ≡ false) × (expired l past moment ≡ [] → ⊥) × (latest past ≤ moment)
    × IsLegal l past
IsLegal l (Take id max ∷ past) =
    (gives_on l past id ≡ true) × (take max (unsent l id past) ≡ [] → ⊥) × IsLegal l past
IsLegal l (Close id ∷ past) = (reads_on l past id ≡ true) × IsLegal l past
