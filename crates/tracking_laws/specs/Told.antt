-- How often an entry tells a connection of a key, and whether the key was remembered there or one
-- of its prefixes registered (the client-side caching reference, "The invalidation table" and
-- "Broadcasting mode").
use Rattle.std.specs.Prelude.{◌≡◌, ◌+◌, ◌<◌, ◌≤◌, ◌==◌, ◌&&◌, ◌||◌, ℕ, List, [], ◌∷◌, Bool}
use Rattle.std.specs.Prelude.{true, false, not, Option, Some, None, Result, Ok, Err}
use Rattle.std.specs.Prelude.{if◌then◌else◌, nat_eq}
use Rattle.std.specs.List.{starts_with}
use Rattle.command_words.specs.declared.command.Command.{Command}
use Rattle.command_words.specs.declared.command.Signalled.{Signalled}
use Rattle.command_words.specs.declared.command.Signalled.TheVariants as signalled
use Rattle.command_words.specs.declared.command.WordFault.{WordFault}
use Rattle.command_words.specs.Queries.{read}
use Rattle.track_table.specs.declared.table.Held.{Held}
use Rattle.prefix_table.specs.declared.table.Registration.{Registration}
use Rattle.serial_model.specs.declared.history.Limits.{Limits}
use Rattle.serial_model.specs.declared.history.Entry.{Entry}
use Rattle.serial_model.specs.declared.history.Entry.TheVariants.{Run, Tick}
use Rattle.track_modes.specs.ModeState.{ModeState, remembers_read}
use Rattle.serial_model.specs.Modes.{is_confined}
use Rattle.serial_model.specs.Tracking.{Invalidation, has_id}
use Rattle.serial_model.specs.Actions.{is_passed}
use Rattle.serial_model.specs.History.{expired, signals, served_reading, mode, table, table_then}
use Rattle.serial_model.specs.History.{run_action, state}
use Rattle.serial_model.specs.History.{table_grown, invalidations, is_admitted, is_tracking}
use Rattle.serial_model.specs.Laws.{is_among, remembers, drops_key, has_prefix_of}

-- ---- counts

abbrev pub once : Bool → ℕ
once b = if b then 1 else 0

abbrev pub where_so : Bool → ℕ → ℕ
where_so b n = if b then n else 0

-- the keys name this one; a flush's null names none
abbrev pub is_named : Option (List (List ℕ)) → List ℕ → Bool
is_named (Some keys) key = is_among keys key
is_named None key = false

-- it is a flush's null
abbrev pub is_null : Option (List (List ℕ)) → Bool
is_null (Some keys) = false
is_null None = true

-- how many of these tell the connection of the key by its name
abbrev pub times_told : ℕ → List ℕ → List Invalidation → ℕ
times_told c key [] = 0
times_told c key (i ∷ told) =
    once ((i.to == c) && is_named i.keys key) + times_told c key told

-- how many of these tell the connection of all keys
abbrev pub times_flushed : ℕ → List Invalidation → ℕ
times_flushed c [] = 0
times_flushed c (i ∷ told) = once ((i.to == c) && is_null i.keys) + times_flushed c told

-- of how many registered prefixes that start the key the connection is told
abbrev pub times_in : List Registration → ℕ → List ℕ → ℕ
times_in [] c key = 0
times_in (r ∷ rows) c key =
    once (starts_with nat_eq key r.prefix && has_id c r.ids) + times_in rows c key

-- how many prefixes of a key the connection has registered
abbrev pub times_registered : Limits → List Entry → ℕ → List ℕ → ℕ
times_registered l past c key = times_in (state l past).prefixes c key

-- ---- what is remembered, step by step

-- the table where an entry's command signals
abbrev pub rows_at_signal : Limits → Entry → List Entry → List Held
rows_at_signal l (Run id words moment) past = table_then l past moment
rows_at_signal l entry past = table l (entry ∷ past)

-- the table where an entry's keys past the limit are dropped
abbrev pub rows_at_drop : Limits → Entry → List Entry → List Held
rows_at_drop l (Run id words moment) past = table_grown l past id words moment
rows_at_drop l entry past = table l (entry ∷ past)

-- ---- what befalls a key at an entry

-- it leaves at its deadline
abbrev pub expires_key : Limits → Entry → List Entry → List ℕ → Bool
expires_key l (Run id words moment) past key = is_among (expired l past moment) key
expires_key l (Tick moment) past key = is_among (expired l past moment) key
expires_key l _ past key = false

abbrev pub is_signalled : Signalled → List ℕ → Bool
is_signalled (signalled.Keys keys) key = is_among keys key
is_signalled signalled.All key = false

abbrev pub is_flush : Signalled → Bool
is_flush (signalled.Keys keys) = false
is_flush signalled.All = true

-- the entry's command signals it by its name
abbrev pub signals_by_name : Limits → Entry → List Entry → List ℕ → Bool
signals_by_name l (Run id words moment) past key =
    is_signalled (signals l past id words moment) key
signals_by_name l _ past key = false

-- the entry's command signals all keys
abbrev pub flushes : Limits → Entry → List Entry → Bool
flushes l (Run id words moment) past = is_flush (signals l past id words moment)
flushes l _ past = false

-- the connection runs the entry's command under NOLOOP: it is not told of the keys that this
-- signals by name
abbrev pub passes_over : Limits → Entry → List Entry → ℕ → Bool
passes_over l (Run id words moment) past c =
    let s = state l past in is_passed (run_action id words moment s) s c
passes_over l _ past c = false

-- the keys that a read names; words that are no command name none
abbrev pub keys_read : Result Command WordFault → List (List ℕ)
keys_read (Ok command) = read command
keys_read (Err fault) = []

-- a mode that allows a read and remembers it
abbrev pub keeps_reads : ModeState → Bool
keeps_reads m = not (is_confined m) && remembers_read m

-- the entry is this connection's own read of the key, which it remembers
abbrev pub reads_key : Limits → Entry → List Entry → ℕ → List ℕ → Bool
reads_key l (Run id words moment) past c key =
    (id == c)
    && (keeps_reads (mode l id past) && is_among (keys_read (served_reading words)) key)
reads_key l _ past c key = false

-- ---- the laws of one entry

-- An entry tells a connection of a key where the key expires, and where the command signals it,
-- unless the connection runs that under NOLOOP: once if the connection is remembered to hold it
-- there, and once for each prefix of the key that it has registered. Where the key is dropped from
-- the table, it is told once if it is remembered to hold it; and not else.
abbrev pub ToldByName : Limits → Entry → List Entry → Type 0
ToldByName l entry past =
    (c : ℕ) (key : List ℕ)
    → times_told c key (invalidations l entry past)
    ≡ where_so (expires_key l entry past key)
    (once (remembers (table l past) c key) + times_registered l past c key)
    + where_so (signals_by_name l entry past key && not (passes_over l entry past c))
    (once (remembers (rows_at_signal l entry past) c key) + times_registered l past c key)
    + once (drops_key l entry past key && remembers (rows_at_drop l entry past) c key)

-- An entry tells a connection of all keys once, where it is a flush and the connection tracks, its
-- own under NOLOOP too, and not else.
abbrev pub ToldOfAll : Limits → Entry → List Entry → Type 0
ToldOfAll l entry past =
    (c : ℕ)
    → times_flushed c (invalidations l entry past)
    ≡ once (flushes l entry past && (is_admitted past c && is_tracking l past c))

-- A connection is told of a key by name only if it remembered the key, before the entry or by the
-- entry's own read, or has registered a prefix of it.
abbrev pub ToldIsAsked : Limits → Entry → List Entry → Type 0
ToldIsAsked l entry past =
    (c : ℕ) (key : List ℕ)
    → 0 < times_told c key (invalidations l entry past)
    → (remembers (table l past) c key || reads_key l entry past c key
    || has_prefix_of (state l past).prefixes c key) ≡ true

-- It is told of it at most once, or twice, where the key expired, the entry's own read remembered
-- it anew, and it was dropped at once; and beside that once for each prefix of the key that it has
-- registered where the key expires, and as often where the command signals it.
abbrev pub ToldOnce : Limits → Entry → List Entry → Type 0
ToldOnce l entry past =
    (c : ℕ) (key : List ℕ)
    → times_told c key (invalidations l entry past)
    ≤ 1 + once (expires_key l entry past key
    && (reads_key l entry past c key && drops_key l entry past key))
    + where_so (expires_key l entry past key) (times_registered l past c key)
    + where_so (signals_by_name l entry past key) (times_registered l past c key)
