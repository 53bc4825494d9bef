-- What a run of the program reads, plays and writes: all that its contract is read by.
use Rattle.std.specs.Prelude.{◌≡◌, ◌<◌, ◌+◌, ◌==◌, ◌⊎◌, ℕ, List, [], ◌∷◌, ◌++◌, codes, length}
use Rattle.std.specs.Prelude.{nat_le, if◌then◌else◌}
use Rattle.std.specs.declared.option.Option.{Option}
use Rattle.std.specs.declared.option.Option.TheVariants.{None, Some}
use Rattle.std.specs.Fmt.{decimal}
use Rattle.std.specs.Io.KnownBytes.{Appends, Consumes, IsAtEnd}
use Rattle.std.specs.Option.{option_map_or}
use Rattle.resp_value.specs.Lists.{IsPrefix}
use Rattle.serial_model.specs.declared.history.Limits.{Limits}
use Rattle.shared_cache.specs.Laws.{Every}
pub use Rattle.edge_lines.specs.Streams.{AppendsFirst, IsPlain}
pub use Rattle.edge_lines.specs.TextLines.{ArePlain, Reads, ReadsBad, ReadsWhole, ended, text_lines}
use Rattle.script_text.specs.declared.event.Event.{Event}
use Rattle.script_text.specs.declared.line.Line.{Line}
use Rattle.script_text.specs.Events.{event_of, longest_line}
use Rattle.script_text.specs.Printed.{text_of}
use Rattle.command_line.specs.declared.settings.LimitSettings.{LimitSettings}
use Rattle.server_links.specs.declared.fault.WorldFault.{WorldFault}
use Rattle.server_links.specs.declared.fault.WorldFault.TheVariants as fault
use Rattle.server_links.specs.Faults.{IsRefusal, number_of}
use Rattle.server_links.specs.Outcome.{Reached}
use Rattle.world_run.specs.WorldState.{WorldState, start}
use Rattle.world_run.specs.World.{step}
use Rattle.world_run.specs.WorldTranscript.{transcript}
use Rattle.world_run.specs.WorldHistory.{Follows, HitStands}
pub use Rattle.world_run.specs.Played.{PlaysEvents}
use Rattle.redis_program.specs.declared.status.Status.{Status}
use Rattle.redis_program.specs.declared.status.Status.TheVariants as status
use Rattle.redis_program.specs.declared.status.Ending.{Ending}
use Rattle.redis_program.specs.declared.status.Ending.TheVariants.{Done, BadLine, ReadFault}
use Rattle.redis_program.specs.declared.status.Ending.TheVariants.{WriteFault, Refused, HistoryFull}
use Rattle.redis_program.specs.declared.status.Ending.TheVariants.{NoMemory}

-- ---- statuses

-- the number that the process ends with
abbrev pub exit_number : Status → ℕ
exit_number status.Done = 0
exit_number status.Usage = 2
exit_number status.BadLine = 3
exit_number status.ReadFault = 4
exit_number status.WriteFault = 5
exit_number status.NetFault = 6
exit_number status.Refused = 7
exit_number status.LinkEnded = 8
exit_number status.HistoryFull = 9
exit_number status.NoMemory = 10
exit_number status.Worn = 11

abbrev pub status_of : Ending → Status
status_of Done = status.Done
status_of (BadLine number) = status.BadLine
status_of ReadFault = status.ReadFault
status_of WriteFault = status.WriteFault
status_of (Refused number fault) = status.Refused
status_of HistoryFull = status.HistoryFull
status_of NoMemory = status.NoMemory

-- the last line with its LF, or nothing
abbrev pub last_line : Ending → List ℕ
last_line Done = []
last_line (BadLine number) = codes "bad-line " ++ decimal number ++ codes "\n"
last_line ReadFault = codes "read-fault\n"
last_line WriteFault = []
last_line (Refused number fault) =
    codes "refused " ++ decimal number ++ codes " " ++ decimal (number_of fault) ++ codes "\n"
last_line HistoryFull = codes "history-full\n"
last_line NoMemory = codes "no-memory\n"

-- ---- a schedule, as its lines

-- how many lines a schedule may have
abbrev pub most_lines : ℕ
most_lines = 10000000

-- the event of the line of this number; a line past the last number is outside the grammar
abbrev pub event_at : ℕ → List ℕ → Option Event
event_at number line = if nat_le number most_lines then event_of line else None

-- every line is in the grammar, and these are the events; the first line has this number
abbrev pub AreLinesOf : ℕ → List (List ℕ) → List Event → Type 0
AreLinesOf number [] [] = Unit {0}
AreLinesOf number [] (event ∷ events) = ⊥
AreLinesOf number (line ∷ lines) [] = ⊥
AreLinesOf number (line ∷ lines) (event ∷ events) =
    (event_at number line ≡ Some event) × AreLinesOf (number + 1) lines events

-- the events of the lines, up to the first line outside the grammar
abbrev pub events_of : ℕ → List (List ℕ) → List Event
events_of number [] = []
events_of number (line ∷ lines) =
    option_map_or (λ event. event ∷ events_of (number + 1) lines) (event_at number line) []

-- what a schedule of these lines prints
abbrev pub transcript_of : Limits → List (List ℕ) → List Line
transcript_of limits lines = transcript (start limits) (events_of 1 lines)

-- ---- the verdict on a schedule

abbrev pub at_fault : Option WorldFault → ℕ → Option (ℕ × WorldFault) → Option (ℕ × WorldFault)
at_fault None number later = later
at_fault (Some fault) number later = Some (number, fault)

-- the first event that meets a fault, by its number, and the fault; the first event has this number
abbrev pub first_fault : WorldState → ℕ → List Event → Option (ℕ × WorldFault)
first_fault w number [] = None
first_fault w number (event ∷ events) =
    at_fault (step w event).fault number (first_fault (step w event).state (number + 1) events)

-- how a fault of the event of this line ends the run
abbrev pub ending_at : ℕ → WorldFault → Ending
ending_at number (fault.HistoryFull entries) = HistoryFull
ending_at number fault = Refused number fault

abbrev pub faulty_or : Option (ℕ × WorldFault) → Ending → Ending
faulty_or None ending = ending
faulty_or (Some (number, fault)) ending = ending_at number fault

-- How the run of a schedule of these lines ends: at the first event that meets a fault, else at the
-- first line outside the grammar, else with all of it played.
abbrev pub verdict : Limits → List (List ℕ) → Ending
verdict limits lines =
    let events = events_of 1 lines in
    faulty_or
    (first_fault (start limits) 1 events)
    (if length events == length lines then Done else BadLine (length events + 1))

-- the status is that of the verdict on the lines, but for want of memory
abbrev pub IsVerdict : Limits → List (List ℕ) → Status → Type 0
IsVerdict limits lines answer =
    (answer ≡ status.NoMemory) ⊎ (answer ≡ status_of (verdict limits lines))

-- ---- what was played

-- the lines are those of the events, and what holds of every schedule holds of these
pub record Plays (limits : Limits) (lines : List (List ℕ)) (events : List Event) (w : WorldState)
    : Type 0 where
  pub lines_are : AreLinesOf 1 lines events
  pub plays : PlaysEvents limits events w

-- After these events one more was played, or broken off on the way by a fault or want of memory.
-- What it printed is the first of the lines that it had printed by then, within the one history,
-- and an answer from a cache among them stands at its point.
pub record PlaysPart (limits : Limits) (events : List Event) (w : WorldState) (event : Event)
    (printed : List Line) : Type 0 where
  pub state : WorldState
  pub lines : List Line
  pub reached : Reached (step w event) state lines
  pub begins : IsPrefix printed lines
  pub hits : Every (HitStands w event) printed
  pub follows : Follows limits events (transcript (start limits) events) w event lines state

-- the source was read to its end, and all of its lines were played
pub record AllPlayed (limits : Limits) (in0 in1 : Option (List ℕ)) (body : List ℕ) : Type 0 where
  pub bytes : List ℕ
  pub events : List Event
  pub w : WorldState
  pub consumed : Consumes in0 in1 bytes
  pub at_end : IsAtEnd in1
  pub plays : Plays limits (text_lines bytes) events w
  pub prints : body ≡ text_of (transcript (start limits) events)

-- The next line, by its number n, after these events, in the world w, as far as it was read and
-- what it printed, where it brings the run to this ending.
abbrev pub Next : Limits → Ending → Option (List ℕ) → List Event → ℕ → WorldState → List ℕ
    → List Line → Type 0
Next limits Done in1 events n w more printed = ⊥
Next limits (BadLine number) in1 events n w more printed =
    (number ≡ n) × (printed ≡ [])
    × (line : List ℕ) × ReadsBad longest_line line more in1 × (event_at n line ≡ None)
Next limits ReadFault in1 events n w more printed = (printed ≡ []) × IsPlain more
Next limits WriteFault in1 events n w more printed =
    (line : List ℕ) × (event : Event) × ReadsWhole line more in1
    × (event_at n line ≡ Some event) × PlaysPart limits events w event printed
Next limits (Refused number fault) in1 events n w more printed =
    (number ≡ n) × (printed ≡ []) × IsRefusal fault
    × (line : List ℕ) × (event : Event) × ReadsWhole line more in1
    × (event_at n line ≡ Some event) × ((step w event).fault ≡ Some fault)
Next limits HistoryFull in1 events n w more printed =
    (line : List ℕ) × (event : Event) × (entries : ℕ) × ReadsWhole line more in1
    × (event_at n line ≡ Some event)
    × ((step w event).fault ≡ Some (fault.HistoryFull entries))
    × (printed ≡ (step w event).lines) × PlaysPart limits events w event printed
Next limits NoMemory in1 events n w more printed =
    ((printed ≡ []) × IsPlain more)
    ⊎ ((printed ≡ []) × (line : List ℕ) × ReadsWhole line more in1)
    ⊎ ((line : List ℕ) × (event : Event) × ReadsWhole line more in1
    × (event_at n line ≡ Some event) × PlaysPart limits events w event printed)

-- lines were played, and then the next line brought the run to this ending
pub record PlayedThen (limits : Limits) (ending : Ending) (in0 in1 : Option (List ℕ))
    (body : List ℕ) : Type 0 where
  pub lines : List (List ℕ)
  pub events : List Event
  pub w : WorldState
  pub more : List ℕ
  pub printed : List Line
  pub reads : Reads in0 in1 lines more
  pub plays : Plays limits lines events w
  pub next : Next limits ending in1 events (length lines + 1) w more printed
  pub prints : body ≡ text_of (transcript (start limits) events ++ printed)

-- the run comes to this ending, and what was played prints these bytes
abbrev pub Comes : Limits → Option (List ℕ) → Option (List ℕ) → Ending → List ℕ → Type 0
Comes limits in0 in1 Done body = AllPlayed limits in0 in1 body
Comes limits in0 in1 ending body = PlayedThen limits ending in0 in1 body

-- The same of the whole input, where it is known: the ending is the verdict on its lines with all
-- that they print, or a fault or want of memory after the first lines of that.
abbrev pub Begins : Limits → List (List ℕ) → List ℕ → Type 0
Begins limits lines body =
    (printed : List Line) × IsPrefix printed (transcript_of limits lines) × (body ≡ text_of printed)

abbrev pub EndsAs : Limits → List (List ℕ) → Ending → List ℕ → Type 0
EndsAs limits lines ReadFault body = Begins limits lines body
EndsAs limits lines WriteFault body = Begins limits lines body
EndsAs limits lines NoMemory body = Begins limits lines body
EndsAs limits lines ending body =
    (ending ≡ verdict limits lines) × (body ≡ text_of (transcript_of limits lines))

-- ---- what was written

-- What was played was written, and then the last line of the ending, whose status is answered.
-- Where the sink failed, the first bytes of that were written.
abbrev pub Writes : (Ending → List ℕ → Type 0) → Status → Option (List ℕ) → Option (List ℕ)
    → Type 0
Writes Ends status.WriteFault old new =
    (ending : Ending) × (body : List ℕ) × Ends ending body
    × AppendsFirst old new (body ++ last_line ending)
Writes Ends answer old new =
    (ending : Ending) × (body : List ℕ) × (status_of ending ≡ answer) × Ends ending body
    × Appends old new (body ++ last_line ending)

-- the words ask for nothing that there is, which one line says, unless the sink failed in it or
-- memory ran out in reading the words
abbrev pub UsageGives : Status → Option (List ℕ) → Option (List ℕ) → Type 0
UsageGives status.Usage old new = Appends old new (codes "usage\n")
UsageGives status.NoMemory old new = Appends old new (codes "no-memory\n")
UsageGives status.WriteFault old new =
    AppendsFirst old new (codes "usage\n") ⊎ AppendsFirst old new (codes "no-memory\n")
UsageGives answer old new = ⊥

-- the limits of a world that the words ask for
abbrev pub limits_of : LimitSettings → Limits
limits_of s =
    record { table_max = s.table_max; out_max = s.out_max; history_max = s.history_max }
