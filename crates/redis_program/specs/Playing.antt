-- What the play of one line, and of a schedule up to its last line, comes to.
use Rattle.std.specs.Prelude.{◌≡◌, ◌⊎◌, ℕ, List, [], Result, Ok, Err}
use Rattle.std.specs.declared.option.Option.{Option}
use Rattle.std.specs.declared.option.Option.TheVariants.{None, Some}
use Rattle.std.specs.Io.KnownBytes.{Appends}
use Rattle.edge_links.specs.declared.counts.Counts.{Counts}
use Rattle.edge_links.specs.Counts.{EndCounted, FaultCounted}
use Rattle.resp_value.specs.Lists.{IsPrefix}
use Rattle.serial_model.specs.declared.history.Limits.{Limits}
use Rattle.script_text.specs.declared.event.Event.{Event}
use Rattle.script_text.specs.declared.line.Line.{Line}
use Rattle.script_text.specs.Printed.{text_of}
use Rattle.server_links.specs.declared.fault.WorldFault.TheVariants as fault
use Rattle.server_links.specs.Faults.{IsRefusal}
use Rattle.server_links.specs.Outcome.{Reached}
use Rattle.world_run.specs.WorldState.{WorldState}
use Rattle.world_run.specs.World.{step}
use Rattle.redis_program.specs.declared.status.Status.{Status}
use Rattle.redis_program.specs.declared.status.Status.TheVariants as status
use Rattle.redis_program.specs.declared.status.Ending.{Ending}
use Rattle.redis_program.specs.declared.status.Ending.TheVariants.{Done, BadLine, ReadFault}
use Rattle.redis_program.specs.declared.status.Ending.TheVariants.{WriteFault, Refused, HistoryFull}
use Rattle.redis_program.specs.declared.status.Ending.TheVariants.{NoMemory}
use Rattle.redis_program.specs.Headline.{AppendsFirst, Comes, event_at, last_line, status_of}

-- the event of the line was played this far, and what is printed is the first of its lines
abbrev pub PartPrinted : ℕ → WorldState → List ℕ → List Line → Type 0
PartPrinted n w line printed =
    (event : Event) × (event_at n line ≡ Some event) × (state : WorldState) × (all : List Line)
    × Reached (step w event) state all × IsPrefix printed all

-- What a line comes to: its event was played and printed these lines, or it brings the run to an
-- ending.
abbrev pub LineComes : ℕ → WorldState → List ℕ → Result (Unit {0}) Ending → WorldState
    → List Line → Type 0
LineComes n w line (Ok done) new lines =
    (event : Event) × (event_at n line ≡ Some event) × ((step w event).fault ≡ None)
    × (new ≡ (step w event).state) × (lines ≡ (step w event).lines)
LineComes n w line (Err Done) new lines = ⊥
LineComes n w line (Err (BadLine number)) new lines =
    (number ≡ n) × (lines ≡ []) × (event_at n line ≡ None)
LineComes n w line (Err ReadFault) new lines = ⊥
LineComes n w line (Err WriteFault) new lines = ⊥
LineComes n w line (Err (Refused number fault)) new lines =
    (number ≡ n) × IsRefusal fault × (event : Event) × (event_at n line ≡ Some event)
    × ((step w event).fault ≡ Some fault) × (lines ≡ (step w event).lines)
LineComes n w line (Err HistoryFull) new lines =
    (event : Event) × (event_at n line ≡ Some event) × (entries : ℕ)
    × ((step w event).fault ≡ Some (fault.HistoryFull entries)) × (lines ≡ (step w event).lines)
LineComes n w line (Err NoMemory) new lines = (lines ≡ []) ⊎ PartPrinted n w line lines

-- the same, with the lines printed into a text
abbrev pub LineText : ℕ → WorldState → List ℕ → Result (Unit {0}) Ending → WorldState → List ℕ
    → Type 0
LineText n w line result new text =
    (lines : List Line) × (text ≡ text_of lines) × LineComes n w line result new lines

-- the same, with the text written
abbrev pub LineGives : ℕ → WorldState → List ℕ → Result (Unit {0}) Ending → WorldState
    → Option (List ℕ) → Option (List ℕ) → Type 0
LineGives n w line (Err WriteFault) new old out =
    (lines : List Line) × PartPrinted n w line lines × AppendsFirst old out (text_of lines)
LineGives n w line result new old out =
    (lines : List Line) × LineComes n w line result new lines × Appends old out (text_of lines)

abbrev pub LineCounted : Result (Unit {0}) Ending → Counts → Counts → Type 0
LineCounted (Err WriteFault) old new = FaultCounted old new
LineCounted result old new = new ≡ old

-- the first bytes of what was played are all that was written where the sink failed
abbrev pub WritesBody : Ending → Option (List ℕ) → Option (List ℕ) → List ℕ → Type 0
WritesBody WriteFault old new body = AppendsFirst old new body
WritesBody ending old new body = Appends old new body

abbrev pub ComesTo : Limits → Option (List ℕ) → Option (List ℕ) → Ending → Option (List ℕ)
    → Option (List ℕ) → Type 0
ComesTo limits in0 in1 ending out0 out1 =
    (body : List ℕ) × Comes limits in0 in1 ending body × WritesBody ending out0 out1 body

-- an ending is Done only where an end of the source is counted, and a fault of reading only where
-- its fault is
abbrev pub EndingRead : Ending → Counts → Counts → Type 0
EndingRead Done old new = EndCounted old new
EndingRead ReadFault old new = FaultCounted old new
EndingRead ending old new = Unit {0}

abbrev pub EndingWrote : Ending → Counts → Counts → Type 0
EndingWrote WriteFault old new = FaultCounted old new
EndingWrote ending old new = new ≡ old

-- the last line was written and its status answered; or that of want of memory, in its place; or
-- the sink failed in it
abbrev pub LastGives : Ending → Status → Option (List ℕ) → Option (List ℕ) → Counts → Counts
    → Type 0
LastGives ending result old new counts counts' =
    ((result ≡ status_of ending) × Appends old new (last_line ending))
    ⊎ ((result ≡ status.NoMemory) × Appends old new (last_line NoMemory))
    ⊎ ((result ≡ status.WriteFault) × FaultCounted counts counts'
    × AppendsFirst old new (last_line ending))
    ⊎ ((result ≡ status.WriteFault) × FaultCounted counts counts'
    × AppendsFirst old new (last_line NoMemory))
