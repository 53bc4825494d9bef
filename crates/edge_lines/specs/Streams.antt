-- What reading a line and writing bytes do to what a source has left and what a sink holds.
use Rattle.std.specs.Prelude.{◌≡◌, ◌<◌, ℕ, List, [], ◌∷◌, ◌++◌, length, Result, Ok, Err}
use Rattle.std.specs.declared.option.Option.{Option}
use Rattle.std.specs.Io.KnownBytes.{Appends, Consumes, IsAtEnd}
use Rattle.edge_links.specs.declared.counts.Counts.{Counts}
use Rattle.edge_links.specs.Counts.{EndCounted, FaultCounted}
use Rattle.resp_value.specs.Lists.{IsPrefix}
use Rattle.edge_lines.specs.declared.lines.LineRead.{LineRead}
use Rattle.edge_lines.specs.declared.lines.LineRead.TheVariants.{Line, Last, End, TooLong}
use Rattle.edge_lines.specs.declared.lines.LineRead.TheVariants.{Failed, NoMemory}
use Rattle.edge_lines.specs.declared.lines.SinkFailed.{SinkFailed}

-- no byte is an LF
abbrev pub IsPlain : List ℕ → Type 0
IsPlain [] = Unit {0}
IsPlain (b ∷ bytes) = (b ≡ 10 → ⊥) × IsPlain bytes

-- known bytes grow by the first of these bytes
abbrev pub AppendsFirst : Option (List ℕ) → Option (List ℕ) → List ℕ → Type 0
AppendsFirst old new bytes = (first : List ℕ) × IsPrefix first bytes × Appends old new first

-- a line may have so many bytes without its LF
abbrev pub ReadsLine : ℕ → LineRead → Option (List ℕ) → Option (List ℕ) → Type 0
ReadsLine longest (Line line) old new =
    IsPlain line.items × Consumes old new (line.items ++ 10 ∷ [])
ReadsLine longest (Last line) old new =
    IsPlain line.items × (line.items ≡ [] → ⊥) × Consumes old new line.items × IsAtEnd new
ReadsLine longest End old new = Consumes old new [] × IsAtEnd new
ReadsLine longest TooLong old new =
    (part : List ℕ) × IsPlain part × (longest < length part) × Consumes old new part
ReadsLine longest Failed old new = (part : List ℕ) × IsPlain part × Consumes old new part
ReadsLine longest NoMemory old new = (part : List ℕ) × IsPlain part × Consumes old new part

-- one answer is a counted fault, two are counted ends, and the others leave the counts as they were
abbrev pub LineCounts : LineRead → Counts → Counts → Type 0
LineCounts (Line line) old new = new ≡ old
LineCounts (Last line) old new = EndCounted old new
LineCounts End old new = EndCounted old new
LineCounts TooLong old new = new ≡ old
LineCounts Failed old new = FaultCounted old new
LineCounts NoMemory old new = new ≡ old

abbrev pub WritesAll : Result (Unit {0}) SinkFailed → Option (List ℕ) → Option (List ℕ) → List ℕ
    → Type 0
WritesAll (Ok done) old new bytes = Appends old new bytes
WritesAll (Err failed) old new bytes = AppendsFirst old new bytes × (bytes ≡ [] → ⊥)

abbrev pub AllCounts : Result (Unit {0}) SinkFailed → Counts → Counts → Type 0
AllCounts (Ok done) old new = new ≡ old
AllCounts (Err failed) old new = FaultCounted old new
