-- What a read of a source and a write to a sink answer, and what they leave.
use Rattle.std.specs.Prelude.{◌≡◌, ◌≤◌, ◌<◌, ℕ, List, length, take}
use Rattle.std.specs.declared.option.Option.{Option}
use Rattle.std.specs.Io.KnownBytes.{Appends, Consumes, Keeps, IsAtEnd}
use Rattle.edge_links.specs.declared.streams.SourceRead.{SourceRead}
use Rattle.edge_links.specs.declared.streams.SourceRead.TheVariants.{Bytes, End, Failed}
use Rattle.edge_links.specs.declared.streams.Wrote.{Wrote}
use Rattle.edge_links.specs.declared.streams.Wrote.TheVariants as wrote
use Rattle.edge_links.specs.Counts.{Counts, FaultCounted, EndCounted}

-- known bytes are given in order, and End comes only where none is left
abbrev pub ReadGives : SourceRead → Option (List ℕ) → Option (List ℕ) → List ℕ → Type 0
ReadGives (Bytes n) old new buf = (0 < n) × (n ≤ length buf) × Consumes old new (take n buf)
ReadGives End old new buf = IsAtEnd new × Keeps old new
ReadGives Failed old new buf = Keeps old new

-- an answer of bytes changes no count, and any other adds one to its own
abbrev pub ReadCounts : SourceRead → Counts → Counts → Type 0
ReadCounts (Bytes n) old new = new ≡ old
ReadCounts End old new = EndCounted old new
ReadCounts Failed old new = FaultCounted old new

-- known bytes grow by what was taken
abbrev pub WriteTakes : Wrote → Option (List ℕ) → Option (List ℕ) → List ℕ → Type 0
WriteTakes (wrote.Took n) old new bytes =
    (0 < n) × (n ≤ length bytes) × Appends old new (take n bytes)
WriteTakes wrote.Failed old new bytes = Keeps old new

abbrev pub WriteCounts : Wrote → Counts → Counts → Type 0
WriteCounts (wrote.Took n) old new = new ≡ old
WriteCounts wrote.Failed old new = FaultCounted old new
