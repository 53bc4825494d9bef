-- A script, as the lines of its text.
use Rattle.std.specs.Prelude.{◌≡◌, ◌+◌, ⊤, ℕ, List, [], ◌∷◌, if◌then◌else◌, nat_le}
use Rattle.std.specs.Prelude.{Option, Some, None, Result, Ok, Err}
use Rattle.edge_links.specs.declared.counts.Counts.{Counts}
use Rattle.edge_links.specs.Counts.{EndCounted, FaultCounted}
use Rattle.script_text.specs.declared.script_line.ScriptLine.{ScriptLine}
use Rattle.script_text.specs.Scripts.{script_line_of}
use Rattle.script_program.specs.declared.read.ScriptRead.{ScriptRead}
use Rattle.script_program.specs.declared.read.ScriptRead.TheVariants as read

-- how many lines a script may have
abbrev pub most_lines : ℕ
most_lines = 100000

-- the line of this number; one past the last number is outside the grammar
abbrev pub line_at : ℕ → List ℕ → Option ScriptLine
line_at number line = if nat_le number most_lines then script_line_of line else None

abbrev pub line_then : Option ScriptLine → ℕ → Result (List ScriptLine) ℕ
    → Result (List ScriptLine) ℕ
line_then None number later = Err number
line_then (Some line) number (Ok lines) = Ok (line ∷ lines)
line_then (Some line) number (Err bad) = Err bad

-- the script of these lines, or the number of the first that is outside the grammar; the first has
-- this number
abbrev pub script_of : ℕ → List (List ℕ) → Result (List ScriptLine) ℕ
script_of number [] = Ok []
script_of number (line ∷ lines) =
    line_then (line_at number line) number (script_of (number + 1) lines)

-- what was read is the script of these lines, all of them, or the first that is outside the grammar
abbrev pub ReadsAs : ScriptRead → List (List ℕ) → Type 0
ReadsAs (read.Lines lines) texts = script_of 1 texts ≡ Ok lines.items
ReadsAs (read.BadLine number) texts = script_of 1 texts ≡ Err number
ReadsAs read.Failed texts = ⊤
ReadsAs read.NoMemory texts = ⊤

-- all lines come only where the source has counted an end, and no other fault is counted than the
-- one that is answered
abbrev pub ReadCounts : ScriptRead → Counts → Counts → Type 0
ReadCounts (read.Lines lines) old new = EndCounted old new
ReadCounts (read.BadLine number) old new = new.faults ≡ old.faults
ReadCounts read.Failed old new = FaultCounted old new
ReadCounts read.NoMemory old new = new.faults ≡ old.faults
