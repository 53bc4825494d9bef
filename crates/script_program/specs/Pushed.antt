-- One line more of a script.
use Rattle.std.specs.Prelude.{◌≡◌, ⊤, ℕ, List, [], ◌∷◌, ◌++◌, Option, Some, None}
use Rattle.std.specs.List.{All}
use Rattle.script_text.specs.declared.script_line.ScriptLine.{ScriptLine}
use Rattle.script_text.specs.Scripts.{IsValidLine}
use Rattle.script_program.specs.declared.read.ScriptRead.{ScriptRead}
use Rattle.script_program.specs.declared.read.ScriptRead.TheVariants as read
use Rattle.script_program.specs.Scripts.{line_at}

-- the line was added; or it is outside the grammar, or memory ran out
abbrev pub Pushes : Option ScriptRead → ℕ → List ℕ → List ScriptLine → List ScriptLine → Type 0
Pushes None number text old new =
    (line : ScriptLine) × (line_at number text ≡ Some line) × (new ≡ old ++ line ∷ [])
Pushes (Some (read.BadLine bad)) number text old new =
    (bad ≡ number) × (line_at number text ≡ None)
Pushes (Some read.NoMemory) number text old new = ⊤
Pushes (Some (read.Lines lines)) number text old new = ⊥
Pushes (Some read.Failed) number text old new = ⊥

-- a script's lines are those of the grammar
abbrev pub AreValid : ScriptRead → Type 0
AreValid (read.Lines lines) = All IsValidLine lines.items
AreValid (read.BadLine number) = ⊤
AreValid read.Failed = ⊤
AreValid read.NoMemory = ⊤
