-- The answers to a script's lines, as they are printed.
use Rattle.std.specs.Prelude.{ℕ, List, [], ◌∷◌, ◌++◌, codes}
use Rattle.std.specs.Fmt.{decimal}
use Rattle.script_text.specs.declared.answer_line.ScriptAnswer.{ScriptAnswer}
use Rattle.script_text.specs.declared.answer_line.ScriptAnswer.TheVariants.{Hit, Read, Reply, Down}
use Rattle.script_text.specs.Printed.{value_text}

-- a line without its LF
abbrev pub unended_answer : ℕ → ScriptAnswer → List ℕ
unended_answer line (Hit number value) =
    decimal line ++ codes " hit " ++ decimal number ++ codes " " ++ value_text value
unended_answer line (Read number value) =
    decimal line ++ codes " answer " ++ decimal number ++ codes " " ++ value_text value
unended_answer line (Reply value) = decimal line ++ codes " answer " ++ value_text value
unended_answer line Down = decimal line ++ codes " down"

unfoldable pub answer_text : ℕ → ScriptAnswer → List ℕ
answer_text line answer = unended_answer line answer ++ 10 ∷ []
