-- Lines of a script that were read, one after the other.
use Rattle.std.proofs.Common.{◌≡◌, ℕ, List, [], ◌∷◌, ◌++◌, sym, subst, Some}
use Rattle.std.proofs.lemmas.List.Elements.{All-append, All-cons, All-nil}
use Rattle.std.specs.List.{All}
use Rattle.script_text.specs.declared.script_line.ScriptLine.{ScriptLine}
use Rattle.script_text.specs.Scripts.{IsValidLine, script_line_of}
use Rattle.script_text.proofs.Scripts.{script_lines_are_valid}

pub one_more : (text : List ℕ) (line : ScriptLine) (lines new : List ScriptLine)
    → script_line_of text ≡ Some line → new ≡ lines ++ line ∷ [] → All IsValidLine lines
    → All IsValidLine new
one_more text line lines new is new_is all =
    subst (All IsValidLine) (sym new_is)
    (All-append IsValidLine lines (line ∷ []) all
    (All-cons IsValidLine line [] (script_lines_are_valid text line is) (All-nil IsValidLine)))
