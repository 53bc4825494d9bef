-- The bytes of the rest of a text, from a place inside an escape on.
use Rattle.std.specs.Prelude.{ℕ, List}
use Rattle.script_text.specs.declared.words.Escape.{Escape}
use Rattle.script_text.specs.declared.words.Escape.TheVariants.{Outside, Backslash, Number, Digit}
use Rattle.script_text.specs.Words.{unescaped, after_backslash, after_x, after_digit}

abbrev pub unescaped_from : Escape → List ℕ → List ℕ
unescaped_from Outside text = unescaped text
unescaped_from Backslash text = after_backslash text
unescaped_from Number text = after_x text
unescaped_from (Digit high) text = after_digit text high
