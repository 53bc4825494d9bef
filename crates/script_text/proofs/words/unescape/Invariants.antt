use Rattle.std.proofs.Common.{◌≡◌, ◌++◌, drop}
use Rattle.script_text.specs.Words.{unescaped}
use Rattle.script_text.specs.Escapes.{unescaped_from}
use Rattle.script_text.proofs.words.unescape.Given as goal

-- the bytes so far come before those of the rest
abbrev pub invariant-loop-byte : goal.invariant-loop-byte
invariant-loop-byte l = l.word.items ++ unescaped_from l.escape (drop l.byte-index l.text)
    ≡ unescaped l.text
