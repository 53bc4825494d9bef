use Rattle.std.proofs.Common.{◌≡◌, ◌≤◌, drop}
use Rattle.command_words.specs.Integers.{value_of}
use Rattle.command_words.proofs.integer.value_within.Given as goal

abbrev pub invariant-loop-digit : goal.invariant-loop-digit
invariant-loop-digit l =
    (value_of 0 l.digits ≡ value_of l.number (drop l.digit-index l.digits))
    × (l.number ≤ 9223372036854775809)
