use Rattle.std.proofs.Common.{◌≡◌, ◌++◌, drop}
use Rattle.fill_mark.specs.Tables.{marked_among}
use Rattle.fill_mark.proofs.key_numbers.marked_among.Given as goal

abbrev pub invariant-loop-number : goal.invariant-loop-number
invariant-loop-number l =
    l.marked.items ++ marked_among l.marks (drop l.number-index l.numbers)
    ≡ marked_among l.marks l.numbers
