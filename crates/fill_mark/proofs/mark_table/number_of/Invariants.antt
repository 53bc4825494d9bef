use Rattle.std.proofs.Common.{◌≡◌, drop}
use Rattle.fill_mark.specs.Tables.{number_of}
use Rattle.fill_mark.proofs.mark_table.number_of.Given as goal

abbrev pub invariant-loop-number : goal.invariant-loop-number
invariant-loop-number l =
    number_of l.query l.marks (drop l.number-index l.numbers)
    ≡ number_of l.query l.marks l.numbers
