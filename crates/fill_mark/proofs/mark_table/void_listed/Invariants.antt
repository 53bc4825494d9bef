use Rattle.std.proofs.Common.{◌≡◌, drop}
use Rattle.fill_mark.specs.Tables.{without_listed}
use Rattle.fill_mark.proofs.mark_table.void_listed.Given as goal

abbrev pub invariant-loop-number : goal.invariant-loop-number
invariant-loop-number l =
    without_listed l.key (drop l.number-index l.numbers) l.marks
    ≡ without_listed l.key l.numbers l.initial.marks
