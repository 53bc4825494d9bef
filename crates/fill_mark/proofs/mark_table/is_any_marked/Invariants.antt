use Rattle.std.proofs.Common.{◌≡◌, drop}
use Rattle.std.specs.List.{list_any}
use Rattle.fill_mark.specs.Tables.{is_marked}
use Rattle.fill_mark.proofs.mark_table.is_any_marked.Given as goal

abbrev pub invariant-loop-number : goal.invariant-loop-number
invariant-loop-number l =
    list_any (is_marked l.marks) (drop l.number-index l.numbers)
    ≡ list_any (is_marked l.marks) l.numbers
