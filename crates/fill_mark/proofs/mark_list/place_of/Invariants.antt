use Rattle.std.proofs.Common.{◌≡◌, drop}
use Rattle.fill_mark.specs.Marks.{query_marked}
use Rattle.fill_mark.proofs.mark_list.place_of.Given as goal

abbrev pub invariant-loop-place : goal.invariant-loop-place
invariant-loop-place l =
    query_marked l.number (drop l.place l.marks) ≡ query_marked l.number l.marks
