use Rattle.std.proofs.Common.{◌≡◌, ◌++◌, take}
use Rattle.serve_run.specs.Reports.{total_text}
use Rattle.serve_run.proofs.report.put_totals.Given as goal

abbrev pub invariant-loop-total : goal.invariant-loop-total
invariant-loop-total l =
    l.text.items ≡ l.initial.text.items ++ total_text (take l.total-index l.totals)
