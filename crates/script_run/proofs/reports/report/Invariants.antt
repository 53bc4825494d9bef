use Rattle.std.proofs.Common.{◌≡◌, length}
use Rattle.script_text.specs.Scripts.{most_threads}
use Rattle.script_run.proofs.Reporting.{Printed}
use Rattle.script_run.proofs.reports.report.Given as goal

abbrev pub invariant-loop-place : goal.invariant-loop-place
invariant-loop-place l =
    Printed l.lines l.initial.threads.items l.place l.threads.items l.tally l.initial.out.items
    l.out.items
    × (length l.threads.items ≡ most_threads)
