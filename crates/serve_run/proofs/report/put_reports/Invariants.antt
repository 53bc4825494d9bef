use Rattle.std.proofs.Common.{◌≡◌, ◌++◌, take}
use Rattle.serve_run.specs.Reports.{report_text}
use Rattle.serve_run.proofs.report.put_reports.Given as goal

abbrev pub invariant-loop-report : goal.invariant-loop-report
invariant-loop-report l =
    l.text.items ≡ l.initial.text.items ++ report_text (take l.report-index l.reports)
