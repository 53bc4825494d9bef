use Rattle.std.proofs.Common.{drop, take, ◌∙◌}
use Rattle.std.proofs.lemmas.List.{take-append-drop}
use Rattle.resp_value.proofs.Prefixes.{on_err}
use Rattle.serve_run.proofs.report.put_reports.Goals as goal

pub returns-in_err-put_report-clause-err : goal.returns-in_err-put_report-clause-err
returns-in_err-put_report-clause-err c =
    let items = c.args.reports.now in
    let n = c.loop-report.report-index in
    on_err c.from_residual.result (
      take n items,
      (drop n items, take-append-drop n items),
      c.in_err-put_report.ensures.err ∙ c.loop-report.invariant,
    )
