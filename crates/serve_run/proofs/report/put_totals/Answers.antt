use Rattle.std.proofs.Common.{drop, take, ◌∙◌}
use Rattle.std.proofs.lemmas.List.{take-append-drop}
use Rattle.resp_value.proofs.Prefixes.{on_err}
use Rattle.serve_run.proofs.report.put_totals.Goals as goal

pub returns-in_err-put_total-clause-err : goal.returns-in_err-put_total-clause-err
returns-in_err-put_total-clause-err c =
    let items = c.args.totals.now in
    let n = c.loop-total.total-index in
    on_err c.from_residual.result (
      take n items,
      (drop n items, take-append-drop n items),
      c.in_err-put_total.ensures.err ∙ c.loop-total.invariant,
    )
