use Rattle.std.proofs.Common.{drop, take, ◌∙◌}
use Rattle.std.proofs.lemmas.List.{take-append-drop}
use Rattle.resp_value.proofs.Prefixes.{on_err}
use Rattle.redis_program.proofs.schedule.put_lines.Goals as goal

pub returns-in_err-put_line-clause-err : goal.returns-in_err-put_line-clause-err
returns-in_err-put_line-clause-err c =
    let items = c.as_slice-line-items.result.now in
    let n = c.loop-line.line-index in
    on_err c.from_residual.result (
      take n items,
      (drop n items, take-append-drop n items ∙ c.as_slice-line-items.ensures),
      c.in_err-put_line.ensures.err ∙ c.loop-line.invariant,
    )
