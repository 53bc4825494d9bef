use Rattle.std.proofs.Common.{ap, ◌∙◌, append-nil, arith}
use Rattle.std.proofs.lemmas.Result.{err_from_is_err_and}
use Rattle.script_run.specs.Reports.{line_end}
use Rattle.script_run.proofs.Reporting.{line_printed, rest_length}
use Rattle.script_run.proofs.reports.report.Goals as goal
use Rattle.script_run.proofs.reports.report.Goals.{then-is_printing+in_ok-put_said}
use Rattle.script_run.proofs.reports.report.Goals.{else-is_printing}

pub loop-place-preserved : goal.loop-place-preserved
loop-place-preserved c =
    let inv = c.loop-place.invariant in
    let n = c.loop-place.place in
    let line = c.index-lines-place.result in
    let qs = c.loop-place.threads.items in
    let e = c.line_end-end.result in
    let text = c.loop-place.out.items in
    let printed =
    line_printed c.args.lines.now c.args.threads.now.items n line qs c.index-lines-place.is
    c.loop-place-test.true c.loop-place.tally c.args.out.now.items text inv.0 e c.note.new.self
    c.next_of.new.threads.items (c.line_end-end.ensures ∙ ap line_end c.next_of.ensures.first)
    c.note.ensures c.next_of.ensures.rest in
    grind (arith, then-is_printing+in_ok-put_said, else-is_printing, append-nil, rest_length)

pub returns-in_err-put_said-clause-err : goal.returns-in_err-put_said-clause-err
returns-in_err-put_said-clause-err c = grind (arith, err_from_is_err_and)
