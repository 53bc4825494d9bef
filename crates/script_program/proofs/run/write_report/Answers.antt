use Rattle.std.proofs.Common.{arith}
use Rattle.std.proofs.lemmas.Result.{err_from_is_err_and}
use Rattle.edge_lines.proofs.Bytes.{first_then}
use Rattle.script_run.specs.Reports.{end_text}
use Rattle.script_program.proofs.Writing.{text_cut}
use Rattle.script_program.proofs.run.write_report.Goals as goal

pub returns-in_err-write_all-clause-bytes : goal.returns-in_err-write_all-clause-bytes
returns-in_err-write_all-clause-bytes g c = grind (arith, err_from_is_err_and, text_cut)

pub returns-in_err-write_all-2-clause-bytes : goal.returns-in_err-write_all-2-clause-bytes
returns-in_err-write_all-2-clause-bytes g c =
    let p = err_from_is_err_and c.from_residual-in_err-write_all-2.result
    c.from_residual-in_err-write_all-2.ensures.1 in
    rw p.1
    (first_then _ (g.K.Sink.contents c.write_all.new.sink) _ c.args.text.now (end_text c.args.end)
    c.in_ok-write_all.ensures.bytes
    (grind arith))
