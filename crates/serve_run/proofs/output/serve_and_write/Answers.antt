use Rattle.std.proofs.Common.{subst}
use Rattle.serve_run.specs.Written.{RunWrites}
use Rattle.serve_run.proofs.Writing.{fault_failed}
use Rattle.serve_run.proofs.output.serve_and_write.Goals as goal

pub returns-clause-writes : goal.returns-clause-writes
returns-clause-writes g c = (
  c.serve-served.result.end,
  c.serve-served.result.text.items,
  c.serve-served.ensures.runs,
  c.serve-served.ensures.net,
  subst (λ l. RunWrites c.write_run-end.result c.serve-served.result.end l
      (g.K.Sink.contents c.args.output.now) (g.K.Sink.contents c.write_run-end.new.output))
      c.as_slice.ensures.value c.write_run-end.ensures.bytes,
)

pub returns-clause-net : goal.returns-clause-net
returns-clause-net g c =
    fault_failed c.args.connections c.serve-served.result.served _ _ c.write_run-end.result
    (g.K.Sink.contents c.args.output.now) (g.K.Sink.contents c.write_run-end.new.output)
    (returns-clause-writes g c)
