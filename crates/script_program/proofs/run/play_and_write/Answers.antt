use Rattle.std.proofs.Common.{arith}
use Rattle.shared_client.specs.Setups.{setup_of}
use Rattle.script_program.proofs.Completing.{completes}
use Rattle.script_program.proofs.Writing.{played_writes}
use Rattle.script_program.proofs.run.play_and_write.Goals as goal

pub returns-in-Ok-clause-writes : goal.returns-in-Ok-clause-writes
returns-in-Ok-clause-writes g c = grind (arith, played_writes)

pub returns-in-Ok-clause-complete : goal.returns-in-Ok-clause-complete
returns-in-Ok-clause-complete g c = λ source net sink.
    completes g.N.Link.Link.left g.N.Link.Link.contents g.N.Link.Link.counts
    (setup_of c.args.setup) (g.S.Source.left c.args.input.now) c.play_over.result.session
    (g.S.Source.counts c.args.input.now) (g.S.Source.counts c.read_script.new.input)
    (g.N.Net.counts c.args.net.now) (g.N.Net.counts c.dial_all.new.net)
    (g.K.Sink.contents c.args.output.now) (g.K.Sink.contents c.play_over.new.output)
    (g.K.Sink.counts c.args.output.now) (g.K.Sink.counts c.play_over.new.output) source net sink
    c.play_over.result.end (returns-in-Ok-clause-writes g c) c.play_over.ensures.write
