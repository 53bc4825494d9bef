use Rattle.std.proofs.Common.{[], refl}
use Rattle.edge_links.proofs.Bytes.{appends_none}
use Rattle.redis_program.specs.declared.status.Ending.TheVariants.{NoMemory}
use Rattle.redis_program.specs.Storming.{StormEnds}
use Rattle.redis_program.proofs.Finishing.{ends_as_said}
use Rattle.redis_program.proofs.storm.run_storm.Goals as goal

pub returns-in-Err-clause-gives : goal.returns-in-Err-clause-gives
returns-in-Err-clause-gives g c =
    let old = g.K.Sink.contents c.args.output.now in
    ends_as_said (StormEnds c.args.number c.args.steps) NoMemory [] c.write_last.result old old
    (g.K.Sink.contents c.write_last.new.output) _ _ (λ d. cc) refl refl (appends_none old)
    c.write_last.ensures
