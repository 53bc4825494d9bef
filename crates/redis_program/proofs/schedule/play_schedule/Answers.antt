use Rattle.std.proofs.Common.{ap, subst}
use Rattle.world_run.specs.WorldState.{WorldState}
use Rattle.redis_program.specs.Playing.{ComesTo}
use Rattle.redis_program.proofs.Playing.{no_world}
use Rattle.redis_program.proofs.schedule.play_schedule.Goals as goal

pub returns-in-Ok-clause-gives : goal.returns-in-Ok-clause-gives
returns-in-Ok-clause-gives g c =
    subst (λ l. ComesTo l (g.S.Source.left c.args.input.now)
    (g.S.Source.left c.play_lines.new.input) c.play_lines.result
    (g.K.Sink.contents c.args.output.now) (g.K.Sink.contents c.play_lines.new.output))
    (ap (λ (w : WorldState). w.links.limits) c.in-Ok.ensures) c.play_lines.ensures.gives

pub returns-in-Err-clause-gives : goal.returns-in-Err-clause-gives
returns-in-Err-clause-gives g c = no_world c.law_one_history.ensures _ _ _
