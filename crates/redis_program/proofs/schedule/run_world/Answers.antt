use Rattle.std.proofs.Common.{arith}
use Rattle.redis_program.specs.declared.status.Status.TheVariants as status
use Rattle.redis_program.proofs.Finishing.{done_writes, cut_writes, finishes, writes_known}
use Rattle.redis_program.proofs.Finishing.{complete_known, last_read, last_wrote, last_not_done}
use Rattle.redis_program.proofs.Finishing.{last_not_usage}
use Rattle.redis_program.proofs.schedule.run_world.Goals as goal

pub returns-in-Done-clause-gives : goal.returns-in-Done-clause-gives
returns-in-Done-clause-gives g c = done_writes _ _ _ _ _ c.in-Done.ensures.gives

pub returns-in-Done-clause-exact : goal.returns-in-Done-clause-exact
returns-in-Done-clause-exact g c =
    let left = g.S.Source.left in
    let contents = g.K.Sink.contents in
    writes_known c.args.limits (left c.args.input.now) (left c.play_schedule.new.input)
    (contents c.args.output.now) (contents c.play_schedule.new.output) status.Done
    (done_writes c.args.limits (left c.args.input.now) (left c.play_schedule.new.input)
    (contents c.args.output.now) (contents c.play_schedule.new.output) c.in-Done.ensures.gives)

pub returns-in-Done-clause-complete : goal.returns-in-Done-clause-complete
returns-in-Done-clause-complete g c = λ r w.
    let left = g.S.Source.left in
    let contents = g.K.Sink.contents in
    complete_known c.args.limits (left c.args.input.now) (contents c.args.output.now)
    (contents c.play_schedule.new.output) status.Done (λ e. cc) (λ e. cc)
    (writes_known c.args.limits (left c.args.input.now) (left c.play_schedule.new.input)
    (contents c.args.output.now) (contents c.play_schedule.new.output) status.Done
    (done_writes c.args.limits (left c.args.input.now) (left c.play_schedule.new.input)
    (contents c.args.output.now) (contents c.play_schedule.new.output) c.in-Done.ensures.gives))

pub returns-in-WriteFault-clause-gives : goal.returns-in-WriteFault-clause-gives
returns-in-WriteFault-clause-gives g c = cut_writes _ _ _ _ _ c.in-WriteFault.ensures.gives

pub returns-in-WriteFault-clause-exact : goal.returns-in-WriteFault-clause-exact
returns-in-WriteFault-clause-exact g c =
    let left = g.S.Source.left in
    let contents = g.K.Sink.contents in
    writes_known c.args.limits (left c.args.input.now) (left c.play_schedule.new.input)
    (contents c.args.output.now) (contents c.play_schedule.new.output) status.WriteFault
    (cut_writes c.args.limits (left c.args.input.now) (left c.play_schedule.new.input)
    (contents c.args.output.now) (contents c.play_schedule.new.output)
    c.in-WriteFault.ensures.gives)

pub returns-in-WriteFault-clause-complete : goal.returns-in-WriteFault-clause-complete
returns-in-WriteFault-clause-complete g c = λ r w. absurd (w c.in-WriteFault.ensures.wrote.0)

pub returns-in_default-clause-gives : goal.returns-in_default-clause-gives
returns-in_default-clause-gives g c =
    finishes _ _ _ c.play_schedule.result _ _ _ _ _ _ c.in_default.not-Done
    c.in_default.not-WriteFault c.play_schedule.ensures.gives c.write_last.ensures

pub returns-in_default-clause-exact : goal.returns-in_default-clause-exact
returns-in_default-clause-exact g c =
    let left = g.S.Source.left in
    let contents = g.K.Sink.contents in
    writes_known c.args.limits (left c.args.input.now) (left c.play_schedule.new.input)
    (contents c.args.output.now) (contents c.write_last.new.output) c.write_last.result
    (finishes c.args.limits (left c.args.input.now) (left c.play_schedule.new.input)
    c.play_schedule.result c.write_last.result _ _ _ _ _ c.in_default.not-Done
    c.in_default.not-WriteFault c.play_schedule.ensures.gives c.write_last.ensures)

pub returns-in_default-clause-complete : goal.returns-in_default-clause-complete
returns-in_default-clause-complete g c = λ r w.
    let left = g.S.Source.left in
    let contents = g.K.Sink.contents in
    complete_known c.args.limits _ (contents c.args.output.now)
    (contents c.write_last.new.output) c.write_last.result
    (λ e. r (last_read c.play_schedule.result c.write_last.result _ _ _ _ _ _ c.write_last.ensures
    c.play_schedule.ensures.read e))
    (λ e. w (last_wrote c.play_schedule.result c.write_last.result _ _ _ _ _
    c.in_default.not-WriteFault c.write_last.ensures c.play_schedule.ensures.wrote e))
    (writes_known c.args.limits (left c.args.input.now) (left c.play_schedule.new.input)
    (contents c.args.output.now) (contents c.write_last.new.output) c.write_last.result
    (finishes c.args.limits (left c.args.input.now) (left c.play_schedule.new.input)
    c.play_schedule.result c.write_last.result _ _ _ _ _ c.in_default.not-Done
    c.in_default.not-WriteFault c.play_schedule.ensures.gives c.write_last.ensures))

pub returns-in_default-clause-done : goal.returns-in_default-clause-done
returns-in_default-clause-done g c = grind (arith, last_not_done)

pub returns-in_default-clause-read : goal.returns-in_default-clause-read
returns-in_default-clause-read g c = grind (arith, last_read)

pub returns-in_default-clause-write : goal.returns-in_default-clause-write
returns-in_default-clause-write g c = grind (arith, last_wrote)

pub returns-in_default-clause-understood : goal.returns-in_default-clause-understood
returns-in_default-clause-understood g c = grind (arith, last_not_usage)
