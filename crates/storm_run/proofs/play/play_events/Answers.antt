use Rattle.std.proofs.Common.{arith}
use Rattle.storm_run.proofs.Storming.{storm_more, storm_within}
use Rattle.storm_run.proofs.play.play_events.Goals as goal

pub loop-place-preserved : goal.loop-place-preserved
loop-place-preserved g c =
    storm_more c.args.world.now c.args.number c.args.steps c.loop-place.place c.loop-place.world
    c.loop-place.schedule c.loop-place.tally c.loop-place.invariant c.play_next.new.world
    c.play_next.new.schedule c.play_next.new.tally c.in-Ok-true.field-0 c.in-Ok-true.field-0-test
    c.in-Ok-true.ensures

pub unreachable-requires : goal.unreachable-requires
unreachable-requires g c =
    let within = storm_within c.args.world.now c.args.number c.args.steps c.loop-place.place
    c.loop-place.world c.loop-place.schedule c.loop-place.tally c.loop-place.invariant
    c.requires.few in
    let past = c.loop-place-test.false in
    omega (arith, within, past)
