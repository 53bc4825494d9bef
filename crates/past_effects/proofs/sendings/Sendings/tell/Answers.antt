use Rattle.std.proofs.Common.{◌<◌, arith, length, option_map}
use Rattle.past_effects.proofs.Told.{told_all, told_next}
use Rattle.past_effects.proofs.sendings.Sendings.tell.Goals as goal

pub loop-place-preserved : goal.loop-place-preserved
loop-place-preserved c =
    let lt : c.loop-place.place < length c.args.ids.now = omega arith in
    told_next c.args.connections.now c.args.passed (option_map (λ w. w.now) c.args.keys)
    c.args.ids.now c.loop-place.place c.loop-place.self _ c.loop-place.invariant
    c.tell_one.new.self lt c.in_ok-tell_one.ensures

pub returns : goal.returns
returns c =
    told_all c.args.connections.now c.args.passed (option_map (λ w. w.now) c.args.keys)
    c.args.ids.now c.loop-place.place c.loop-place.self _ c.loop-place.invariant
    c.loop-place-test.false
