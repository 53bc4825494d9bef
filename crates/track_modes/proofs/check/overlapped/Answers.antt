use Rattle.std.proofs.Common.{arith}
use Rattle.track_modes.proofs.Overlaps.{overlap_step, found_held, found_before, not_found}
use Rattle.track_modes.proofs.check.overlapped.Goals as goal

pub returns-then-is_some : goal.returns-then-is_some
returns-then-is_some c =
    let step = overlap_step c.args.held.now c.args.new.now c.loop-place.place
    c.index-new-place.result c.loop-place-test.true c.index-new-place.is in
    grind (arith, found_held)

pub returns-then-is_some-2 : goal.returns-then-is_some-2
returns-then-is_some-2 c =
    let step = overlap_step c.args.held.now c.args.new.now c.loop-place.place
    c.index-new-place.result c.loop-place-test.true c.index-new-place.is in
    grind (arith, found_before)

pub loop-place-preserved : goal.loop-place-preserved
loop-place-preserved c =
    let step = overlap_step c.args.held.now c.args.new.now c.loop-place.place
    c.index-new-place.result c.loop-place-test.true c.index-new-place.is in
    grind (arith, not_found)
