use Rattle.std.proofs.Common.{◌≡◌, take}
use Rattle.std.specs.List.{sum_by}
use Rattle.world_run.specs.Counts.{held_of}
use Rattle.world_run.proofs.world.World.held.Given as goal

abbrev pub invariant-loop-member : goal.invariant-loop-member
invariant-loop-member l = l.count ≡ sum_by held_of (take l.member-index l.member-items)
