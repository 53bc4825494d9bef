use Rattle.std.proofs.Common.{◌≡◌, ◌+◌, ◌-◌, length, drop, reverse}
use Rattle.resp_stream.specs.ValueSteps.{IsStack, LineSeen}
use Rattle.resp_stream.proofs.stack.run.Given as goal

abbrev pub invariant-steps : goal.invariant-steps
invariant-steps l =
    (l.room + length l.stack.items ≡ 8) × IsStack 8 l.text l.at l.room (reverse l.stack.items)
    × LineSeen (drop l.at l.text) l.seen

abbrev pub decreases-steps : goal.decreases-steps
decreases-steps l = length l.text - l.at
