use Rattle.std.proofs.Common.{◌≡◌, ◌≤◌, ◌-◌, length, take}
use Rattle.std.specs.List.{concat}
use Rattle.out_queue.proofs.segments.cut.Given as goal

-- what is still to be cut off what is left
abbrev pub invariant-segments : goal.invariant-segments
invariant-segments l =
    (take (length (concat l.segments.items) - l.left) (concat l.segments.items)
    ≡ take (length (concat l.fn.segments.items) - l.count) (concat l.fn.segments.items))
    × (l.left ≤ length (concat l.segments.items))

abbrev pub decreases-segments : goal.decreases-segments
decreases-segments l = length l.segments.items
