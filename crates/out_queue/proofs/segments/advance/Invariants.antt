use Rattle.std.proofs.Common.{◌≡◌, ◌≤◌, ◌+◌, ◌-◌, length, drop}
use Rattle.std.specs.List.{concat}
use Rattle.out_queue.proofs.segments.advance.Given as goal

-- what is still to be dropped of what is left
abbrev pub invariant-segments : goal.invariant-segments
invariant-segments l =
    (drop l.left (concat l.segments.items) ≡ drop l.most (concat l.fn.segments.items))
    × (l.left ≤ l.most)
    × (l.most - l.left + length (concat l.segments.items) ≡ length (concat l.fn.segments.items))

abbrev pub decreases-segments : goal.decreases-segments
decreases-segments l = length l.segments.items
