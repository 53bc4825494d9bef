use Rattle.std.proofs.Common.{◌≡◌, ◌++◌, ◌≤◌, length, take}
use Rattle.std.specs.List.{concat}
use Rattle.out_queue.proofs.segments.copy_front.Given as goal

abbrev pub invariant-loop-segment : goal.invariant-loop-segment
invariant-loop-segment l =
    (l.out.items ≡ take l.most (l.fn.out.items ++ concat (take l.segment-index l.segments)))
    × (length l.out.items ≤ l.most)
