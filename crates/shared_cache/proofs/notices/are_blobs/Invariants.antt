use Rattle.std.proofs.Common.{◌≡◌, drop, map}
use Rattle.resp_value.specs.ValueTree.{tree_of}
use Rattle.resp_value.specs.Tree.{trees_of}
use Rattle.shared_cache.specs.Notices.{all_blobs}
use Rattle.shared_cache.proofs.notices.are_blobs.Given as goal

abbrev pub invariant-loop-value : goal.invariant-loop-value
invariant-loop-value l =
    all_blobs (trees_of (map tree_of (drop l.value-index l.values))) ≡ all_blobs
    (trees_of (map tree_of l.values))
