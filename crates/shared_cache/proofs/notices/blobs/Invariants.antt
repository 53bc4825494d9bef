use Rattle.std.proofs.Common.{◌≡◌, ◌++◌, drop, map}
use Rattle.resp_value.specs.ValueTree.{tree_of}
use Rattle.resp_value.specs.Tree.{trees_of}
use Rattle.shared_cache.specs.Notices.{blobs_in}
use Rattle.shared_cache.proofs.notices.blobs.Given as goal

abbrev pub invariant-loop-value : goal.invariant-loop-value
invariant-loop-value l =
    l.words ++ blobs_in (trees_of (map tree_of (drop l.value-index l.values))) ≡ blobs_in
    (trees_of (map tree_of l.values))
