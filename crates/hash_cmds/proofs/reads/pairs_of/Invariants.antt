use Rattle.std.proofs.Common.{◌≡◌, map, take}
use Rattle.resp_value.specs.declared.value.Value.TheVariants.{Blob}
use Rattle.resp_value.specs.ValueTree.{tree_of}
use Rattle.hash_cmds.proofs.reads.pairs_of.Given as goal

abbrev pub invariant-loop-place : goal.invariant-loop-place
invariant-loop-place l =
    l.pairs ≡ map (λ f. (tree_of (Blob f.0), tree_of (Blob f.1))) (take l.place l.fields)
