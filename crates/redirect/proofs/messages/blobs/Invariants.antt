use Rattle.std.proofs.Common.{◌≡◌, map, take}
use Rattle.resp_value.specs.Tree.{blob}
use Rattle.redirect.proofs.messages.blobs.Given as goal

abbrev pub invariant-loop-key : goal.invariant-loop-key
invariant-loop-key l = l.values ≡ map blob (take l.key-index l.key-items)
