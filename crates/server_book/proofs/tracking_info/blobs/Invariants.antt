use Rattle.std.proofs.Common.{◌≡◌, map, take}
use Rattle.resp_value.specs.Tree.{blob}
use Rattle.server_book.proofs.tracking_info.blobs.Given as goal

abbrev pub invariant-loop-word : goal.invariant-loop-word
invariant-loop-word l = l.values ≡ map blob (take l.word-index l.words)
