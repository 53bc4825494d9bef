use Rattle.std.proofs.Common.{◌≡◌, ◌++◌, take}
use Rattle.resp_value.specs.Spelling.{blob_spellings}
use Rattle.resp_value.proofs.put.put_blobs.Given as goal

abbrev pub invariant-loop-word : goal.invariant-loop-word
invariant-loop-word l = l.out.items ≡ l.fn.out.items ++ blob_spellings (take l.word-index l.words)
