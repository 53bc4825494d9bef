use Rattle.std.proofs.Common.{◌≡◌, ◌++◌, drop}
use Rattle.client_library.specs.Unknown.{blobs}
use Rattle.client_library.proofs.unknown.blobs.Given as goal

abbrev pub invariant-loop-key : goal.invariant-loop-key
invariant-loop-key l = l.values ++ blobs (drop l.key-index l.keys) ≡ blobs l.keys
