use Rattle.std.proofs.Common.{◌≡◌, map, take}
use Rattle.std.specs.Prelude.{filter, nat_eq}
use Rattle.std.specs.List.{starts_with}
use Rattle.resp_value.specs.Tree.{blob}
use Rattle.server_book.proofs.messages.blobs_under.Given as goal

abbrev pub invariant-loop-key : goal.invariant-loop-key
invariant-loop-key l =
    l.blobs
    ≡ map blob (filter (λ key. starts_with nat_eq key l.prefix) (take l.key-index l.keys))
