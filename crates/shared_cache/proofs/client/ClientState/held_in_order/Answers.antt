use Rattle.shared_cache.proofs.Listing.{sorted_places}
use Rattle.shared_cache.proofs.Order.{held_apart}
use Rattle.std.proofs.Common.{arith}
use Rattle.std.proofs.lemmas.Result.{IfOk-weaker}
use Rattle.shared_cache.specs.HeldKeys.{listed, seen, IsSortedAs}
use Rattle.shared_cache.proofs.client.ClientState.held_in_order.Goals as goal

pub returns : goal.returns
returns c =
    IfOk-weaker c.in_order.result
    (λ v. IsSortedAs (listed c.self.inside.keys.pairs) (seen v.items)) _
    (λ v sorted place.
    grind (arith, sorted_places, held_apart))
    c.in_order.ensures
