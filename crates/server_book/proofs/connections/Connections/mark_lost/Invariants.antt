use Rattle.std.proofs.Common.{◌≡◌, ◌-◌, length}
use Rattle.server_book.specs.Connections.{HoldsPosts}
use Rattle.server_book.specs.Sendings.{marked}
use Rattle.std.proofs.Common.{vec_capacity, vec_len}
use Rattle.server_book.proofs.connections.Connections.mark_lost.Given as goal

abbrev pub invariant-lost : goal.invariant-lost
invariant-lost l =
    HoldsPosts l.self-inside.items l.self-inside.posts.items l.self-inside.lost.items
    l.self-inside.live (vec_capacity l.self-inside.posts - vec_len l.self-inside.posts)
    (vec_capacity l.self-inside.drops - vec_len l.self-inside.drops)
    × (l.self-inside.posts ≡ l.initial.self-inside.posts)
    × (marked l.self-inside.lost.items l.self-inside.items
    ≡ marked l.initial.self-inside.lost.items l.initial.self-inside.items)
    × (l.self-inside.drops ≡ l.initial.self-inside.drops)

abbrev pub decreases-lost : goal.decreases-lost
decreases-lost l = length l.self-inside.lost.items
