use Rattle.std.proofs.Common.{◌≡◌, ◌-◌, ◌≤◌, [], length, vec_capacity, vec_len}
use Rattle.std.specs.List.{count_by}
use Rattle.server_book.specs.Connections.{ArePosted, has_life}
use Rattle.server_book.specs.Sendings.{before_posts}
use Rattle.server_book.proofs.connections.Connections.take_back.Given as goal

abbrev pub invariant-posts : goal.invariant-posts
invariant-posts l =
    ArePosted l.self-inside.items l.self-inside.posts.items
    × (l.self-inside.live ≤ vec_capacity l.self-inside.posts - vec_len l.self-inside.posts)
    × (l.self-inside.lost.items ≡ [])
    × (before_posts l.self-inside.posts.items l.self-inside.items
    ≡ before_posts l.initial.self-inside.posts.items l.initial.self-inside.items)
    × (l.self-inside.live ≡ count_by has_life l.self-inside.items)
    × (l.self-inside.drops ≡ l.initial.self-inside.drops)
    × (l.self-inside.live ≡ l.initial.self-inside.live)

abbrev pub decreases-posts : goal.decreases-posts
decreases-posts l = length l.self-inside.posts.items
