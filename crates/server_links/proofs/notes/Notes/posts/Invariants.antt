use Rattle.std.proofs.Common.{◌≡◌, true, take}
use Rattle.server_links.specs.Notes.{noted_posts}
use Rattle.server_links.proofs.notes.Notes.posts.Given as goal

abbrev pub invariant-loop-post : goal.invariant-loop-post
invariant-loop-post l =
    l.self.whole ≡ true → (l.initial.self.whole ≡ true)
    × (l.self.trails ≡ noted_posts (take l.post-index l.posts) l.initial.self.trails)
