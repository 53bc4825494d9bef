use Rattle.std.proofs.Common.{◌≡◌, ◌++◌, length}
use Rattle.past_effects.specs.Sendings.{posts_for}
use Rattle.past_effects.proofs.posts.push_posts.Given as goal

abbrev pub invariant-sent : goal.invariant-sent
invariant-sent l =
    l.posts.items ++ posts_for l.entry l.id l.left
    ≡ l.initial.posts.items ++ posts_for l.entry l.id l.sent

abbrev pub decreases-sent : goal.decreases-sent
decreases-sent l = length l.left
