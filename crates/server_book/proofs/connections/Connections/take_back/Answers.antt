use Rattle.std.proofs.Common.{◌<◌, ◌-◌, List, length, arith, refl, sym, ap, subst, take, ◌∙◌}
use Rattle.std.specs.List.{count_by}
use Rattle.server_book.specs.Connections.{ArePosted, connection_at, has_life}
use Rattle.server_book.specs.Places.{Connection}
use Rattle.server_book.specs.Sendings.{before_posts}
use Rattle.server_book.proofs.Lives.{live_put}
use Rattle.server_book.proofs.Sendings.{posted_last, posted_set, before_last, unqueued_is}
use Rattle.server_book.proofs.connections.Connections.take_back.Goals as goal

pub overflow_sub-place : goal.overflow_sub-place
overflow_sub-place c = grind (arith, posted_last)

pub get-requires : goal.get-requires
get-requires c = grind (arith, posted_last)

pub posts-preserved : goal.posts-preserved
posts-preserved c =
    let items = c.posts.self-inside.items in
    let left = c.pop.new.self.items in
    let post = c.in-Some.post in
    let was = connection_at items post.id in
    let kept : Connection = record was { queue = take c.saturating_sub-left.result was.queue } in
    let last = posted_last items left post
    (subst (ArePosted items) c.in-Some.ensures.items c.posts.invariant.0) in
    let lt : post.id - 1 < length items = omega (arith, last.1.0, last.1.1) in (
      subst (λ (cs : List Connection). ArePosted cs left) (sym c.keep.ensures)
          (posted_set items (post.id - 1) _ left last.0),
      omega (arith, c.posts.invariant.1, c.pop.ensures.capacity, c.in-Some.ensures.len),
      c.posts.invariant.2,
      ap (before_posts left) (c.keep.ensures
          ∙ unqueued_is items post was kept c.saturating_sub-left.result refl
          (omega (
            arith,
            c.saturating_sub-left.ensures,
            c.size-held.ensures,
            ap (λ (x : Connection). length x.queue) c.get.ensures,
            c.size_of-size.ensures,
          ))
          refl)
          ∙ sym (before_last left post items)
          ∙ ap (λ ps. before_posts ps items) (sym c.in-Some.ensures.items)
          ∙ c.posts.invariant.3,
      c.posts.invariant.4
          ∙ sym (ap (λ (cs : List Connection). count_by has_life cs) c.keep.ensures
          ∙ live_put items (post.id - 1) kept lt refl),
      c.posts.invariant.5,
      c.posts.invariant.6,
    )

pub invariant_of-self : goal.invariant_of-self
invariant_of-self c = grind arith
