use Rattle.std.proofs.Common.{◌<◌, ◌-◌, List, ap, arith, length, subst, sym, ◌∙◌}
use Rattle.std.proofs.Common.{vec_capacity, vec_len}
use Rattle.serial_model.specs.Each.{AllIn}
use Rattle.server_book.specs.Connections.{HoldsPosts, IsId, connection_at}
use Rattle.server_book.specs.Places.{Connection, lost_one}
use Rattle.server_book.specs.Sendings.{marked}
use Rattle.server_book.proofs.Lives.{live_put, lost_lives}
use Rattle.server_book.proofs.Sendings.{ids_last, ids_set, marked_last, posted_set}
use Rattle.server_book.proofs.connections.Connections.mark_lost.Goals as goal

pub lost-preserved : goal.lost-preserved
lost-preserved c =
    let items = c.lost.self-inside.items in
    let left = c.pop.new.self.items in
    let id = c.in-Some.id in
    let was = connection_at items id in
    let h = c.lost.invariant.0 in
    let last = ids_last items left id
    (subst (AllIn (IsId items)) c.in-Some.ensures.items h.lost_there) in
    let lt : id - 1 < length items = omega (arith, last.1.0, last.1.1) in (
      subst (λ (cs : List Connection). HoldsPosts cs c.lost.self-inside.posts.items left
          c.lost.self-inside.live
          (vec_capacity c.lost.self-inside.posts - vec_len c.lost.self-inside.posts)
          (vec_capacity c.lost.self-inside.drops - vec_len c.lost.self-inside.drops))
          (sym c.lose.ensures)
          (record {
            there = posted_set items (id - 1) _ c.lost.self-inside.posts.items h.there;
            lost_there = ids_set items (id - 1) _ left last.0;
            live_are =
                h.live_are ∙ sym (live_put items (id - 1) (lost_one was) lt (lost_lives was));
            for_each = h.for_each;
            for_drops = h.for_drops;
          }),
      c.lost.invariant.1,
      ap (marked left) c.lose.ensures
          ∙ sym (marked_last left id items)
          ∙ ap (λ ids. marked ids items) (sym c.in-Some.ensures.items)
          ∙ c.lost.invariant.2,
      c.lost.invariant.3,
    )
