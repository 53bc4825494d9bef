use Rattle.std.proofs.Common.{◌-◌, ◌∙◌, ◌∷◌, ◌++◌, [], ap, arith, slice_set, subst, sym}
use Rattle.std.proofs.Common.{vec_capacity, vec_len}
use Rattle.server_book.specs.Connections.{ConnectionsState, HoldsPosts, has_life}
use Rattle.server_book.specs.Sendings.{message_post}
use Rattle.server_book.proofs.Lives.{held_more}
use Rattle.server_book.proofs.Sendings.{place_there}
use Rattle.server_book.proofs.connections.Connections.send.Goals as goal

pub invariant_of-self-2 : goal.invariant_of-self-2
invariant_of-self-2 c =
    let i = c.self.inside in
    let cs = i.items in
    let to = c.args.to in
    let lt = place_there cs c.args.self.now.items to
    (ap (λ (s : ConnectionsState). s.items) c.self.view_is) c.requires.0 in
    let there = c.open_mut-connection.ensures.value in
    let post = message_post c.args.entry to c.in_ok-length.length in
    let posts = c.push_reserved.new.self in
    let room = vec_capacity posts - vec_len posts in
    let drop_room = vec_capacity i.drops - vec_len i.drops in
    subst (λ ps. HoldsPosts (slice_set cs (to - 1) c.add_value.new.self) ps i.lost.items i.live
    room drop_room)
    (sym (c.push_reserved.ensures.items ∙ ap (λ ps. ps ++ post ∷ []) c.reserve.ensures.items))
    (held_more cs (to - 1) c.add_value.new.self i.posts.items
    post i.lost.items i.live (vec_capacity i.posts - vec_len i.posts) drop_room room lt
    (ap has_life c.in_ok-length.ensures.ok ∙ ap has_life there)
    (omega arith) (omega (arith, c.in_ok-reserve.ensures.ok)) c.self.invariant)
