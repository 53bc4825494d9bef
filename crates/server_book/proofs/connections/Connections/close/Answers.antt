use Rattle.std.proofs.Common.{◌-◌, ◌∙◌, List, ap, arith, slice_set, subst, sym}
use Rattle.std.proofs.Common.{vec_capacity, vec_len}
use Rattle.server_book.specs.Connections.{ConnectionsState, HoldsPosts, connection_at, has_life}
use Rattle.server_book.specs.Places.{Connection, gone}
use Rattle.server_book.specs.Sendings.{end_post}
use Rattle.server_book.proofs.Lives.{gone_life, held_less, held_put}
use Rattle.server_book.proofs.Sendings.{place_there}
use Rattle.server_book.proofs.connections.Connections.close.Goals as goal

pub invariant_of-self : goal.invariant_of-self
invariant_of-self c =
    let i = c.self.inside in
    let cs = i.items in
    let id = c.args.id in
    let was = connection_at cs id in
    let lt = place_there cs c.args.self.now.items id
    (ap (λ (s : ConnectionsState). s.items) c.self.view_is) c.requires.there in
    let posts = c.push_reserved.new.self in
    let room = vec_capacity posts - vec_len posts in
    let drop_room = vec_capacity i.drops - vec_len i.drops in
    subst (λ (ds : List Connection). HoldsPosts ds posts.items i.lost.items (i.live - 1) room
    drop_room) (sym c.close.ensures)
    (subst (λ ps. HoldsPosts (slice_set cs (id - 1) (gone was)) ps i.lost.items (i.live - 1) room
    drop_room) (sym c.push_reserved.ensures.items)
    (held_less cs (id - 1) (gone was) i.posts.items (end_post c.args.entry id) i.lost.items
    i.live (vec_capacity i.posts - vec_len i.posts) drop_room room drop_room lt
    (sym (ap has_life c.get.ensures) ∙ sym c.is_live-was_live.ensures ∙ c.if-was_live.true)
    (gone_life was) (omega arith) (omega arith) (omega arith) c.self.invariant))

pub invariant_of-self-else-was_live : goal.invariant_of-self-else-was_live
invariant_of-self-else-was_live c =
    let i = c.self.inside in
    let cs = i.items in
    let id = c.args.id in
    let was = connection_at cs id in
    let room = vec_capacity i.posts - vec_len i.posts in
    let drop_room = vec_capacity i.drops - vec_len i.drops in
    let lt = place_there cs c.args.self.now.items id
    (ap (λ (s : ConnectionsState). s.items) c.self.view_is) c.requires.there in
    subst (λ (ds : List Connection). HoldsPosts ds i.posts.items i.lost.items i.live room drop_room)
    (sym c.close.ensures)
    (held_put cs (id - 1) (gone was) i.posts.items i.lost.items i.live room drop_room lt
    (gone_life was ∙ sym c.if-was_live.false ∙ c.is_live-was_live.ensures
    ∙ ap has_life c.get.ensures) c.self.invariant)
