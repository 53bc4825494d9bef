use Rattle.std.proofs.Common.{◌-◌, List, ap, drop, refl, sym, subst, vec_capacity, vec_len}
use Rattle.server_book.specs.Connections.{ConnectionsState, HoldsPosts, connection_at}
use Rattle.server_book.specs.Places.{Connection}
use Rattle.server_book.proofs.Lives.{held_put}
use Rattle.server_book.proofs.Sendings.{place_there}
use Rattle.server_book.proofs.connections.Connections.advance.Goals as goal

pub invariant_of-self : goal.invariant_of-self
invariant_of-self c =
    let i = c.self.inside in
    let id = c.args.id in
    let was = connection_at i.items id in
    let now : Connection = record was { queue = drop c.args.most was.queue } in
    let room = vec_capacity i.posts - vec_len i.posts in
    let drop_room = vec_capacity i.drops - vec_len i.drops in
    let lt = place_there i.items c.args.self.now.items id
    (ap (λ (s : ConnectionsState). s.items) c.self.view_is) c.requires in
    subst (λ (cs : List Connection). HoldsPosts cs i.posts.items i.lost.items i.live room drop_room)
    (sym c.advance.ensures)
    (held_put i.items (id - 1) now i.posts.items i.lost.items i.live room drop_room lt refl
    c.self.invariant)
