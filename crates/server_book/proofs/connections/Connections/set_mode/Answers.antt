use Rattle.std.proofs.Common.{◌-◌, ◌∙◌, ap}
use Rattle.server_book.specs.Connections.{ConnectionsState, has_life}
use Rattle.server_book.proofs.Lives.{held_put}
use Rattle.server_book.proofs.Sendings.{place_there}
use Rattle.server_book.proofs.connections.Connections.set_mode.Goals as goal

pub invariant_of-self : goal.invariant_of-self
invariant_of-self c =
    let i = c.self.inside in
    let cs = i.items in
    let id = c.args.id in
    let lt = place_there cs c.args.self.now.items id
    (ap (λ (s : ConnectionsState). s.items) c.self.view_is) c.requires.open.0 in
    held_put cs (id - 1) c.set_mode.new.self i.posts.items i.lost.items i.live _ _ lt
    (ap has_life c.set_mode.ensures
    ∙ ap has_life c.open_mut-connection.ensures.value)
    c.self.invariant
