use Rattle.std.proofs.Common.{ap, ◌∙◌}
use Rattle.serial_model.specs.Tracking.{whole_group}
use Rattle.server_book.specs.Sendings.{lost_marked, with_told}
use Rattle.server_book.proofs.Routing.{unpassed_none}
use Rattle.server_book.proofs.stores.Stores.send_tick.Goals as goal

pub returns-in-Ok-clause-sent : goal.returns-in-Ok-clause-sent
returns-in-Ok-clause-sent c =
    let s = c.args.self.now in
    let group = whole_group c.args.expired.now s.table.rows s.prefixes in
    c.mark_lost.ensures
    ∙ ap lost_marked (c.in-Ok.ensures.told
    ∙ ap (λ x. with_told c.args.entry x s.connections) (unpassed_none group))
