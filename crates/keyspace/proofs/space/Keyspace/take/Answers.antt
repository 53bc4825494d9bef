use Rattle.std.proofs.Common.{ap, ◌∙◌}
use Rattle.std.specs.FinMap.{remove}
use Rattle.keyspace.specs.Plain.{held_of}
use Rattle.keyspace.proofs.Keyed.{found, take-seen}
use Rattle.keyspace.proofs.space.Keyspace.take.Goals as goal

pub returns-clause-gone : goal.returns-clause-gone
returns-clause-gone c =
    let key = c.args.key.now in
    let table = c.self.inside.table in
    take-seen held_of key table c.swap_remove.new.self c.swap_remove.ensures.updates
    ∙ ap (λ m. remove m key) c.self.view_is

pub returns-clause-was : goal.returns-clause-was
returns-clause-was c =
    let key = c.args.key.now in
    found held_of _ c.args.self.now c.self.view_is key _ c.swap_remove.ensures.value
