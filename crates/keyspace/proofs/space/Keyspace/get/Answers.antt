use Rattle.std.proofs.Common.{◌∙◌}
use Rattle.keyspace.specs.Plain.{held_of}
use Rattle.keyspace.proofs.Keyed.{found, shown}
use Rattle.keyspace.proofs.space.Keyspace.get.Goals as goal

pub returns : goal.returns
returns c =
    let key = c.args.key.now in
    shown held_of c.get.result
    ∙ found held_of _ c.args.self.now c.self.view_is key _ c.get.ensures.value
