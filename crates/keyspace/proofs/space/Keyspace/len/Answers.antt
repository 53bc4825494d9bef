use Rattle.std.proofs.Common.{ap, sym, ◌∙◌}
use Rattle.std.specs.FinMap.{len}
use Rattle.keyspace.specs.Plain.{held_of}
use Rattle.keyspace.proofs.Keyed.{len-seen}
use Rattle.keyspace.proofs.space.Keyspace.len.Goals as goal

pub returns-clause-len : goal.returns-clause-len
returns-clause-len c =
    let entries = c.self.inside.table.entries in
    c.len.ensures.len
    ∙ (sym (len-seen held_of entries c.len.ensures.unique) ∙ ap len c.self.view_is)
