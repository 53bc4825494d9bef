use Rattle.keyspace.proofs.Placing.{none_taken}
use Rattle.keyspace.proofs.field_table.FieldTable.take_all.Goals as goal

pub returns-clause-kept : goal.returns-clause-kept
returns-clause-kept c =
    none_taken c.names.taken.items c.args.self.now c.names.self c.names.invariant.back
