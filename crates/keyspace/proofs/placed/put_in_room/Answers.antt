use Rattle.std.proofs.Common.{arith}
use Rattle.keyspace.proofs.Placing.{put_there, put_absent}
use Rattle.keyspace.proofs.placed.put_in_room.Goals as goal

pub returns-then-contains_key-clause-entries : goal.returns-then-contains_key-clause-entries
returns-then-contains_key-clause-entries c =
    put_there c.args.placed c.args.table.now.entries c.args.table.now.entries
    c.as_slice.result.now c.as_slice.ensures.value c.contains_key.result c.contains_key.ensures
    c.if-contains_key.true

pub returns-clause-entries : goal.returns-clause-entries
returns-clause-entries c =
    put_absent c.args.placed c.args.table.now.entries c.insert_before.new.self.entries
    c.as_slice.result.now c.as_slice.ensures.value c.contains_key.result c.contains_key.ensures
    c.if-contains_key.false c.min-place.result c.in-Ok.field-0.0 (grind arith)
    c.in-Ok.ensures.index c.in-Ok.ensures.entries
