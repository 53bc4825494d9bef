use Rattle.std.proofs.Common.{arith}
use Rattle.keyspace.specs.Plain.{held_of}
use Rattle.keyspace.proofs.Keyed.{seen, put-seen}
use Rattle.keyspace.proofs.PlainEntries.{plain}
use Rattle.keyspace.proofs.space.Keyspace.put_texts.Goals as goal

pub pairs-preserved : goal.pairs-preserved
pairs-preserved c =
    let old = c.pairs.self-inside.table in
    let s = c.in-Some.ensures.steps in
    let put = put-seen held_of c.in-Some.key.items old c.insert_in_room.new.table _
    c.insert_in_room.ensures.updates in
    grind (arith, plain, seen)
