use Rattle.std.proofs.Common.{ap, sym, ◌∙◌, map, length, arith}
use Rattle.command_words.specs.Hashes.{set_all}
use Rattle.keyspace.proofs.PlainEntries.{plain, set_first}
use Rattle.keyspace.proofs.field_table.FieldTable.set_all.Goals as goal

pub pairs-preserved : goal.pairs-preserved
pairs-preserved c =
    let es = c.pairs.self-inside.table.entries in
    let s = c.in-Some.ensures.steps in
    record {
      done = set_first c.in-Some.field c.in-Some.value es c.insert_in_room.new.table.entries
          c.next.new.self.rest.items c.insert_in_room.ensures.entries
          ∙ (ap (λ r. set_all (map plain r) (map plain es)) (sym s.0) ∙ c.pairs.invariant.done);
      room = omega (arith, ap length s.0);
      counted = omega (arith, ap length s.0, s.1);
      grown = omega arith;
      began = c.pairs.invariant.began;
    }
