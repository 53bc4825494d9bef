use Rattle.std.proofs.Common.{arith, ap, sym, map, ◌∙◌}
use Rattle.keyspace.specs.Places.{all_placed, placed_back}
use Rattle.keyspace.proofs.PlainEntries.{plain}
use Rattle.keyspace.proofs.Placing.{placed_last}
use Rattle.keyspace.proofs.field_table.FieldTable.put_back.Goals as goal

pub taken-preserved : goal.taken-preserved
taken-preserved c =
    let rest = c.pop.new.self.items in
    let es = c.taken.self-inside.table.entries in
    record {
      done = ap (placed_back (all_placed rest)) c.put_in_room.ensures.entries
          ∙ (sym (placed_last rest c.in-Some.placed (map plain es))
          ∙ (ap (λ all. placed_back (all_placed all) (map plain es)) (sym c.in-Some.ensures.items)
          ∙ c.taken.invariant.done));
      room = grind arith;
    }
