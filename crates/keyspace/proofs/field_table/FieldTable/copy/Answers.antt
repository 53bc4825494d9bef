use Rattle.std.proofs.Common.{ap, arith, sym, ◌∙◌, ◌≡◌, ◌≤◌, map, length, Some, []}
use Rattle.std.proofs.lemmas.List.{length-map}
use Rattle.std.proofs.Math.ListN.{drop_of_length-le}
use Rattle.command_words.specs.Hashes.{set_all}
use Rattle.keyspace.proofs.PlainEntries.{plain, next_copied, set_distinct}
use Rattle.keyspace.proofs.field_table.FieldTable.copy.Goals as goal

pub fields-preserved : goal.fields-preserved
fields-preserved c =
    let at = sym c.in-Some.ensures
    ∙ (λ i. Some (sym c.in_ok-name.ensures.items i, sym c.in_ok-copy.ensures i)) in
    record {
      done = next_copied c.in_ok-name.name c.in_ok-copy.field-0 c.fields.table.entries
          c.insert_in_room.new.table.entries c.args.self.now c.fields.place at
          c.insert_in_room.ensures.entries
          ∙ c.fields.invariant.done;
      room = omega (arith, c.insert_in_room.ensures.spare, c.fields.invariant.room);
    }

pub returns : goal.returns
returns c =
    let entries = c.self.inside.table.entries in
    let fields = c.args.self.now in
    let copied = c.fields.table.entries in
    let sized : length fields ≡ length entries =
    sym (ap length c.self.view_is) ∙ length-map entries plain in
    let past : length fields ≤ c.fields.place =
    omega (arith, c.fields-test.false, c.len-place-end.ensures.len, sized) in
    ap (λ r. set_all r (map plain copied)) (sym (drop_of_length-le fields past))
    ∙ (c.fields.invariant.done
    ∙ (ap (λ r. set_all r []) (sym c.self.view_is)
    ∙ (set_distinct entries c.len.ensures.unique ∙ c.self.view_is)))
