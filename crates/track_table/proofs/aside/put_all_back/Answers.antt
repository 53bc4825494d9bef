use Rattle.std.proofs.Common.{[], ◌∷◌, ap, sym, ◌∙◌, arith}
use Rattle.track_table.specs.Aside.{all_put}
use Rattle.track_table.proofs.Asides.{all_append}
use Rattle.track_table.proofs.aside.put_all_back.Goals as goal

pub rows-preserved : goal.rows-preserved
rows-preserved c = record {
  rows =
      ap (all_put c.pop.new.self.items) c.put_back.ensures.rows
      ∙ sym (all_append c.pop.new.self.items (c.in-Some.row ∷ []) c.rows.rows.items)
      ∙ ap (λ l. all_put l c.rows.rows.items) (sym c.in-Some.ensures.items)
      ∙ c.rows.invariant.rows;
  room = omega (
    arith,
    c.put_back.ensures.len,
    c.put_back.ensures.capacity,
    c.in-Some.ensures.len,
    c.rows.invariant.room,
  );
}
