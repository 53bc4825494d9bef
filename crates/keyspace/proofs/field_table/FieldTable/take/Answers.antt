use Rattle.std.proofs.Common.{ap, sym, map, ◌∙◌}
use Rattle.command_words.specs.Hashes.{field_remove}
use Rattle.keyspace.proofs.PlainEntries.{plain, remove-field}
use Rattle.keyspace.proofs.Placing.{placed_again}
use Rattle.keyspace.proofs.field_table.FieldTable.take.Goals as goal

pub returns-in_err-place-clause-gone : goal.returns-in_err-place-clause-gone
returns-in_err-place-clause-gone c =
    let field = c.args.field.now in
    ap (map plain) c.shift_remove_full.ensures.entries
    ∙ (remove-field field c.self.inside.table.entries ∙ ap (field_remove field) c.self.view_is)

pub returns-clause-gone : goal.returns-clause-gone
returns-clause-gone c =
    let field = c.args.field.now in
    ap (map plain) c.shift_remove_full.ensures.entries
    ∙ (remove-field field c.self.inside.table.entries ∙ ap (field_remove field) c.self.view_is)

pub returns-clause-back : goal.returns-clause-back
returns-clause-back c =
    placed_again c.args.field.now c.self.inside.table.entries c.len-len.ensures.unique
    c.shift_remove_full.new.self.entries c.in_ok-place.place c.in_ok-place.field
    c.in_ok-place.value (sym c.in_ok-place.ensures.index) c.in_ok-place.ensures.key
    c.in_ok-place.ensures.value c.in_ok-place.ensures.entries
    ∙ c.self.view_is
