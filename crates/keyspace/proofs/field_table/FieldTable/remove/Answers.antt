use Rattle.std.proofs.Common.{ap, ◌∙◌, map}
use Rattle.std.specs.Option.{is_some}
use Rattle.command_words.specs.Hashes.{field_get, field_remove}
use Rattle.keyspace.proofs.PlainEntries.{plain, lookup-field, remove-field}
use Rattle.keyspace.proofs.field_table.FieldTable.remove.Goals as goal

pub returns-clause-gone : goal.returns-clause-gone
returns-clause-gone c =
    let field = c.args.field.now in
    ap (map plain) c.shift_remove.ensures.entries
    ∙ (remove-field field c.self.inside.table.entries ∙ ap (field_remove field) c.self.view_is)

pub returns-clause-was : goal.returns-clause-was
returns-clause-was c =
    let field = c.args.field.now in
    c.is_some.ensures
    ∙ ap is_some (c.shift_remove.ensures.value
    ∙ (lookup-field field c.self.inside.table.entries ∙ ap (field_get field) c.self.view_is))
