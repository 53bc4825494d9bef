use Rattle.std.proofs.Common.{ap, ◌∙◌}
use Rattle.command_words.specs.Hashes.{field_get}
use Rattle.keyspace.proofs.PlainEntries.{lookup-field}
use Rattle.keyspace.proofs.field_table.FieldTable.get.Goals as goal

pub returns : goal.returns
returns c =
    let field = c.args.field.now in
    c.get.ensures.value
    ∙ (lookup-field field c.self.inside.table.entries ∙ ap (field_get field) c.self.view_is)
