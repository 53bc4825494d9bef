use Rattle.std.proofs.Common.{arith, ap, ◌∙◌, map}
use Rattle.std.proofs.Math.Bool.{not-not}
use Rattle.command_words.specs.Hashes.{field_set}
use Rattle.keyspace.proofs.PlainEntries.{plain, lookup-field, insert-field}
use Rattle.keyspace.proofs.field_table.FieldTable.set.Goals as goal

pub returns-clause-ok : goal.returns-clause-ok
returns-clause-ok c =
    ap (map plain) c.in_ok-old.ensures.entries
    ∙ (insert-field c.in_ok-name.name c.args.value c.self.inside.table.entries
    ∙ (λ i. field_set (c.in_ok-name.ensures.items i) c.args.value (c.self.view_is i)))

pub returns-clause-is_new : goal.returns-clause-is_new
returns-clause-is_new c =
    let found = lookup-field c.in_ok-name.name.items c.self.inside.table.entries in
    grind (arith, not-not)
