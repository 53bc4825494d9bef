use Rattle.std.proofs.Common.{ap, ◌∙◌, map, Some}
use Rattle.command_words.specs.Hashes.{field_get, field_set}
use Rattle.keyspace.proofs.PlainEntries.{plain, lookup-field, insert-field, written-field}
use Rattle.keyspace.proofs.field_table.FieldTable.put.Goals as goal

pub returns-in-Some-clause-ok : goal.returns-in-Some-clause-ok
returns-in-Some-clause-ok c =
    let field = c.args.field.now in
    written-field field c.replace.new.dest c.in-Some.place.now c.self.inside.table.entries
    (c.get_mut.follows.lender c.replace.new.dest).entries
    ((c.get_mut.follows.holds c.replace.new.dest).0) c.in-Some.ensures.value
    ∙ (λ i. field_set field (c.replace.ensures.after i) (c.self.view_is i))

pub returns-in-Some-clause-had : goal.returns-in-Some-clause-had
returns-in-Some-clause-had c =
    let field = c.args.field.now in
    ap Some c.replace.ensures.value
    ∙ (c.in-Some.ensures.value
    ∙ (lookup-field field c.self.inside.table.entries ∙ ap (field_get field) c.self.view_is))

pub returns-in_ok-old-in-None-clause-ok : goal.returns-in_ok-old-in-None-clause-ok
returns-in_ok-old-in-None-clause-ok c =
    let old = ap (λ m. map plain m.entries) c.get_mut.follows.holds-at-none ∙ c.self.view_is in
    ap (map plain) c.in_ok-old-in-None.ensures.entries
    ∙ (insert-field c.in_ok-name-in-None.name c.args.value c.get_mut.follows.lender-at-none.entries
    ∙ (λ i. field_set (c.in_ok-name-in-None.ensures.items i) c.args.value (old i)))

pub returns-in_ok-old-in-None-clause-had : goal.returns-in_ok-old-in-None-clause-had
returns-in_ok-old-in-None-clause-had c =
    let old = ap (λ m. map plain m.entries) c.get_mut.follows.holds-at-none ∙ c.self.view_is in
    c.in_ok-old-in-None.ensures.old
    ∙ (lookup-field c.in_ok-name-in-None.name.items c.get_mut.follows.lender-at-none.entries
    ∙ (λ i. field_get (c.in_ok-name-in-None.ensures.items i) (old i)))
