use Rattle.std.proofs.Common.{◌≡◌, sym, ap, ◌∙◌, ◌++◌, subst, get_or, set, remove, List, Bool}
use Rattle.std.proofs.Common.{false}
use Rattle.std.proofs.Common.{true, arith, Some, length}
use Rattle.std.specs.Prelude.{not}
use Rattle.std.proofs.lemmas.List.{get_or_read}
use Rattle.track_table.specs.declared.table.Held.{Held}
use Rattle.track_table.specs.Table.{TableState, freed_of, is_held, released}
use Rattle.track_table.specs.Places.{nobody, IsPlace, NoneBefore}
use Rattle.track_table.specs.Order.{IsTable}
use Rattle.track_table.proofs.Parts.{released_behind, released_in, whole_front, whole_released}
use Rattle.track_table.proofs.Releases.{released_kept, released_gone, table_released}
use Rattle.track_table.proofs.table.TrackTable.release.Goals as goal
use Rattle.track_table.proofs.table.TrackTable.release.Goals.{After-is_empty}

-- the row once the connection is out of it
freed : (c : After-is_empty)
    → record { key = c.index_mut-row.result.now.key; holders = c.remove.new.self }
    ≡ freed_of c.args.id (get_or c.self.inside.oldest.items c.in-Some.place nobody)
freed c = grind (arith, get_or_read)

-- whether the row is held still
held : (c : After-is_empty) (b : Bool) → c.is_empty.result ≡ b
    → is_held (freed_of c.args.id (get_or c.self.inside.oldest.items c.in-Some.place nobody))
    ≡ not b
held c b e = grind (arith, freed)

-- the rows where it is, and where it is not
left : (c : After-is_empty) → c.is_empty.result ≡ false
    → set c.self.inside.oldest.items c.in-Some.place
    (record { key = c.index_mut-row.result.now.key; holders = c.remove.new.self })
    ≡ released c.args.id c.args.key.now c.self.inside.oldest.items
left c none = grind (arith, freed, released_kept, held)

gone : (c : After-is_empty) → c.is_empty.result ≡ true → (items : List Held)
    → items ≡ remove (set c.self.inside.oldest.items c.in-Some.place
    (record { key = c.index_mut-row.result.now.key; holders = c.remove.new.self }))
    c.in-Some.place
    → items ≡ released c.args.id c.args.key.now c.self.inside.oldest.items
gone c none items is = grind (arith, remove, released_gone, held)

-- and so is the table
all : (c : After-is_empty) → (items : List Held)
    → items ≡ released c.args.id c.args.key.now c.self.inside.oldest.items
    → items ++ c.self.inside.rows
    ≡ released c.args.id c.args.key.now (c.self.inside.oldest.items ++ c.self.inside.rows)
all c items new =
    let at = subst (λ l. IsPlace c.args.key.now l (Some c.in-Some.place)) c.deref.ensures.value
    c.in-Some.ensures in
    ap (λ l. l ++ c.self.inside.rows) new
    ∙ released_in c.self.inside.limit c.self.inside.oldest.items c.self.inside.rows
    c.self.invariant c.args.id c.in-Some.place c.args.key.now
    at.0 at.1

whole : (c : After-is_empty) → (items : List Held)
    → items ≡ released c.args.id c.args.key.now c.self.inside.oldest.items
    → IsTable (items ++ c.self.inside.rows)
whole c items new = subst IsTable (sym (all c items new))
    (table_released c.args.id c.args.key.now (c.self.inside.oldest.items ++ c.self.inside.rows)
    c.self.invariant.table)

pub invariant_of-self : goal.invariant_of-self
invariant_of-self c =
    let at = (goal.at.invariant_of-self c).After-is_empty in
    let items = c.remove-then-is_empty.new.self.items in
    whole_front c.self.inside.limit c.self.inside.oldest.items c.self.inside.rows
    c.self.invariant items
    (whole at items (gone at c.if-is_empty.true items c.remove-then-is_empty.ensures.items))

pub invariant_of-self-else-is_empty : goal.invariant_of-self-else-is_empty
invariant_of-self-else-is_empty c =
    let at = (goal.at.invariant_of-self-else-is_empty c).After-is_empty in
    whole_front c.self.inside.limit c.self.inside.oldest.items c.self.inside.rows
    c.self.invariant _ (whole at _ (left at
    c.if-is_empty.false))

pub invariant_of-self-in-None : goal.invariant_of-self-in-None
invariant_of-self-in-None c =
    whole_released c.self.inside.limit c.self.inside.oldest.items c.self.inside.rows
    c.self.invariant c.args.id c.args.key.now c.release.new.self
    (subst (λ l. NoneBefore c.args.key.now l (length l)) c.deref.ensures.value c.in-None.ensures)
    c.release.ensures

pub returns-then-is_empty-clause-rows : goal.returns-then-is_empty-clause-rows
returns-then-is_empty-clause-rows c =
    let at = (goal.at.returns-then-is_empty-clause-rows c).After-is_empty in
    let items = c.remove-then-is_empty.new.self.items in
    all at items (gone at c.if-is_empty.true items c.remove-then-is_empty.ensures.items)
    ∙ ap (λ (t : TableState). released c.args.id c.args.key.now t.rows) c.self.view_is

pub returns-else-is_empty-clause-rows : goal.returns-else-is_empty-clause-rows
returns-else-is_empty-clause-rows c =
    let at = (goal.at.returns-else-is_empty-clause-rows c).After-is_empty in
    all at _ (left at c.if-is_empty.false)
    ∙ ap (λ (t : TableState). released c.args.id c.args.key.now t.rows) c.self.view_is

pub returns-in-None-clause-rows : goal.returns-in-None-clause-rows
returns-in-None-clause-rows c =
    ap (λ l. c.self.inside.oldest.items ++ l) c.release.ensures
    ∙ released_behind c.self.inside.limit c.self.inside.oldest.items c.self.inside.rows
    c.self.invariant c.args.id c.args.key.now
    (subst (λ l. NoneBefore c.args.key.now l (length l)) c.deref.ensures.value c.in-None.ensures)
    ∙ ap (λ (t : TableState). released c.args.id c.args.key.now t.rows) c.self.view_is
