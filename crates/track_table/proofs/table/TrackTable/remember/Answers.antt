use Rattle.std.proofs.Common.{◌≡◌, ◌++◌, ◌∷◌, [], ap, sym, ◌∙◌, set, subst, arith, length, Some}
use Rattle.std.proofs.lemmas.List.{get_or_read}
use Rattle.track_table.specs.Table.{TableState, remembered}
use Rattle.track_table.specs.Order.{IsTable}
use Rattle.track_table.specs.Places.{IsPlace, NoneBefore}
use Rattle.track_table.proofs.Lookups.{remembered_at}
use Rattle.track_table.proofs.Orders.{table_remembered}
use Rattle.track_table.proofs.Parts.{remembered_behind, remembered_in, retired_rows, whole_front}
use Rattle.track_table.proofs.Parts.{whole_remembered, whole_retired}
use Rattle.track_table.proofs.table.TrackTable.remember.Goals as goal
use Rattle.track_table.proofs.table.TrackTable.remember.Goals.{In_ok-insert-in-Some}
use Rattle.track_table.proofs.table.TrackTable.remember.Goals.{In_ok-remember-in-None}

-- ---- a key among the oldest

in_place : (c : In_ok-insert-in-Some)
    → set c.self.inside.oldest.items c.in-Some.place
    (record { key = c.index_mut-row.result.now.key; holders = c.insert.new.self })
    ≡ remembered c.args.id c.args.key.now c.self.inside.oldest.items
in_place c = grind (arith, get_or_read, remembered_at)

all : (c : In_ok-insert-in-Some)
    → set c.self.inside.oldest.items c.in-Some.place
    (record { key = c.index_mut-row.result.now.key; holders = c.insert.new.self })
    ++ c.self.inside.rows
    ≡ remembered c.args.id c.args.key.now (c.self.inside.oldest.items ++ c.self.inside.rows)
all c =
    let at = subst (λ l. IsPlace c.args.key.now l (Some c.in-Some.place)) c.deref.ensures.value
    c.in-Some.ensures in
    ap (λ l. l ++ c.self.inside.rows) (in_place c)
    ∙ remembered_in c.self.inside.limit c.self.inside.oldest.items c.self.inside.rows
    c.self.invariant c.args.id c.in-Some.place c.args.key.now
    at.0 at.1

pub invariant_of-self-in-Some : goal.invariant_of-self-in-Some
invariant_of-self-in-Some c =
    whole_front c.self.inside.limit c.self.inside.oldest.items c.self.inside.rows
    c.self.invariant _
    (subst IsTable (sym (all c)) (table_remembered c.args.id c.args.key.now
    (c.self.inside.oldest.items ++ c.self.inside.rows) c.self.invariant.table))

pub returns-in_ok-insert-in-Some-clause-ok : goal.returns-in_ok-insert-in-Some-clause-ok
returns-in_ok-insert-in-Some-clause-ok c =
    all c ∙ ap (λ (t : TableState). remembered c.args.id c.args.key.now t.rows) c.self.view_is

-- ---- a key among the others, or a new one

none : (c : In_ok-remember-in-None)
    → NoneBefore c.args.key.now c.self.inside.oldest.items (length c.self.inside.oldest.items)
none c = subst (λ l. NoneBefore c.args.key.now l (length l)) c.deref.ensures.value
    c.in-None.ensures

pub invariant_of-self-in-Some-pop_first : goal.invariant_of-self-in-Some-pop_first
invariant_of-self-in-Some-pop_first c =
    let at = (goal.at.invariant_of-self-in-Some-pop_first c).In_ok-remember-in-None in
    let row = c.in-Some-pop_first.row in
    whole_retired c.self.inside.limit c.self.inside.oldest.items c.self.inside.rows
    c.self.invariant c.args.id c.args.key.now row
    c.push_reserved.new.self.items c.remember.new.self c.pop_first.new.self (none at)
    (c.push_reserved.ensures.items ∙ ap (λ l. l ++ row ∷ []) c.in_ok-reserve-in-None.ensures.items)
    c.in_ok-remember-in-None.ensures.ok c.in-Some-pop_first.ensures.rows

pub returns-in-Some-pop_first-clause-ok : goal.returns-in-Some-pop_first-clause-ok
returns-in-Some-pop_first-clause-ok c =
    let at = (goal.at.returns-in-Some-pop_first-clause-ok c).In_ok-remember-in-None in
    let row = c.in-Some-pop_first.row in
    retired_rows c.self.inside.limit c.self.inside.oldest.items c.self.inside.rows
    c.self.invariant c.args.id c.args.key.now row
    c.push_reserved.new.self.items c.remember.new.self c.pop_first.new.self (none at)
    (c.push_reserved.ensures.items ∙ ap (λ l. l ++ row ∷ []) c.in_ok-reserve-in-None.ensures.items)
    c.in_ok-remember-in-None.ensures.ok c.in-Some-pop_first.ensures.rows
    ∙ ap (λ (t : TableState). remembered c.args.id c.args.key.now t.rows) c.self.view_is

pub invariant_of-self-in_default : goal.invariant_of-self-in_default
invariant_of-self-in_default c =
    let at = (goal.at.invariant_of-self-in_default c).In_ok-remember-in-None in
    let same = c.in_default.ensures.rows in
    whole_remembered c.self.inside.limit c.self.inside.oldest.items c.self.inside.rows
    c.self.invariant c.args.id c.args.key.now
    c.reserve.new.self.items c.pop_first.new.self
    (none at) c.in_ok-reserve-in-None.ensures.items
    (sym same ∙ c.in_ok-remember-in-None.ensures.ok)
    (let empty = ap length (sym same ∙ c.in_default.ensures.none) in omega (arith, empty))

pub returns-in_default-clause-ok : goal.returns-in_default-clause-ok
returns-in_default-clause-ok c =
    let at = (goal.at.returns-in_default-clause-ok c).In_ok-remember-in-None in
    let new = sym c.in_default.ensures.rows ∙ c.in_ok-remember-in-None.ensures.ok in
    (λ i. c.in_ok-reserve-in-None.ensures.items i ++ new i)
    ∙ remembered_behind c.self.inside.limit c.self.inside.oldest.items c.self.inside.rows
    c.self.invariant c.args.id c.args.key.now (none at)
    ∙ ap (λ (t : TableState). remembered c.args.id c.args.key.now t.rows) c.self.view_is

pub invariant_of-self-else-len-self : goal.invariant_of-self-else-len-self
invariant_of-self-else-len-self c =
    let at = (goal.at.invariant_of-self-else-len-self c).In_ok-remember-in-None in
    whole_remembered c.self.inside.limit c.self.inside.oldest.items c.self.inside.rows
    c.self.invariant c.args.id c.args.key.now
    c.reserve.new.self.items c.remember.new.self
    (none at) c.in_ok-reserve-in-None.ensures.items
    c.in_ok-remember-in-None.ensures.ok
    (omega (arith, c.if-len-self.false, c.len.ensures.count))

pub returns-else-len-self-clause-ok : goal.returns-else-len-self-clause-ok
returns-else-len-self-clause-ok c =
    let at = (goal.at.returns-else-len-self-clause-ok c).In_ok-remember-in-None in
    (λ i. c.in_ok-reserve-in-None.ensures.items i ++ c.in_ok-remember-in-None.ensures.ok i)
    ∙ remembered_behind c.self.inside.limit c.self.inside.oldest.items c.self.inside.rows
    c.self.invariant c.args.id c.args.key.now (none at)
    ∙ ap (λ (t : TableState). remembered c.args.id c.args.key.now t.rows) c.self.view_is
