use Rattle.std.proofs.Common.{◌≡◌, ◌++◌, ◌∷◌, [], ap, sym, subst, ◌∙◌, length, Some}
use Rattle.std.proofs.Common.{append-nil, drop, ◌+◌, List}
use Rattle.std.specs.Prelude.{option_to_list}
use Rattle.std.proofs.lemmas.List.{get_or_read}
use Rattle.track_table.specs.declared.aside.Parted.{Parted}
use Rattle.track_table.specs.Table.{TableState, without_key}
use Rattle.track_table.specs.Aside.{all_put, first_key}
use Rattle.track_table.specs.Order.{IsWhole}
use Rattle.track_table.specs.Places.{IsPlace, NoneBefore, nobody}
use Rattle.track_table.proofs.Asides.{behind_back, behind_rows, front_back, front_rows}
use Rattle.track_table.proofs.Asides.{whole_behind, whole_parted}
use Rattle.track_table.proofs.table.TrackTable.part.Goals as goal
use Rattle.track_table.proofs.table.TrackTable.part.Goals.{In_ok-next-in-Some, In_ok-row-in-None}

-- ---- a key among the oldest

at : (c : In_ok-next-in-Some) → IsPlace c.args.key.now c.self.inside.oldest.items
    (Some c.in-Some.place)
at c = subst (λ l. IsPlace c.args.key.now l (Some c.in-Some.place)) c.deref.ensures.value
    c.in-Some.ensures

pub invariant_of-self : goal.invariant_of-self
invariant_of-self c =
    let g = (goal.at.invariant_of-self c).In_ok-next-in-Some in
    subst (λ l. IsWhole c.self.inside.limit l c.self.inside.rows) (sym c.remove-row.ensures.items)
    (whole_parted c.self.inside.limit c.self.inside.oldest.items c.self.inside.rows
    c.self.invariant c.args.key.now c.in-Some.place (at g))

pub returns-in_ok-next-in-Some-clause-rows : goal.returns-in_ok-next-in-Some-clause-rows
returns-in_ok-next-in-Some-clause-rows c =
    let g = (goal.at.returns-in_ok-next-in-Some-clause-rows c).In_ok-next-in-Some in
    ap (λ l. l ++ c.self.inside.rows) c.remove-row.ensures.items
    ∙ front_rows c.self.inside.limit c.self.inside.oldest.items c.self.inside.rows
    c.self.invariant c.args.key.now c.in-Some.place (at g)
    ∙ ap (λ (t : TableState). without_key c.args.key.now t.rows) c.self.view_is

pub returns-in_ok-next-in-Some-clause-back : goal.returns-in_ok-next-in-Some-clause-back
returns-in_ok-next-in-Some-clause-back c =
    let g = (goal.at.returns-in_ok-next-in-Some-clause-back c).In_ok-next-in-Some in
    let xs = c.self.inside.oldest.items in
    let ys = c.self.inside.rows in
    let row = c.remove-row.result in
    let next = c.in_ok-next-in-Some.next in
    ap (λ l. all_put c.push_reserved.new.self.items (l ++ ys)) c.remove-row.ensures.items
    ∙ front_back c.self.inside.limit xs ys c.self.invariant
    c.args.key.now c.in-Some.place (at g) row next c.args.parted.now.items
    c.push_reserved.new.self.items
    (get_or_read xs c.in-Some.place row (at g).0 c.remove-row.ensures.value nobody)
    (c.in_ok-next-in-Some.ensures
    ∙ ap (λ l. first_key (drop (c.in-Some.place + 1) (l ++ ys))) c.deref-in-Some.ensures.value)
    (c.push_reserved.ensures.items
    ∙ ap (λ l. l ++ record { row = row; next = next } ∷ []) c.in_ok-reserve.ensures.items)
    ∙ ap (λ (t : TableState). all_put c.args.parted.now.items t.rows) c.self.view_is

-- ---- a key among the others

none : (c : In_ok-row-in-None)
    → NoneBefore c.args.key.now c.self.inside.oldest.items (length c.self.inside.oldest.items)
none c = subst (λ l. NoneBefore c.args.key.now l (length l)) c.deref.ensures.value
    c.in-None.ensures

pub invariant_of-self-in-Some-2 : goal.invariant_of-self-in-Some-2
invariant_of-self-in-Some-2 c =
    let g = (goal.at.invariant_of-self-in-Some-2 c).In_ok-row-in-None in
    whole_behind c.self.inside.limit c.self.inside.oldest.items c.self.inside.rows
    c.self.invariant c.args.key.now (none g) c.part.new.self
    c.in_ok-row-in-None.ensures.rows

pub invariant_of-self-in_default : goal.invariant_of-self-in_default
invariant_of-self-in_default c =
    let g = (goal.at.invariant_of-self-in_default c).In_ok-row-in-None in
    whole_behind c.self.inside.limit c.self.inside.oldest.items c.self.inside.rows
    c.self.invariant c.args.key.now (none g) c.part.new.self
    c.in_ok-row-in-None.ensures.rows

rows : (c : In_ok-row-in-None) → c.self.inside.oldest.items ++ c.part.new.self
    ≡ without_key c.args.key.now c.args.self.now.rows
rows c =
    behind_rows c.self.inside.limit c.self.inside.oldest.items c.self.inside.rows
    c.self.invariant c.args.key.now (none c) c.part.new.self
    c.in_ok-row-in-None.ensures.rows
    ∙ ap (λ (t : TableState). without_key c.args.key.now t.rows) c.self.view_is

back : (c : In_ok-row-in-None) (parted : List Parted)
    → parted ≡ c.args.parted.now.items ++ option_to_list c.in_ok-row-in-None.field-0
    → all_put parted (c.self.inside.oldest.items ++ c.part.new.self)
    ≡ all_put c.args.parted.now.items c.args.self.now.rows
back c parted went =
    behind_back c.self.inside.limit c.self.inside.oldest.items c.self.inside.rows
    c.self.invariant c.args.key.now (none c) c.part.new.self
    c.in_ok-row-in-None.ensures.rows c.args.parted.now.items parted
    (went ∙ ap (λ o. c.args.parted.now.items ++ option_to_list o)
    c.in_ok-row-in-None.ensures.parted)
    ∙ ap (λ (t : TableState). all_put c.args.parted.now.items t.rows) c.self.view_is

pub returns-in-Some-2-clause-rows : goal.returns-in-Some-2-clause-rows
returns-in-Some-2-clause-rows c =
    rows (goal.at.returns-in-Some-2-clause-rows c).In_ok-row-in-None

pub returns-in_default-clause-rows : goal.returns-in_default-clause-rows
returns-in_default-clause-rows c =
    rows (goal.at.returns-in_default-clause-rows c).In_ok-row-in-None

pub returns-in-Some-2-clause-back : goal.returns-in-Some-2-clause-back
returns-in-Some-2-clause-back c =
    back (goal.at.returns-in-Some-2-clause-back c).In_ok-row-in-None
    c.push_reserved-in-Some-2.new.self.items
    (c.push_reserved-in-Some-2.ensures.items
    ∙ (λ i. c.in_ok-reserve.ensures.items i ++ option_to_list (sym c.in-Some-2.is i)))

pub returns-in_default-clause-back : goal.returns-in_default-clause-back
returns-in_default-clause-back c =
    back (goal.at.returns-in_default-clause-back c).In_ok-row-in-None c.reserve.new.self.items
    (c.in_ok-reserve.ensures.items
    ∙ sym (append-nil c.args.parted.now.items)
    ∙ ap (λ o. c.args.parted.now.items ++ option_to_list o) (sym c.in_default.is))
