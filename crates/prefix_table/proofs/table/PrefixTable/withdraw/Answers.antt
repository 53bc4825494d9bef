use Rattle.std.proofs.Common.{◌≡◌, sym, subst, get_or, set, remove, Bool, true, false}
use Rattle.std.proofs.Common.{List, arith}
use Rattle.std.specs.Prelude.{not}
use Rattle.std.proofs.lemmas.List.{get_or_read}
use Rattle.prefix_table.specs.declared.table.Registration.{Registration}
use Rattle.prefix_table.specs.Table.{is_held, left_by, nothing}
use Rattle.prefix_table.specs.Order.{IsTable}
use Rattle.prefix_table.specs.Withdrawals.{withdrawn}
use Rattle.prefix_table.proofs.Withdrawals.{table_withdrawn, withdrawn_gone, withdrawn_kept}
use Rattle.prefix_table.proofs.Withdrawals.{withdrawn_none}
use Rattle.prefix_table.proofs.table.PrefixTable.withdraw.Goals as goal
use Rattle.prefix_table.proofs.table.PrefixTable.withdraw.Goals.{After-is_empty}

-- the row once the connection is out of it
left : (c : After-is_empty)
    → record { prefix = c.index_mut-row.result.now.prefix; ids = c.remove.new.self }
    ≡ left_by c.args.id (get_or c.args.self.now c.in-Ok.place nothing)
left c = grind (arith, get_or_read)

-- whether the row has a connection still
held : (c : After-is_empty) (b : Bool) → c.is_empty.result ≡ b
    → is_held (left_by c.args.id (get_or c.args.self.now c.in-Ok.place nothing)) ≡ not b
held c b e = grind (arith, left)

-- the rows with it, and without it
stays : (c : After-is_empty) → c.is_empty.result ≡ false
    → set c.self.inside.rows.items c.in-Ok.place
    (record { prefix = c.index_mut-row.result.now.prefix; ids = c.remove.new.self })
    ≡ withdrawn c.args.id c.args.prefix.now c.args.self.now
stays c some = grind (arith, left, withdrawn_kept, held)

goes : (c : After-is_empty) → c.is_empty.result ≡ true → (items : List Registration)
    → items ≡ remove (set c.self.inside.rows.items c.in-Ok.place
    (record { prefix = c.index_mut-row.result.now.prefix; ids = c.remove.new.self })) c.in-Ok.place
    → items ≡ withdrawn c.args.id c.args.prefix.now c.args.self.now
goes c none items is = grind (arith, remove, withdrawn_gone, held)

pub invariant_of-self : goal.invariant_of-self
invariant_of-self c =
    let at = (goal.at.invariant_of-self c).After-is_empty in
    subst IsTable (sym (goes at c.if-is_empty.true _ c.remove-then-is_empty.ensures.items))
    (grind (arith, table_withdrawn))

pub invariant_of-self-else-is_empty : goal.invariant_of-self-else-is_empty
invariant_of-self-else-is_empty c =
    let at = (goal.at.invariant_of-self-else-is_empty c).After-is_empty in
    subst IsTable (sym (stays at c.if-is_empty.false)) (grind (arith, table_withdrawn))

pub returns-then-is_empty : goal.returns-then-is_empty
returns-then-is_empty c =
    let at = (goal.at.returns-then-is_empty c).After-is_empty in
    goes at c.if-is_empty.true _ c.remove-then-is_empty.ensures.items

pub returns-else-is_empty : goal.returns-else-is_empty
returns-else-is_empty c =
    let at = (goal.at.returns-else-is_empty c).After-is_empty in stays at c.if-is_empty.false

pub returns-in_default : goal.returns-in_default
returns-in_default c = grind (arith, withdrawn_none)
