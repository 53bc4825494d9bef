use Rattle.std.proofs.Common.{arith, ◌≡◌, get_or, set, sym, subst}
use Rattle.std.proofs.lemmas.List.{get_or_read}
use Rattle.prefix_table.specs.Table.{registered}
use Rattle.prefix_table.specs.Order.{IsTable}
use Rattle.prefix_table.proofs.Registering.{registered_there, registered_anew}
use Rattle.prefix_table.proofs.Orders.{table_registered}
use Rattle.prefix_table.proofs.table.PrefixTable.add.Goals as goal
use Rattle.prefix_table.proofs.table.PrefixTable.add.Goals.{In_ok-insert-in-Ok}
use Rattle.prefix_table.proofs.table.PrefixTable.add.Goals.{In_ok-insert-in-Err-2}

joined : (c : In_ok-insert-in-Ok)
    → set c.self.inside.rows.items c.in-Ok.place
    (record { prefix = c.index_mut-row.result.now.prefix; ids = c.insert.new.self })
    ≡ registered c.args.id c.args.prefix.now c.args.self.now
joined c = grind (arith, get_or_read, get_or, set, registered_there)

placed : (c : In_ok-insert-in-Err-2) → c.insert-in-Err-2.new.self.items
    ≡ registered c.args.id c.args.prefix.now c.args.self.now
placed c = grind (arith, registered_anew)

pub invariant_of-self-in-Ok : goal.invariant_of-self-in-Ok
invariant_of-self-in-Ok c = grind (arith, joined, table_registered)

pub invariant_of-self-in-Err : goal.invariant_of-self-in-Err
invariant_of-self-in-Err c =
    subst IsTable (sym (placed c)) (grind (arith, table_registered))

pub returns-in_ok-insert-in-Ok-clause-ok : goal.returns-in_ok-insert-in-Ok-clause-ok
returns-in_ok-insert-in-Ok-clause-ok c = joined c

pub returns-in_ok-insert-in-Err-2-clause-ok : goal.returns-in_ok-insert-in-Err-2-clause-ok
returns-in_ok-insert-in-Err-2-clause-ok c = placed c
