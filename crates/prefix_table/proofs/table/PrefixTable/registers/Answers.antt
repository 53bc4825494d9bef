use Rattle.std.proofs.Common.{◌≡◌, ◌∙◌, sym, ap, subst, get_or, rules, arith}
use Rattle.std.specs.Prelude.{◌==◌}
use Rattle.std.specs.List.{list_any}
use Rattle.std.proofs.lemmas.List.{get_or_read}
use Rattle.id_set.specs.Ids.{Ascend}
use Rattle.prefix_table.specs.Table.{nothing}
use Rattle.prefix_table.specs.Withdrawals.{is_registered}
use Rattle.prefix_table.proofs.Withdrawals.{is_registered_not, is_registered_there}
use Rattle.prefix_table.proofs.Withdrawals.{registered_again}
use Rattle.prefix_table.proofs.table.PrefixTable.registers.Goals as goal
use Rattle.prefix_table.proofs.table.PrefixTable.registers.Goals.{After-contains}

-- the ids at the place
ids_are : (c : After-contains)
    → c.as_slice.result.now ≡ (get_or c.args.self.now c.in-Ok.place nothing).ids
ids_are c = grind (arith, get_or_read)

found : (c : After-contains)
    → c.contains.result ≡ is_registered c.args.id c.args.prefix.now c.args.self.now
found c =
    let among : c.contains.result ≡ list_any (λ id. id == c.args.id) c.as_slice.result.now =
    search rules in
    among ∙ ap (λ ids. list_any (λ id. id == c.args.id) ids) (ids_are c)
    ∙ sym (is_registered_there c.args.id c.args.prefix.now c.args.self.now c.in-Ok.place
    c.in-Ok.ensures)

pub returns-in-Ok-clause-is : goal.returns-in-Ok-clause-is
returns-in-Ok-clause-is c = found c

pub returns-in-Ok-clause-again : goal.returns-in-Ok-clause-again
returns-in-Ok-clause-again c = λ e.
    registered_again c.args.id c.args.prefix.now c.args.self.now c.in-Ok.place c.in-Ok.ensures
    (subst Ascend (ids_are c) c.as_slice.ensures.order) (sym (found c) ∙ e)

pub returns-in-Err-clause-is : goal.returns-in-Err-clause-is
returns-in-Err-clause-is c = grind (arith, is_registered_not)
