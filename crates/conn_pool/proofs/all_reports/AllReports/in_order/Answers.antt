use Rattle.std.proofs.Common.{◌≡◌, length, subst, sym}
use Rattle.std.specs.List.Sorted.{IsPermutation}
use Rattle.std.proofs.lemmas.List.Sorted.{length_permutation}
use Rattle.conn_pool.specs.Orders.{AreInOrder}
use Rattle.conn_pool.proofs.Sorting.{by_id}
use Rattle.conn_pool.proofs.all_reports.AllReports.in_order.Goals as goal

pub returns-clause-same : goal.returns-clause-same
returns-clause-same c =
    subst (IsPermutation c.args.self) (sym c.picked.ensures) (by_id c.args.self).1

pub returns-clause-length : goal.returns-clause-length
returns-clause-length c =
    subst (λ z. length z ≡ length c.args.self) (sym c.picked.ensures)
    (length_permutation c.args.self (by_id c.args.self).0 (by_id c.args.self).1)

pub returns-clause-order : goal.returns-clause-order
returns-clause-order c =
    subst AreInOrder (sym c.picked.ensures) (by_id c.args.self).2
