use Rattle.std.proofs.Common.{arith, ◌≡◌, ◌<◌, ◌+◌, ◌-◌, ◌/◌, true, length}
use Rattle.std.specs.Ordering.{is_lt}
use Rattle.std.proofs.lemmas.List.{get_or_read}
use Rattle.prefix_table.specs.Table.{byte_order, prefix_at}
use Rattle.prefix_table.proofs.Matching.{all_up_to}
use Rattle.prefix_table.proofs.table.PrefixTable.first_from.Goals as goal

pub halves-preserved-then-comes_before : goal.halves-preserved-then-comes_before
halves-preserved-then-comes_before c =
    let inv = c.halves.invariant in
    let rs = c.args.self.now in
    let n = c.halves.low + (c.halves.high - c.halves.low) / 2 in
    let lt : n < length rs = omega (arith, inv.1, c.halves-test.true) in
    let before : is_lt (byte_order (prefix_at rs n) c.args.prefix.now) ≡ true =
    grind (arith, get_or_read) in (
      omega (arith, c.halves-test.true),
      inv.1,
      grind (arith, all_up_to),
      inv.3,
    )
