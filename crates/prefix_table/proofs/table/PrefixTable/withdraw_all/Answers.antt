use Rattle.std.proofs.Common.{◌<◌, ap, sym, ◌∙◌, arith, length, take, ◌+◌, ◌-◌, ◌≡◌}
use Rattle.prefix_table.specs.Withdrawals.{all_withdrawn}
use Rattle.prefix_table.proofs.Withdrawals.{last_withdrawn, one_more}
use Rattle.prefix_table.proofs.table.PrefixTable.withdraw_all.Goals as goal

pub prefixes-preserved : goal.prefixes-preserved
prefixes-preserved c =
    let prefixes = c.args.prefixes.now in
    let n = c.prefixes.left - 1 in
    let lt : n < length prefixes =
    omega (arith, c.prefixes-test.true, c.prefixes.invariant.within) in
    let next : n + 1 ≡ c.prefixes.left = omega (arith, c.prefixes-test.true) in
    let more = one_more prefixes n c.index-prefixes-left.result c.as_slice.result.now
    c.as_slice.ensures lt c.index-prefixes-left.is in record {
      within = omega (arith, c.prefixes.invariant.within);
      rows =
          ap (all_withdrawn c.args.id (take n prefixes)) c.withdraw.ensures
          ∙ sym (last_withdrawn c.args.id (take n prefixes) c.as_slice.result.now c.prefixes.self)
          ∙ sym (ap (λ ps. all_withdrawn c.args.id ps c.prefixes.self)
          (sym (ap (λ m. take m prefixes) next) ∙ more))
          ∙ c.prefixes.invariant.rows;
    }
