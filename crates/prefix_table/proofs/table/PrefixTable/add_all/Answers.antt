use Rattle.std.proofs.Common.{◌<◌, ap, sym, ◌∙◌, arith, length, take}
use Rattle.prefix_table.specs.Table.{registered, with_prefixes}
use Rattle.prefix_table.proofs.Withdrawals.{last_registered, one_more}
use Rattle.prefix_table.proofs.table.PrefixTable.add_all.Goals as goal

pub loop-number-preserved : goal.loop-number-preserved
loop-number-preserved c =
    let rows = c.args.self.now in
    let prefixes = c.args.prefixes.now in
    let k = c.loop-number.number in
    let lt : k < length prefixes = omega (arith, c.loop-number-test.true) in
    let more = one_more prefixes k c.index-prefixes-number.result c.as_slice.result.now
    c.as_slice.ensures lt c.index-prefixes-number.is in record {
      rows =
          c.in-Ok.ensures.ok
          ∙ ap (registered c.args.id c.as_slice.result.now) c.loop-number.invariant.rows
          ∙ sym (ap (λ ps. with_prefixes c.args.id ps rows) more
          ∙ last_registered c.args.id (take k prefixes) _ rows);
      back = c.in-Ok.ensures.back ∙ c.loop-number.invariant.back;
    }
