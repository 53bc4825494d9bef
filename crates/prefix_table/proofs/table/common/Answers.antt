use Rattle.std.proofs.Common.{arith, drop, ap}
use Rattle.std.proofs.lemmas.List.{drop_all}
use Rattle.prefix_table.specs.Fronts.{common}
use Rattle.prefix_table.proofs.Fronts.{common_none}
use Rattle.prefix_table.proofs.table.common.Goals as goal

pub returns-else-count-b : goal.returns-else-count-b
returns-else-count-b c =
    let a = c.args.a.now in
    let b = c.args.b.now in
    let n = c.bytes.count in
    omega (
      arith,
      c.bytes.invariant.2,
      ap (common (drop n a)) (drop_all n b c.if-count-b.false),
      common_none (drop n a),
    )
