use Rattle.std.proofs.Common.{arith}
use Rattle.fill_mark.proofs.Indexed.{indexed_void, void_indexed, indexed_as}
use Rattle.fill_mark.proofs.mark_table.MarkTable.void_key.Goals as goal

pub invariant_of-self : goal.invariant_of-self
invariant_of-self c =
    let key = c.args.key.now in
    indexed_as _ _ _ _ c.remove.ensures
    (grind (arith, void_indexed))
    (indexed_void key c.self.inside.keys c.self.inside.marks c.self.invariant)

pub returns : goal.returns
returns c = grind (arith, void_indexed)
