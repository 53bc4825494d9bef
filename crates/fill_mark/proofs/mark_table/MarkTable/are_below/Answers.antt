use Rattle.fill_mark.proofs.Amongst.{below_as}
use Rattle.fill_mark.proofs.mark_table.MarkTable.are_below.Goals as goal

pub returns : goal.returns
returns c = below_as c.args.number _ _ c.self.view_is c.are_below.result c.are_below.ensures
