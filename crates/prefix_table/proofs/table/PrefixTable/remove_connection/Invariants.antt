use Rattle.std.proofs.Common.{◌≡◌, ◌++◌, map, take, drop}
use Rattle.prefix_table.specs.Table.{left_by}
use Rattle.prefix_table.proofs.table.PrefixTable.remove_connection.Given as goal

abbrev pub invariant-loop-row : goal.invariant-loop-row
invariant-loop-row l =
    l.row-items ≡ map (left_by l.id) (take l.row-index l.fn.self) ++ drop l.row-index l.fn.self
