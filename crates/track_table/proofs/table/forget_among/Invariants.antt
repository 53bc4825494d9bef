use Rattle.std.proofs.Common.{◌≡◌, ◌++◌, map, take, drop}
use Rattle.track_table.specs.Table.{freed_of}
use Rattle.track_table.proofs.table.forget_among.Given as goal

abbrev pub invariant-loop-row : goal.invariant-loop-row
invariant-loop-row l =
    l.row-items ≡ map (freed_of l.id) (take l.row-index l.fn.rows.items)
    ++ drop l.row-index l.fn.rows.items
