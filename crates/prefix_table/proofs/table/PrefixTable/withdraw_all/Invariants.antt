use Rattle.std.proofs.Common.{◌≡◌, ◌≤◌, length, take}
use Rattle.prefix_table.specs.Withdrawals.{all_withdrawn}
use Rattle.prefix_table.proofs.table.PrefixTable.withdraw_all.Given as goal

abbrev pub invariant-prefixes : goal.invariant-prefixes
invariant-prefixes l = record {
  within : l.left ≤ length l.prefixes;
  rows : all_withdrawn l.id (take l.left l.prefixes) l.self
      ≡ all_withdrawn l.id l.prefixes l.initial.self;
}

abbrev pub decreases-prefixes : goal.decreases-prefixes
decreases-prefixes l = l.left
