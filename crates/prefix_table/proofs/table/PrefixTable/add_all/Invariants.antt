use Rattle.std.proofs.Common.{◌≡◌, take}
use Rattle.prefix_table.specs.Table.{with_prefixes}
use Rattle.prefix_table.specs.Withdrawals.{all_withdrawn}
use Rattle.prefix_table.proofs.table.PrefixTable.add_all.Given as goal

abbrev pub invariant-loop-number : goal.invariant-loop-number
invariant-loop-number l = record {
  rows : l.self ≡ with_prefixes l.id (take l.number l.prefixes) l.initial.self;
  back : all_withdrawn l.id l.new l.self ≡ l.initial.self;
}
