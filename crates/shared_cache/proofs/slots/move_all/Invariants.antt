use Rattle.std.proofs.Common.{◌≡◌, ◌++◌, ◌+◌, length, vec_len, vec_capacity}
use Rattle.shared_cache.proofs.slots.move_all.Given as goal

abbrev pub invariant-loop-entry : goal.invariant-loop-entry
invariant-loop-entry l = record {
  items : l.entries.items ≡ l.initial.entries.items ++ l.yielded;
  len : vec_len l.entries ≡ vec_len l.initial.entries + length l.yielded;
  capacity : vec_capacity l.entries ≡ vec_capacity l.initial.entries;
}
