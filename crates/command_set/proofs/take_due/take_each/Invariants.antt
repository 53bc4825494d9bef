use Rattle.std.proofs.Common.{◌≡◌, ◌≤◌, ◌+◌, length, vec_capacity, vec_len}
use Rattle.command_words.specs.Keys.{remove_each}
use Rattle.command_set.specs.Priors.{priors_of, put_back}
use Rattle.command_set.proofs.take_due.take_each.Given as goal

abbrev pub invariant-keys : goal.invariant-keys
invariant-keys l = record {
  space : remove_each l.key-iterator.rest.items l.space
      ≡ remove_each l.fn.keys.items l.fn.space;
  back : put_back (priors_of l.kept.items) l.space
      ≡ put_back (priors_of l.fn.kept.items) l.fn.space;
  room : vec_len l.kept + length l.key-iterator.rest.items ≤ vec_capacity l.kept;
}
