use Rattle.std.proofs.Common.{arith}
use Rattle.shared_cache.proofs.KeyCode.{first_there, without_first}
use Rattle.shared_cache.proofs.KeyReads.{more_of_key}
use Rattle.shared_cache.proofs.held_keys.HeldKeys.put_behind.Goals as goal

pub push_reserved-requires : goal.push_reserved-requires
push_reserved-requires c = c.move_to.ensures.room

pub move_to-requires : goal.move_to-requires
move_to-requires c = grind arith

pub give_entries-requires-clause-there : goal.give_entries-requires-clause-there
give_entries-requires-clause-there c = grind (arith, first_there)

pub returns-clause-ok : goal.returns-clause-ok
returns-clause-ok c = grind (arith, without_first)

pub give_entries-requires-clause-of_key : goal.give_entries-requires-clause-of_key
give_entries-requires-clause-of_key c = grind (arith, more_of_key)
