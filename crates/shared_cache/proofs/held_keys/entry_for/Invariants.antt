use Rattle.std.proofs.Common.{◌≡◌, drop}
use Rattle.command_words.specs.Queries.{key_of}
use Rattle.shared_cache.specs.Held.{held_for}
use Rattle.shared_cache.specs.KeyReads.{AreOfKey}
use Rattle.shared_cache.proofs.held_keys.entry_for.Given as goal

abbrev pub invariant-loop-slot : goal.invariant-loop-slot
invariant-loop-slot l = record {
  rest : held_for l.query (drop l.slot-index l.entries) ≡ held_for l.query l.entries;
  of_key : AreOfKey (key_of l.query) (drop l.slot-index l.entries);
}
