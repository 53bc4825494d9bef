use Rattle.std.proofs.Common.{◌≡◌, ◌++◌, drop}
use Rattle.std.specs.List.{filter}
use Rattle.command_words.specs.KeyLists.{each_once}
use Rattle.command_words.proofs.Once.{is_fresh}
use Rattle.command_words.proofs.read_keys.first_ones.Given as goal

abbrev pub invariant-loop-word : goal.invariant-loop-word
invariant-loop-word l =
    l.keys ++ filter (is_fresh l.keys) (each_once (drop l.word-index l.words)) ≡ each_once l.words
