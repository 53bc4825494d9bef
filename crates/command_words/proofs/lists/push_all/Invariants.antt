use Rattle.std.proofs.Common.{◌≡◌, ◌++◌, take}
use Rattle.command_words.proofs.lists.push_all.Given as goal

abbrev pub invariant-loop-word : goal.invariant-loop-word
invariant-loop-word l = l.out ≡ l.initial.out ++ take l.word-index l.words
