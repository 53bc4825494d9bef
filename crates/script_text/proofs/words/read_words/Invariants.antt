use Rattle.std.proofs.Common.{◌≡◌, ◌++◌, drop, map}
use Rattle.std.specs.Option.{option_map}
use Rattle.script_text.specs.Words.{words_of}
use Rattle.script_text.proofs.words.read_words.Given as goal

-- the words so far stand before those of the texts that are left
abbrev pub invariant-loop-text : goal.invariant-loop-text
invariant-loop-text l =
    words_of (map (λ t. t.now) l.texts) ≡ option_map (λ more. l.words
    ++ more) (words_of (map (λ t. t.now) (drop l.text-index l.texts)))
