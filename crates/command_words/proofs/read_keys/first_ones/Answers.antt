use Rattle.std.proofs.Common.{ap, sym, ◌∙◌, ◌∷◌, ◌++◌, List, ℕ, drop, ◌+◌, arith}
use Rattle.std.specs.List.{filter}
use Rattle.std.proofs.lemmas.List.{at_drop_more}
use Rattle.command_words.specs.KeyLists.{each_once}
use Rattle.command_words.proofs.Once.{is_fresh, next_key, none_met}
use Rattle.command_words.proofs.read_keys.first_ones.Goals as goal

abbrev left : List (List ℕ) → List (List ℕ) → List (List ℕ)
left met ks = met ++ filter (is_fresh met) (each_once ks)

pub loop-word-init : goal.loop-word-init
loop-word-init c = grind (arith, none_met)

pub loop-word-preserved : goal.loop-word-preserved
loop-word-preserved c =
    let after = drop (c.loop-word.word-index + 1) c.args.words.now in
    ap (λ met. left met after) c.in_ok-push_once.ensures
    ∙ next_key c.loop-word.keys c.word-item.result after
    ∙ ap (λ key. left c.loop-word.keys (key ∷ after)) c.word-item.is
    ∙ sym (at_drop_more (left c.loop-word.keys) c.args.words.now c.loop-word.word-index
    c.word-item.result c.loop-word-test.true)
    ∙ c.loop-word.invariant
