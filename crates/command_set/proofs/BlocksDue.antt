-- The keys that are due in the blocks of an index, block by block.
use Rattle.std.proofs.Common.{arith, ◌≡◌, ◌<◌, ◌∙◌, refl, ap, ℕ, List, [], ◌∷◌, ◌++◌}
use Rattle.std.proofs.Common.{length, take, drop, append-nil}
use Rattle.std.proofs.Common.{◌+◌}
use Rattle.std.proofs.lemmas.List.{drop_more, map-append, take_more}
use Rattle.std.proofs.lemmas.List.Concat.{flat_map-append}
use Rattle.std.proofs.lemmas.List.Elements.{filter-append}
use Rattle.command_words.specs.Keys.{remove_each}
use Rattle.command_words.specs.Space.{Space}
use Rattle.expiry.specs.declared.index.Deadline.{Deadline}
use Rattle.expiry.specs.Blocks.{block_at, joined}
use Rattle.expiry.specs.Index.{due, is_due, keys_of}
use Rattle.command_set.specs.InStep.{due_keys}

removed_both : (xs ys : List (List ℕ)) (space : Space)
    → remove_each (xs ++ ys) space ≡ remove_each ys (remove_each xs space)
removed_both [] ys space = refl
removed_both (x ∷ xs) ys space = grind (arith, removed_both xs ys)

module _ (moment : ℕ) where
  both : (xs ys : List Deadline)
      → due_keys moment (xs ++ ys) ≡ due_keys moment xs ++ due_keys moment ys
  both xs ys =
      ap keys_of (filter-append (is_due moment) xs ys)
      ∙ map-append (λ d. d.key) (due moment xs) (due moment ys)

  module _ (bs : List (List Deadline)) (i : ℕ) (lt : i < length bs) where
    pub one_more : due_keys moment (joined (take (i + 1) bs))
        ≡ due_keys moment (joined (take i bs)) ++ due_keys moment (block_at bs i)
    one_more =
        ap (λ l. due_keys moment (joined l)) (take_more bs i [] lt)
        ∙ ap (due_keys moment) (flat_map-append (λ b. b) (take i bs) (block_at bs i ∷ [])
        ∙ ap (λ l. joined (take i bs) ++ l) (append-nil (block_at bs i)))
        ∙ both (joined (take i bs)) (block_at bs i)

    pub one_removed : (space : Space)
        → remove_each (due_keys moment (joined (drop i bs))) space
        ≡ remove_each (due_keys moment (joined (drop (i + 1) bs)))
        (remove_each (due_keys moment (block_at bs i)) space)
    one_removed space =
        ap (λ l. remove_each (due_keys moment (joined l)) space) (drop_more bs i [] lt)
        ∙ ap (λ l. remove_each l space) (both (block_at bs i) (joined (drop (i + 1) bs)))
        ∙ removed_both (due_keys moment (block_at bs i))
        (due_keys moment (joined (drop (i + 1) bs))) space
