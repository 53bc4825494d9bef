-- Look-ups in a list with `Vec<u8>` keys, and in the list of plain pairs that it is to contracts.
use Rattle.std.proofs.Common.{◌≡◌, ℕ, zero, suc, Bool, List, [], ◌∷◌, Option, option_map, take, Vec}
use Rattle.std.proofs.Common.{Global, map, refl, ap, ◌∙◌, arith}
use Rattle.std.proofs.lemmas.Grind.{common_steps}
use Rattle.std.specs.Map.{lookup, lookup_entry, remove_entry}
use Rattle.std.specs.Option.{option_map_or}

module _ {X : Type 0} where
  abbrev pub plain : Vec ℕ Global × X → List ℕ × X
  plain p = (p.0.items, p.1)

  pub entry_plain : (t : List ℕ → Bool) (es : List (Vec ℕ Global × X))
      → option_map plain (lookup_entry (λ k. t k.items) es) ≡ lookup_entry t (map plain es)
  entry_plain t [] = refl
  entry_plain t (e ∷ es) = grind (arith, common_steps, entry_plain t es)

  pub value_plain : (t : List ℕ → Bool) (es : List (Vec ℕ Global × X))
      → lookup (λ k. t k.items) es ≡ option_map (λ p. p.1) (lookup_entry t (map plain es))
  value_plain t [] = refl
  value_plain t (e ∷ es) = grind (arith, common_steps, value_plain t es)

  pub remove_plain : (t : List ℕ → Bool) (es : List (Vec ℕ Global × X))
      → map plain (remove_entry (λ k. t k.items) es) ≡ remove_entry t (map plain es)
  remove_plain t [] = refl
  remove_plain t (e ∷ es) = grind (arith, common_steps, remove_plain t es)

  first_plain : (o : Option (Vec ℕ Global × X))
      (rest es : List (Vec ℕ Global × X))
      → map plain (option_map_or (λ e. e ∷ rest) o es) ≡ option_map_or (λ e. e ∷ map plain rest)
      (option_map plain o) (map plain es)
  first_plain o rest es = grind arith

  pub promoted_plain : (t : List ℕ → Bool) (es : List (Vec ℕ Global × X))
      → map plain (option_map_or (λ e. e ∷ remove_entry (λ k. t k.items) es)
      (lookup_entry (λ k. t k.items) es) es)
      ≡ option_map_or (λ e. e ∷ remove_entry t (map plain es)) (lookup_entry t (map plain es))
      (map plain es)
  promoted_plain t es =
      first_plain (lookup_entry (λ k. t k.items) es) (remove_entry (λ k. t k.items) es) es
      ∙ ap (λ r. option_map_or (λ e. e ∷ r) (option_map plain (lookup_entry (λ k. t k.items) es))
      (map plain es)) (remove_plain t es)
      ∙ ap (λ o. option_map_or (λ e. e ∷ remove_entry t (map plain es)) o (map plain es))
      (entry_plain t es)

  pub take_plain : (n : ℕ) (es : List (Vec ℕ Global × X))
      → map plain (take n es) ≡ take n (map plain es)
  take_plain zero es = refl
  take_plain (suc n) [] = refl
  take_plain (suc n) (e ∷ es) = ap (λ r. plain e ∷ r) (take_plain n es)

  put_by : (t : List ℕ → Bool) (es : List (Vec ℕ Global × X)) (k : Vec ℕ Global)
      (v : X) (n : ℕ) (o : Option (Vec ℕ Global × X))
      → map plain (option_map_or (λ e. (e.0, v) ∷ remove_entry (λ y. t y.items) es) o
      ((k, v) ∷ take n es))
      ≡ option_map_or (λ e. (e.0, v) ∷ remove_entry t (map plain es)) (option_map plain o)
      ((k.items, v) ∷ take n (map plain es))
  put_by t es k v n o = grind (arith, take_plain, remove_plain)

  pub put_plain : (t : List ℕ → Bool) (es : List (Vec ℕ Global × X)) (k : Vec ℕ Global)
      (v : X) (n : ℕ)
      → map plain (option_map_or (λ e. (e.0, v) ∷ remove_entry (λ y. t y.items) es)
      (lookup_entry (λ y. t y.items) es) ((k, v) ∷ take n es))
      ≡ option_map_or (λ e. (e.0, v) ∷ remove_entry t (map plain es))
      (lookup_entry t (map plain es)) ((k.items, v) ∷ take n (map plain es))
  put_plain t es k v n = grind (arith, put_by, entry_plain)
