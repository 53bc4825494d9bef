-- Filters, for the code of the cache.
use Rattle.std.proofs.Common.{◌≡◌, ◌+◌, ◌<◌, ◌&&◌, ℕ, List, [], ◌∷◌, length, take}
use Rattle.std.proofs.Common.{get_or, Bool, true, false, not, ap, ◌∙◌, refl, arith}
use Rattle.std.specs.List.{filter, list_any}
use Rattle.std.specs.Str.{bytes_eq}
use Rattle.std.proofs.lemmas.List.{take_more}
use Rattle.std.proofs.lemmas.List.Folds.{list_any-append}
use Rattle.std.proofs.lemmas.Grind.{common_steps}

pub all_stay : {X : Type 0} → (xs : List X) → filter (λ x. true) xs ≡ xs
all_stay [] = refl
all_stay (x ∷ xs) = ap (λ l. x ∷ l) (all_stay xs)

pub none_stay : {X : Type 0} → (xs : List X) → filter (λ x. false) xs ≡ []
none_stay [] = refl
none_stay (x ∷ xs) = none_stay xs

pub filter_same_test : {X : Type 0} → (p q : X → Bool) (xs : List X) → ((x : X) → p x ≡ q x)
    → filter p xs ≡ filter q xs
filter_same_test p q [] e = refl
filter_same_test p q (x ∷ xs) e = grind (arith, filter_same_test p q xs e)

-- two filters are one
pub filter_twice : {X : Type 0} → (p q : X → Bool) (xs : List X)
    → filter q (filter p xs) ≡ filter (λ x. p x && q x) xs
filter_twice p q [] = refl
filter_twice p q (x ∷ xs) = grind (arith, common_steps, filter_twice p q xs)

pub filters_turn : {X : Type 0} → (p q : X → Bool) (xs : List X)
    → filter p (filter q xs) ≡ filter q (filter p xs)
filters_turn p q [] = refl
filters_turn p q (x ∷ xs) = grind (arith, common_steps, filters_turn p q xs)

-- one key more
pub without_more : {X : Type 0}
    → (key : X → List ℕ) (keys : List (List ℕ)) (i : ℕ) (k : List ℕ) (xs : List X) → i < length keys
    → k ≡ get_or keys i k
    → filter (λ x. not (bytes_eq (key x) k))
    (filter (λ x. not (list_any (bytes_eq (key x)) (take i keys))) xs)
    ≡ filter (λ x. not (list_any (bytes_eq (key x)) (take (i + 1) keys))) xs
without_more key keys i k xs lt e =
    filter_twice (λ x. not (list_any (bytes_eq (key x)) (take i keys)))
    (λ x. not (bytes_eq (key x) k)) xs
    ∙ filter_same_test
    (λ x. not (list_any (bytes_eq (key x)) (take i keys)) && not (bytes_eq (key x) k))
    (λ x. not (list_any (bytes_eq (key x)) (take (i + 1) keys))) xs
    (λ x. grind (arith, common_steps, list_any-append, take_more))
