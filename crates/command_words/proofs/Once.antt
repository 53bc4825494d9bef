-- Words in order of first occurrence, one word after the other.
use Rattle.std.proofs.Common.{◌≡◌, refl, ap, ℕ, List, [], ◌∷◌, ◌++◌, Bool, true, false, not, cond}
use Rattle.std.proofs.Common.{◌||◌, arith}
use Rattle.std.specs.List.{filter, list_any}
use Rattle.std.specs.Str.{bytes_eq}
use Rattle.std.proofs.lemmas.Map.Made.{alike_from_same}
use Rattle.std.proofs.lemmas.Slice.Eq.{bytes_eq-Decides}
use Rattle.command_words.specs.KeyLists.{each_once, with_key}

-- the word is none of those
abbrev pub is_fresh : List (List ℕ) → List ℕ → Bool
is_fresh met key = not (list_any (bytes_eq key) met)

kept : (p : List ℕ → Bool) (b : Bool) (x : List ℕ) (xs ys : List (List ℕ)) (d : Bool) →
    cond b (p x) false ≡ d → filter p xs ≡ ys → filter p (cond b (x ∷ xs) xs) ≡ cond d (x ∷ ys) ys
kept p b h xs ys d e f = grind arith

filter_both : (p q r : List ℕ → Bool) → ((x : List ℕ) → cond (q x) (p x) false ≡ r x) →
    (xs : List (List ℕ)) → filter p (filter q xs) ≡ filter r xs
filter_both p q r e [] = refl
filter_both p q r e (x ∷ xs) = kept p (q x) x _ _ (r x) (e x) (filter_both p q r e xs)

or_false : (b : Bool) → (b || false) ≡ b
or_false b = grind arith

any_more : (t : List ℕ → Bool) (xs : List (List ℕ)) (y : List ℕ) →
    list_any t (xs ++ y ∷ []) ≡ (list_any t xs || t y)
any_more t [] y = or_false (t y)
any_more t (x ∷ xs) y = grind (arith, any_more t xs y)

joined : (met : List (List ℕ)) (key : List ℕ) (ks : List (List ℕ)) →
    (met ++ key ∷ []) ++ ks ≡ met ++ key ∷ ks
joined [] key ks = refl
joined (m ∷ met) key ks = ap (λ l. m ∷ l) (joined met key ks)

stays : (b c : Bool) → (b ≡ true → c ≡ false) → cond (not b) c false ≡ c
stays b c e = grind arith

by_case : (b : Bool) (met : List (List ℕ)) (key : List ℕ) (ks : List (List ℕ)) →
    list_any (bytes_eq key) met ≡ b →
    cond b met (met ++ key ∷ []) ++ filter (is_fresh (cond b met (met ++ key ∷ []))) (each_once ks)
    ≡ met ++ filter (is_fresh met) (each_once (key ∷ ks))
by_case b met key ks e =
    grind (arith, joined, filter_both, any_more, stays, alike_from_same, bytes_eq-Decides)

pub next_key : (met : List (List ℕ)) (key : List ℕ) (ks : List (List ℕ)) →
    with_key key met ++ filter (is_fresh (with_key key met)) (each_once ks)
    ≡ met ++ filter (is_fresh met) (each_once (key ∷ ks))
next_key met key ks = by_case (list_any (bytes_eq key) met) met key ks refl

all_fresh : (ks : List (List ℕ)) → filter (is_fresh []) ks ≡ ks
all_fresh [] = refl
all_fresh (k ∷ ks) = ap (λ l. k ∷ l) (all_fresh ks)

pub none_met : (ks : List (List ℕ)) → [] ++ filter (is_fresh []) (each_once ks) ≡ each_once ks
none_met ks = all_fresh (each_once ks)
