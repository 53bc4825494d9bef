-- Fields that are set, and then those of their names as they were.
use Rattle.std.proofs.Common.{arith, ◌≡◌, ◌∙◌, refl, sym, ap, ℕ, List, [], ◌∷◌, Bool, true, false}
use Rattle.std.proofs.Common.{Option, None, Some, map, cond}
use Rattle.std.specs.Prelude.{◌||◌}
use Rattle.std.specs.List.{list_any}
use Rattle.std.specs.Option.{is_some}
use Rattle.std.specs.Str.{bytes_eq}
use Rattle.std.proofs.lemmas.Slice.Eq.{bytes_eq-Decides}
use Rattle.command_words.specs.Hashes.{Pairs, field_get, field_set, field_remove, set_all}
use Rattle.command_set.specs.Priors.{field_back}

abbrev pub there : List ℕ → Pairs → Bool
there name fs = is_some (field_get name fs)

-- the fields of these names are as in the first list, from right to left
abbrev pub named_back : List (List ℕ) → Pairs → Pairs → Pairs
named_back [] fs gs = gs
named_back (name ∷ names) fs gs = field_back name (field_get name fs) (named_back names fs gs)

same_bytes : (a b : List ℕ) → bytes_eq a b ≡ true → a ≡ b
same_bytes a b e = (bytes_eq-Decides a b).0 e

itself : (a : List ℕ) → bytes_eq a a ≡ true
itself a = (bytes_eq-Decides a a).1 refl

turned : (a b : List ℕ) → bytes_eq a b ≡ false → bytes_eq b a ≡ false
turned a b apart = by (bytes_eq b a) refl
  where
    by : (c : Bool) → bytes_eq b a ≡ c → c ≡ false
    by false e = refl
    by true e =
        absurd (let no : false ≡ true =
        sym apart ∙ (bytes_eq-Decides a b).1 (sym (same_bytes b a e)) in cc)

-- what is equal to one of two that differ is not equal to the other
both : (a b c : List ℕ) → bytes_eq a b ≡ false → bytes_eq a c ≡ true → bytes_eq b c ≡ false
both a b c apart same =
    turned c b (ap (λ x. bytes_eq x b) (sym (same_bytes a c same)) ∙ apart)

-- ---- one field

-- a field with what it has
own_first : (n : List ℕ) (f : List ℕ × List ℕ) (fs : Pairs)
    → (rest : field_back n (field_get n fs) fs ≡ fs) (b : Bool) → bytes_eq n f.0 ≡ b
    → (o : Option (List ℕ)) → field_get n fs ≡ o
    → field_back n (cond b (Some f.1) o) (f ∷ fs) ≡ f ∷ fs
own_first n f fs rest true is o at = ap (λ b. cond b ((f.0, f.1) ∷ fs) (f ∷ field_set n f.1 fs)) is
own_first n f fs rest false is None at =
    ap (λ b. cond b fs (f ∷ field_remove n fs)) is
    ∙ ap (λ r. f ∷ r) (ap (λ o. field_back n o fs) (sym at) ∙ rest)
own_first n f fs rest false is (Some v) at =
    ap (λ b. cond b ((f.0, v) ∷ fs) (f ∷ field_set n v fs)) is
    ∙ ap (λ r. f ∷ r) (ap (λ o. field_back n o fs) (sym at) ∙ rest)

pub same_set : (n : List ℕ) (fs : Pairs) → field_back n (field_get n fs) fs ≡ fs
same_set n [] = refl
same_set n (f ∷ fs) =
    own_first n f fs (same_set n fs) (bytes_eq n f.0) refl (field_get n fs) refl

-- a field that is set first makes no difference
over_set : (n v w : List ℕ) (g : Pairs) → field_set n w (field_set n v g) ≡ field_set n w g
over_set n v w [] = ap (λ b. cond b ((n, w) ∷ []) ((n, v) ∷ (n, w) ∷ [])) (itself n)
over_set n v w (f ∷ fs) = grind (arith, over_set n v w fs)

over_remove : (n v : List ℕ) (g : Pairs) → field_remove n (field_set n v g) ≡ field_remove n g
over_remove n v [] = ap (λ b. cond b [] ((n, v) ∷ [])) (itself n)
over_remove n v (f ∷ fs) = grind (arith, over_remove n v fs)

over : (n v : List ℕ) (o : Option (List ℕ)) (g : Pairs)
    → field_back n o (field_set n v g) ≡ field_back n o g
over n v None g = over_remove n v g
over n v (Some w) g = over_set n v w g

-- a field and another one that is there
beside_set : (m w n v : List ℕ) (g : Pairs) → bytes_eq m n ≡ false → there m g ≡ true
    → field_set m w (field_set n v g) ≡ field_set n v (field_set m w g)
beside_set m w n v [] apart is = absurd cc
beside_set m w n v (f ∷ fs) apart is =
    grind (arith, both, turned, same_bytes, beside_set m w n v fs apart)

beside_remove : (m n v : List ℕ) (g : Pairs) → bytes_eq m n ≡ false
    → field_remove m (field_set n v g) ≡ field_set n v (field_remove m g)
beside_remove m n v [] apart = ap (λ b. cond b [] ((n, v) ∷ [])) apart
beside_remove m n v (f ∷ fs) apart =
    grind (arith, both, turned, same_bytes, beside_remove m n v fs apart)

beside : (m : List ℕ) (o : Option (List ℕ)) (n v : List ℕ) (g : Pairs) → bytes_eq m n ≡ false
    → (is_some o ≡ true → there m g ≡ true)
    → field_back m o (field_set n v g) ≡ field_set n v (field_back m o g)
beside m None n v g apart is = beside_remove m n v g apart
beside m (Some w) n v g apart is = beside_set m w n v g apart (is refl)

-- ---- which fields are there

set_there : (q n v : List ℕ) (fs : Pairs)
    → there q (field_set n v fs) ≡ (bytes_eq q n || there q fs)
set_there q n v [] = grind arith
set_there q n v (f ∷ fs) = grind (arith, same_bytes, set_there q n v fs)

remove_there : (q n : List ℕ) (fs : Pairs) → bytes_eq q n ≡ false
    → there q (field_remove n fs) ≡ there q fs
remove_there q n [] apart = refl
remove_there q n (f ∷ fs) apart = grind (arith, both, turned, same_bytes, remove_there q n fs apart)

-- the fields of the first list are in the second one
abbrev pub Within : Pairs → Pairs → Type 0
Within fs gs = (q : List ℕ) → there q fs ≡ true → there q gs ≡ true

within_set : (fs gs : Pairs) (n v : List ℕ) → Within fs gs → Within fs (field_set n v gs)
within_set fs gs n v within q is = grind (arith, set_there)

step_within : (n : List ℕ) (fs gs : Pairs) (q : List ℕ) → there q fs ≡ true
    → there q gs ≡ true → (o : Option (List ℕ)) → field_get n fs ≡ o
    → there q (field_back n o gs) ≡ true
step_within n fs gs q is rest None at =
    remove_there q n gs (other (bytes_eq q n) refl) ∙ rest
  where
    other : (b : Bool) → bytes_eq q n ≡ b → b ≡ false
    other false e = refl
    other true e =
        absurd (let no : false ≡ true =
        sym (ap is_some at) ∙ (ap (λ k. there k fs) (sym (same_bytes q n e)) ∙ is) in cc)
step_within n fs gs q is rest (Some v) at =
    set_there q n v gs ∙ (ap (λ b. bytes_eq q n || b) rest ∙ or_true (bytes_eq q n))
  where
    or_true : (b : Bool) → (b || true) ≡ true
    or_true true = refl
    or_true false = refl

within_back : (names : List (List ℕ)) (fs gs : Pairs) → Within fs gs
    → Within fs (named_back names fs gs)
within_back [] fs gs within q is = within q is
within_back (n ∷ ns) fs gs within q is =
    step_within n fs (named_back ns fs gs) q is (within_back ns fs gs within q is)
    (field_get n fs) refl

-- ---- the fields of names

-- one of the names that is set first makes no difference, and another one stays set
past : (names : List (List ℕ)) (fs gs : Pairs) (n v : List ℕ) → Within fs gs
    → list_any (bytes_eq n) names ≡ false
    → named_back names fs (field_set n v gs) ≡ field_set n v (named_back names fs gs)
past [] fs gs n v within out = refl
past (m ∷ ms) fs gs n v within out =
    ap (field_back m (field_get m fs)) (past ms fs gs n v within (right (bytes_eq n m) _ out))
    ∙ beside m (field_get m fs) n v (named_back ms fs gs) (turned n m (left (bytes_eq n m) _ out))
    (λ is. within_back ms fs gs within m is)
  where
    left : (a b : Bool) → (a || b) ≡ false → a ≡ false
    left a b e = grind arith

    right : (a b : Bool) → (a || b) ≡ false → b ≡ false
    right a b e = grind arith

among_first : (m : List ℕ) (ms : List (List ℕ)) (fs gs : Pairs) (n v : List ℕ) → Within fs gs
    → (bytes_eq n m || list_any (bytes_eq n) ms) ≡ true
    → (list_any (bytes_eq n) ms ≡ true
    → named_back ms fs (field_set n v gs) ≡ named_back ms fs gs)
    → (b : Bool) → list_any (bytes_eq n) ms ≡ b
    → named_back (m ∷ ms) fs (field_set n v gs) ≡ named_back (m ∷ ms) fs gs
among_first m ms fs gs n v within is rest true more =
    ap (field_back m (field_get m fs)) (rest more)
among_first m ms fs gs n v within is rest false out =
    ap (field_back m (field_get m fs)) (past ms fs gs n v within out)
    ∙ (ap (λ k. field_back m (field_get m fs) (field_set k v (named_back ms fs gs)))
    (same_bytes n m (first (bytes_eq n m) (list_any (bytes_eq n) ms) out is))
    ∙ over m v (field_get m fs) (named_back ms fs gs))
  where
    first : (a b : Bool) → b ≡ false → (a || b) ≡ true → a ≡ true
    first a b out e = grind arith

among : (names : List (List ℕ)) (fs gs : Pairs) (n v : List ℕ) → Within fs gs
    → list_any (bytes_eq n) names ≡ true
    → named_back names fs (field_set n v gs) ≡ named_back names fs gs
among [] fs gs n v within is = absurd cc
among (m ∷ ms) fs gs n v within is =
    among_first m ms fs gs n v within is (λ more. among ms fs gs n v within more)
    (list_any (bytes_eq n) ms) refl

-- fields of these names that are set in turn make no difference
pub set_back : (ps : Pairs) (names : List (List ℕ)) (fs gs : Pairs) → Within fs gs
    → ((q : List ℕ) → list_any (bytes_eq q) (map (λ p. p.0) ps) ≡ true
    → list_any (bytes_eq q) names ≡ true)
    → named_back names fs (set_all ps gs) ≡ named_back names fs gs
set_back [] names fs gs within all = refl
set_back (p ∷ ps) names fs gs within all =
    set_back ps names fs (field_set p.0 p.1 gs) (within_set fs gs p.0 p.1 within)
    (λ q is. all q (later (bytes_eq q p.0) _ is))
    ∙ among names fs gs p.0 p.1 within (all p.0 (first (bytes_eq p.0 p.0) _ (itself p.0)))
  where
    first : (a b : Bool) → a ≡ true → (a || b) ≡ true
    first a b e = grind arith

    later : (a b : Bool) → b ≡ true → (a || b) ≡ true
    later a b e = grind arith

pub back_same : (names : List (List ℕ)) (fs : Pairs) → named_back names fs fs ≡ fs
back_same [] fs = refl
back_same (n ∷ ns) fs =
    ap (field_back n (field_get n fs)) (back_same ns fs) ∙ same_set n fs

-- fields that are set, and then those of their names as they were
pub fields_back : (ps : Pairs) (fs : Pairs)
    → named_back (map (λ p. p.0) ps) fs (set_all ps fs) ≡ fs
fields_back ps fs =
    set_back ps (map (λ p. p.0) ps) fs fs (λ q is. is) (λ q is. is)
    ∙ back_same (map (λ p. p.0) ps) fs
