-- Readings that give nothing but what was written, whatever the limits.
use Rattle.std.proofs.Common.{◌≡◌, ℕ, suc, List, [], ◌∷◌, refl, sym, subst, arith}
use Rattle.resp_stream.specs.Parsed.{Parsed, Whole, More, Bad, ◌>>=◌}
use Rattle.resp_stream.specs.Tokens.{capped, many}

-- where something whole was read, it is x, and s is left
abbrev pub Only : {A : Type 0} → Parsed A → A → List ℕ → Type 0
Only (Whole y r) x s = (y ≡ x) × (r ≡ s)
Only More e s = Unit {0}
Only (Bad g r) e s = Unit {0}

pub only_is : {A : Type 0} (a : Parsed A) (x : A) (s : List ℕ) → a ≡ Whole x s → Only a x s
only_is {A} a x s e = subst (λ (q : Parsed A). Only q x s) (sym e) (refl, refl)

pub only_same : {A : Type 0} (a b : Parsed A) (x : A) (s : List ℕ) → a ≡ b → Only b x s
    → Only a x s
only_same {A} a b x s e h = subst (λ (q : Parsed A). Only q x s) (sym e) h

pub only_then : {A B : Type 0} (a : Parsed A) (f : A → List ℕ → Parsed B) (x : A) (y : B)
    (s r : List ℕ) → Only a x s → Only (f x s) y r → Only (a >>= f) y r
only_then {A} (Whole z q) f x y s r h k = grind arith
only_then More f e y s r h k = tt
only_then (Bad g q) f e y s r h k = tt

-- the limit on the whole
pub only_capped : {A : Type 0} (most : ℕ) (b : List ℕ) (a : Parsed A) (x : A) (s : List ℕ)
    → Only a x s → Only (capped most b a) x s
only_capped most b a e s h = grind arith

-- one after the other
module _ {A : Type 0} (read : List ℕ → Parsed A) where
  pub only_none : (r : List ℕ) → Only (many read 0 r) [] r
  unfolding many
  only_none r = (refl, refl)

  pub only_next : (n : ℕ) (b c r : List ℕ) (x : A) (xs : List A) → Only (read b) x c
      → Only (many read n c) xs r → Only (many read (suc n) b) (x ∷ xs) r
  unfolding many
  only_next n b c r k xs e h = grind (arith, only_then)
