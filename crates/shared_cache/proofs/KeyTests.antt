-- Two keys are one where their bytes are.
use Rattle.std.proofs.Common.{◌≡◌, ◌&&◌, ℕ, List, [], ◌∷◌, true, ap, ◌∙◌, refl, eq-eqb}
use Rattle.std.specs.Str.{bytes_eq}
use Rattle.std.proofs.lemmas.Slice.Eq.{bytes_eq-Decides}

pub same_bytes : (k : List ℕ) → bytes_eq k k ≡ true
same_bytes [] = refl
same_bytes (x ∷ k) = ap (λ b. b && bytes_eq k k) (eq-eqb x x refl) ∙ same_bytes k

pub bytes_same : (j k : List ℕ) → bytes_eq j k ≡ true → j ≡ k
bytes_same j k e = (bytes_eq-Decides j k).0 e
