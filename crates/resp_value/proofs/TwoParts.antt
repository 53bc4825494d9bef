-- A list that was written in two parts.
use Rattle.std.proofs.Common.{◌≡◌, ℕ, ◌+◌, List, ◌++◌, length, take, refl, ap, ◌∙◌, arith}
use Rattle.std.proofs.Common.{length-append}
use Rattle.std.proofs.lemmas.List.{take_at}
use Rattle.std.proofs.lemmas.Slice.{take-put_mid}
use borrow.Rule.Slice.PartMut.{put_mid}

pub two_parts : (a b f g rest : List ℕ) (k : ℕ) → f ≡ a → g ≡ b
    → take (length a + length b) (put_mid (length a) k (f ++ rest) g) ≡ a ++ b
two_parts a b f g rest k e d = rw (e, d)
    (take-put_mid (length a) k (a ++ rest) b (length a + length b) refl
    (omega (arith, length-append a rest))
    ∙ ap (λ r. r ++ b) (take_at a rest (length a) refl))
