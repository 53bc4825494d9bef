-- Where an id goes among ids in ascending order.
use Rattle.std.proofs.Common.{◌≡◌, ◌<◌, ℕ, List, [], ◌∷◌, true, false, cond, length, get_or, refl}
use Rattle.std.proofs.Common.{ap, ◌∙◌, arith}
use Rattle.std.specs.Prelude.{◌==◌, nat_lt, insert}
use Prim.Native.Nat.{zero, suc}
use Rattle.id_set.specs.Ids.{with_id, IsPlaceFor}

later : (id : ℕ) (h : ℕ) (hs : List ℕ) → nat_lt h id ≡ true
    → with_id id (h ∷ hs) ≡ h ∷ with_id id hs
later id h hs e = ap (λ b. cond b (h ∷ with_id id hs) (cond (h == id) (h ∷ hs) (id ∷ h ∷ hs))) e

-- an id that is there
pub with_same : (id : ℕ) (hs : List ℕ) (n : ℕ) → IsPlaceFor id hs n → n < length hs
    → (get_or hs n 0 == id) ≡ true
    → with_id id hs ≡ hs
with_same id [] n p lt is = absurd (omega arith)
with_same id (h ∷ hs) zero p lt is = grind arith
with_same id (h ∷ hs) (suc n) p lt is =
    later id h hs (p.1 0 (omega arith))
    ∙ ap (λ l. h ∷ l) (with_same id hs n (
      omega arith,
      (λ i k. p.1 (suc i) (omega arith)),
      (λ k. p.2 (omega arith)),
    ) (omega arith) is)

-- an id that is not there
pub with_new : (id : ℕ) (hs : List ℕ) (n : ℕ) → IsPlaceFor id hs n
    → (n < length hs → (get_or hs n 0 == id) ≡ false)
    → with_id id hs ≡ insert hs n id
with_new id [] zero p other = refl
with_new id [] (suc n) p other = absurd (omega arith)
with_new id (h ∷ hs) zero p other = grind arith
with_new id (h ∷ hs) (suc n) p other =
    later id h hs (p.1 0 (omega arith))
    ∙ ap (λ l. h ∷ l) (with_new id hs n (
      omega arith,
      (λ i k. p.1 (suc i) (omega arith)),
      (λ k. p.2 (omega arith)),
    ) (λ k. other (omega arith)))
