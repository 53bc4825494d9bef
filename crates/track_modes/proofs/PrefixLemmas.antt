-- Where a prefix goes among prefixes in byte order.
use Rattle.std.proofs.Common.{◌≡◌, ◌<◌, ℕ, List, [], ◌∷◌, Bool, true, false, cond, length, get_or}
use Rattle.std.proofs.Common.{refl, ap, ◌∙◌, arith}
use Rattle.std.specs.Prelude.{insert}
use Prim.Native.Nat.{zero, suc}
use Rattle.track_modes.specs.PrefixLists.{is_before, with_prefix, IsPlaceFor, AreInOrder}
use Rattle.track_modes.specs.PrefixLists.{ComesFirst}

later : (p q : List ℕ) (qs : List (List ℕ)) → is_before q p ≡ true
    → with_prefix p (q ∷ qs) ≡ q ∷ with_prefix p qs
later p q qs e =
    ap (λ b. cond b (q ∷ with_prefix p qs) (cond (is_before p q) (p ∷ q ∷ qs) (q ∷ qs))) e

-- one that is there
pub with_same : (p : List ℕ) (qs : List (List ℕ)) (n : ℕ) → IsPlaceFor p qs n → n < length qs
    → is_before p (get_or qs n []) ≡ false
    → with_prefix p qs ≡ qs
with_same p [] n at lt is = absurd (omega arith)
with_same p (q ∷ qs) zero at lt is = grind arith
with_same p (q ∷ qs) (suc n) at lt is =
    later p q qs (at.1 0 (omega arith))
    ∙ ap (λ l. q ∷ l) (with_same p qs n (
      omega arith,
      (λ i k. at.1 (suc i) (omega arith)),
      (λ k. at.2 (omega arith)),
    ) (omega arith) is)

-- one that is not there
pub with_new : (p : List ℕ) (qs : List (List ℕ)) (n : ℕ) → IsPlaceFor p qs n
    → (n < length qs → is_before p (get_or qs n []) ≡ true)
    → with_prefix p qs ≡ insert qs n p
with_new p [] zero at new = refl
with_new p [] (suc n) at new = absurd (omega arith)
with_new p (q ∷ qs) zero at new = grind arith
with_new p (q ∷ qs) (suc n) at new =
    later p q qs (at.1 0 (omega arith))
    ∙ ap (λ l. q ∷ l) (with_new p qs n (
      omega arith,
      (λ i k. at.1 (suc i) (omega arith)),
      (λ k. at.2 (omega arith)),
    ) (λ k. new (omega arith)))

-- adding a prefix keeps the order
first_by : (b c : Bool) (o p q : List ℕ) (qs : List (List ℕ)) → is_before o p ≡ true
    → is_before o q ≡ true
    → ComesFirst o (cond b (q ∷ with_prefix p qs) (cond c (p ∷ q ∷ qs) (q ∷ qs)))
first_by true c o p q qs e f = f
first_by false true o p q qs e f = e
first_by false false o p q qs e f = f

first_with : (o p : List ℕ) (qs : List (List ℕ)) → is_before o p ≡ true → ComesFirst o qs
    → ComesFirst o (with_prefix p qs)
first_with o p [] e f = e
first_with o p (q ∷ qs) e f = first_by (is_before q p) (is_before p q) o p q qs e f

order_by : (b c : Bool) (p q : List ℕ) (qs : List (List ℕ)) → is_before q p ≡ b
    → is_before p q ≡ c → AreInOrder (q ∷ qs) → AreInOrder (with_prefix p qs)
    → AreInOrder (cond b (q ∷ with_prefix p qs) (cond c (p ∷ q ∷ qs) (q ∷ qs)))
order_by true c p q qs e f h more = (first_with q p qs e h.0, more)
order_by false true p q qs e f h more = (f, h)
order_by false false p q qs e f h more = h

pub keeps_order : (p : List ℕ) (qs : List (List ℕ)) → AreInOrder qs
    → AreInOrder (with_prefix p qs)
keeps_order p [] h = (tt, tt)
keeps_order p (q ∷ qs) h =
    order_by (is_before q p) (is_before p q) p q qs refl refl h (keeps_order p qs h.1)
