-- What is behind a refusal is refused, reply by reply.
use Rattle.std.proofs.Common.{◌≡◌, List, [], ◌∷◌, ◌++◌, Bool, true, false, refl, sym, ◌∙◌, arith}
use Rattle.std.specs.List.{All}
use Rattle.std.proofs.lemmas.List.Elements.{All-nil, All-cons, All-append, All-tail}
use Rattle.turn_lock.specs.Seats.{StopsAt}

module _ {R : Type 0} (refuses : R → Bool) where
  behind : (is_over : Bool) (x r : R) (rs : List R)
      → (is_over ≡ false → All (λ y. refuses y ≡ false) (x ∷ rs))
      → (is_over ≡ true → refuses r ≡ true) → refuses x ≡ true → refuses r ≡ true
  behind is_over e r rs none over h = grind arith

  pub stops_more : (is_over : Bool) (rs : List R) (r : R) → StopsAt refuses rs
      → (is_over ≡ false → All (λ y. refuses y ≡ false) rs)
      → (is_over ≡ true → refuses r ≡ true) → StopsAt refuses (rs ++ r ∷ [])
  stops_more is_over [] r s none over = (λ h. All-nil (λ y. refuses y ≡ true), tt)
  stops_more is_over (x ∷ rs) r s none over = (
    (λ h. All-append (λ y. refuses y ≡ true) rs (r ∷ []) (s.0 h)
        (All-cons (λ y. refuses y ≡ true) r [] (behind is_over x r rs none over h)
        (All-nil (λ y. refuses y ≡ true)))),
    stops_more is_over rs r s.1 (λ e. All-tail (λ y. refuses y ≡ false) x rs (none e)) over,
  )

  none_more_by : (is_over : Bool) (rs : List R) (r : R)
      → (is_over ≡ false → All (λ y. refuses y ≡ false) rs)
      → (is_over ≡ true → refuses r ≡ true) → refuses r ≡ false
      → All (λ y. refuses y ≡ false) (rs ++ r ∷ [])
  none_more_by true rs r none over h =
      let clash : true ≡ false = sym (over refl) ∙ h in absurd cc
  none_more_by false rs r none over h =
      All-append (λ y. refuses y ≡ false) rs (r ∷ []) (none refl)
      (All-cons (λ y. refuses y ≡ false) r [] h (All-nil (λ y. refuses y ≡ false)))

  pub none_more : (is_over now : Bool) (rs : List R) (r : R)
      → (is_over ≡ false → All (λ y. refuses y ≡ false) rs)
      → (is_over ≡ true → refuses r ≡ true) → now ≡ refuses r → now ≡ false
      → All (λ y. refuses y ≡ false) (rs ++ r ∷ [])
  none_more is_over now rs r none over is h = none_more_by is_over rs r none over (sym is ∙ h)
