use Rattle.std.proofs.Common.{◌≡◌, ◌+◌, ◌-◌, ◌<◌, ◌++◌, ◌∷◌, [], ℕ, List, length, take, slice_set}
use Rattle.std.proofs.Common.{arith, rules, suc, zero, ap, refl, sym, subst}
use Rattle.resp_value.proofs.octets.Words.set_last.Goals as goal

module _ {A : Type 0} where
  set_end : (n : ℕ) (y : A) (xs : List A) → length xs ≡ n + 1
      → slice_set xs n y ≡ take n xs ++ y ∷ []
  set_end zero y (x ∷ []) e = refl
  set_end (suc n) y (x ∷ xs) e =
      ap (λ (q : List A). x ∷ q) (set_end n y xs (omega (arith, e)))
  set_end n y [] e = absurd (omega (arith, e))
  set_end zero y (x ∷ z ∷ xs) e = absurd (omega (arith, e))

  set_last : (n : ℕ) (y : A) (xs ys : List A) → xs ≡ ys → n ≡ length xs → 0 < length ys
      → slice_set xs (n - 1) y ≡ take (length ys - 1) ys ++ y ∷ []
  set_last n y xs ys same len some =
      subst (λ (q : List A). slice_set xs (n - 1) y ≡ take (length q - 1) q ++ y ∷ []) same (
      subst (λ m. slice_set xs (m - 1) y ≡ take (length xs - 1) xs ++ y ∷ []) (sym len) (
      set_end _ y xs
      (let h : length xs ≡ length ys = ap length same in omega (arith, h, some))
      )
      )

-- src/octets.rt:148:5
pub returns : goal.returns
returns c =
    let len : c.len-last.result ≡ length c.self.inside.items.items = search rules in
    set_last _ c.args.word _ _ c.self.view_is len c.requires
