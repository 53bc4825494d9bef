-- What registering a prefix changes, by the place of the prefix.
use Rattle.std.proofs.Common.{◌≡◌, ℕ, List, [], ◌∷◌, get_or, set, refl, ap, ◌∙◌, arith}
use Rattle.std.specs.Prelude.{insert, Ok, Err}
use Rattle.std.specs.declared.cmp.Ordering.TheVariants.{Less}
use Prim.Native.Nat.{zero, suc}
use Rattle.prefix_table.specs.declared.table.Registration.{Registration}
use Rattle.prefix_table.specs.Table.{byte_order, first_of, joined_by, nothing, registered}
use Rattle.prefix_table.specs.Places.{IsPlace}

module _ (id : ℕ) (prefix : List ℕ) where
  later : (r : Registration) (rs : List Registration) → byte_order r.prefix prefix ≡ Less
      → registered id prefix (r ∷ rs) ≡ r ∷ registered id prefix rs
  later r rs e = grind arith

  -- a prefix that is there
  pub registered_there : (rs : List Registration) (n : ℕ) → IsPlace prefix rs (Ok n)
      → registered id prefix rs ≡ set rs n (joined_by id (get_or rs n nothing))
  registered_there [] n at = absurd (omega (arith, at.0))
  registered_there (r ∷ rs) zero at = grind arith
  registered_there (r ∷ rs) (suc n) at =
      later r rs (at.1 0 (omega arith))
      ∙ ap (λ l. r ∷ l) (registered_there rs n (
        omega (arith, at.0),
        (λ i k. at.1 (suc i) (omega arith)),
        at.2,
      ))

  -- a prefix that is not there
  pub registered_anew : (rs : List Registration) (n : ℕ) → IsPlace prefix rs (Err n)
      → registered id prefix rs ≡ insert rs n (first_of id prefix)
  registered_anew [] zero at = refl
  registered_anew [] (suc n) at = absurd (omega (arith, at.0))
  registered_anew (r ∷ rs) zero at = grind arith
  registered_anew (r ∷ rs) (suc n) at =
      later r rs (at.1 0 (omega arith))
      ∙ ap (λ l. r ∷ l) (registered_anew rs n (
        omega (arith, at.0),
        (λ i k. at.1 (suc i) (omega arith)),
        (λ k. at.2 (omega arith)),
      ))
