-- The links of a client: its shape's, and one is another's or its own.
use Rattle.std.proofs.Common.{◌≡◌, false, inl, inr, refl, true}
use Rattle.shared_cache.specs.declared.log.Shape.{Shape}
use Rattle.shared_cache.specs.declared.log.Shape.TheVariants.{Single, Pair}
use Rattle.shared_cache.specs.declared.log.Wire.{Wire}
use Rattle.shared_cache.specs.declared.log.Wire.TheVariants.{Main, Side}
use Rattle.shared_cache.specs.Log.{HasWire, is_wire}
use Rattle.currency.specs.Links as links

pub among : (s : Shape) (u : Wire) → HasWire s u → links.HasWire s u
among Single Main h = inl refl
among Pair Main h = inl refl
among Pair Side h = inr (inl refl)
among Single Side h = absurd h

pub has_wire : (s : Shape) (u : Wire) → links.HasWire s u → HasWire s u
has_wire s Main h = tt
has_wire Pair Side h = tt
has_wire Single Side (inl h) = absurd (let no : Main ≡ Side = h in cc)
has_wire Single Side (inr h) = absurd h

pub other_wire : (w u : Wire) → (u ≡ w → ⊥) → is_wire w u ≡ false
other_wire Main Main n = absurd (n refl)
other_wire Main Side n = refl
other_wire Side Main n = refl
other_wire Side Side n = absurd (n refl)

pub same_wire : (w u : Wire) → is_wire w u ≡ true → w ≡ u
same_wire Main Main h = refl
same_wire Main Side h = absurd (let no : false ≡ true = h in cc)
same_wire Side Main h = absurd (let no : false ≡ true = h in cc)
same_wire Side Side h = refl
