-- The links of a client, by its shape.
use Rattle.std.proofs.Common.{◌≡◌, true, false, refl, sym, subst, inl, inr}
use Rattle.shared_cache.specs.declared.log.Shape.{Shape}
use Rattle.shared_cache.specs.declared.log.Shape.TheVariants.{Single, Pair}
use Rattle.shared_cache.specs.declared.log.Wire.{Wire}
use Rattle.shared_cache.specs.declared.log.Wire.TheVariants.{Main, Side}
use Rattle.currency.specs.Links.{HasWire, is_single}

pub has_main : (s : Shape) → HasWire s Main
has_main Single = inl refl
has_main Pair = inl refl

pub alone_main : (s : Shape) → is_single s ≡ true → (w : Wire) → HasWire s w → w ≡ Main
alone_main Single e w (inl is) = sym is
alone_main Single e w (inr none) = absurd none
alone_main Pair e w h = absurd (let no : ⊥ = cc in no)

pub has_side : (s : Shape) → s ≡ Pair → HasWire s Side
has_side s e = subst (λ t. HasWire t Side) (sym e) (inr (inl refl))

pub single_by : (s : Shape) → is_single s ≡ true → s ≡ Single
single_by Single e = refl
single_by Pair e = absurd (let no : ⊥ = cc in no)

pub is_pair : (s : Shape) → is_single s ≡ false → s ≡ Pair
is_pair Single e = absurd (let no : ⊥ = cc in no)
is_pair Pair e = refl

pub has_two : (s : Shape) → HasWire s Side → s ≡ Pair
has_two Pair i = refl
has_two Single (inl e) = absurd (let no : ⊥ = cc in no)
has_two Single (inr none) = absurd none
