-- Which keys a connection is told of once it has read them: by prefixes, those that start with one
-- that is registered.
use Rattle.std.proofs.Common.{◌≡◌, ℕ, List, [], ◌∷◌, Bool, true, false, cond, refl, ap, sym, ◌∙◌}
use Rattle.std.proofs.Common.{arith, subst, ◌⊎◌}
use Rattle.std.specs.Prelude.{◌||◌, nat_eq}
use Rattle.std.specs.List.{list_any, starts_with}
use Rattle.std.specs.Ordering.{nat_cmp, is_eq, is_lt, ordering_reverse}
use Rattle.std.specs.Cmp.Lexicographic.{slice_cmp}
use Rattle.std.specs.declared.cmp.Ordering.{Ordering}
use Rattle.std.proofs.lemmas.Cmp.{nat_list_cmp_total}
use Rattle.std.proofs.lemmas.Map.Text.{is_eq-slice_cmp}
use Rattle.std.proofs.lemmas.Slice.Eq.{bytes_eq-Decides}
use Rattle.track_modes.specs.ModeState.{ModeState, remembers_read}
use Rattle.track_modes.specs.PrefixLists.{is_before, registered, with_prefix, with_prefixes}
use Rattle.serial_model.specs.Laws.{covers_key}
use Rattle.shared_cache.specs.declared.log.Caching.TheVariants.{Bcast}
use Rattle.shared_cache.specs.Log.{covers}

-- a connection of this mode is told of a key that it reads: the read is remembered, or a prefix of
-- the key is registered
abbrev pub IsToldOf : ModeState → List ℕ → Type 0
IsToldOf m key = (remembers_read m ≡ true) ⊎ (covers_key m key ≡ true)

-- ---- a prefix that stands in the order where another would

equal_by : (a b : Ordering) → a ≡ ordering_reverse b → is_lt a ≡ false → is_lt b ≡ false
    → is_eq a ≡ true
equal_by a b e f g = grind arith

same_place : (p q : List ℕ) → is_before q p ≡ false → is_before p q ≡ false → p ≡ q
same_place p q f g =
    (bytes_eq-Decides p q).0
    (sym (is_eq-slice_cmp p q)
    ∙ equal_by (slice_cmp nat_cmp p q) (slice_cmp nat_cmp q p) (nat_list_cmp_total.antisymm p q) g
    f)

-- ---- what holds of a prefix of a list holds of one of those that are registered

swap : (a b c : Bool) → (b || (a || c)) ≡ (a || (b || c))
swap a b c = grind arith

twice : (a c : Bool) → (a || c) ≡ (a || (a || c))
twice a c = grind arith

module _ (t : List ℕ → Bool) where
  any_by : (b c : Bool) (p q : List ℕ) (qs : List (List ℕ)) → is_before q p ≡ b
      → is_before p q ≡ c → list_any t (with_prefix p qs) ≡ (t p || list_any t qs)
      → list_any t (cond b (q ∷ with_prefix p qs) (cond c (p ∷ q ∷ qs) (q ∷ qs)))
      ≡ (t p || (t q || list_any t qs))
  any_by true c p q qs e f more =
      ap (λ r. t q || r) more ∙ swap (t p) (t q) (list_any t qs)
  any_by false true p q qs e f more = refl
  any_by false false p q qs e f more =
      subst (λ x. (t q || list_any t qs) ≡ (t x || (t q || list_any t qs)))
      (sym (same_place p q e f)) (twice (t q) (list_any t qs))

  any_with : (p : List ℕ) (qs : List (List ℕ))
      → list_any t (with_prefix p qs) ≡ (t p || list_any t qs)
  any_with p [] = refl
  any_with p (q ∷ qs) =
      any_by (is_before q p) (is_before p q) p q qs refl refl (any_with p qs)

  any_withs : (ps held : List (List ℕ))
      → list_any t (with_prefixes ps held) ≡ (list_any t ps || list_any t held)
  any_withs [] held = refl
  any_withs (p ∷ ps) held =
      any_withs ps (with_prefix p held) ∙ ap (λ r. list_any t ps || r) (any_with p held)
      ∙ mixed (list_any t ps) (t p) (list_any t held)
    where
      mixed : (a b c : Bool) → (a || (b || c)) ≡ ((b || a) || c)
      mixed a b c = grind arith

starts_all : (key : List ℕ) → (starts_with nat_eq key [] || false) ≡ true
starts_all [] = refl
starts_all (x ∷ key) = refl

none_more : (b : Bool) → (b || false) ≡ b
none_more b = grind arith

pub registered_covers : (ps : List (List ℕ)) (key : List ℕ)
    → list_any (starts_with nat_eq key) (registered ps []) ≡ covers (Bcast ps) key
registered_covers [] key = starts_all key
registered_covers (p ∷ ps) key =
    any_withs (starts_with nat_eq key) (p ∷ ps) []
    ∙ none_more (list_any (starts_with nat_eq key) (p ∷ ps))
