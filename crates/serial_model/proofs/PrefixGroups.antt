-- Whom a group of keys tells by prefixes, place by place: rows that no key starts with add nothing.
use Rattle.std.proofs.Common.{◌≡◌, ◌∙◌, ◌++◌, ℕ, List, [], ◌∷◌, Bool, true, false, cond, length}
use Rattle.std.proofs.Common.{map}
use Rattle.std.proofs.Common.{get_or, refl, ap}
use Rattle.std.specs.Prelude.{filter, nat_eq}
use Rattle.std.specs.List.{flat_map, list_any, range_with_len, starts_with}
use Rattle.std.proofs.lemmas.Bool.{or_parts}
use Rattle.std.proofs.lemmas.List.FromFn.{fill_by_all}
use Rattle.prefix_table.specs.declared.table.Registration.{Registration}
use Rattle.prefix_table.specs.Table.{nothing, places_of_any, starts_with_at}
use Rattle.serial_model.specs.Tracking.{Invalidation, prefix_group, told_some}

module _ {X Y : Type 0} where
  flat_map-map : {Z : Type 0} (g : Y → List Z) (f : X → Y) (xs : List X)
      → flat_map g (map f xs) ≡ flat_map (λ x. g (f x)) xs
  flat_map-map g f [] = refl
  flat_map-map g f (x ∷ xs) = ap (λ l. g (f x) ++ l) (flat_map-map g f xs)

  -- what adds nothing may be left out
  flat_map-filter : (f : X → List Y) (p : X → Bool) → ((x : X) → p x ≡ false → f x ≡ [])
      → (xs : List X) → flat_map f xs ≡ flat_map f (filter p xs)
  flat_map-filter f p none [] = refl
  flat_map-filter f p none (x ∷ xs) =
      elim (p x) as (λ b. p x ≡ b
      → f x ++ flat_map f xs ≡ flat_map f (cond b (x ∷ filter p xs) (filter p xs))) [
        | true ↦ λ e. ap (λ l. f x ++ l) (flat_map-filter f p none xs)
        | false ↦ λ e. ap (λ l. l ++ flat_map f xs) (none x e) ∙ flat_map-filter f p none xs
      ] refl

none_pass : (p : List ℕ → Bool) (keys : List (List ℕ)) → list_any p keys ≡ false
    → filter p keys ≡ []
none_pass p [] e = refl
none_pass p (key ∷ keys) e =
    let parts = or_parts (p key) (list_any p keys) e in
    ap (λ b. cond b (key ∷ filter p keys) (filter p keys)) parts.0 ∙ none_pass p keys parts.1

module _ (keys : List (List ℕ)) where
  abbrev told_by : Registration → List Invalidation
  told_by r = told_some (filter (λ key. starts_with nat_eq key r.prefix) keys) r.ids

  by_rows : (rs : List Registration) → prefix_group keys rs ≡ flat_map told_by rs
  by_rows [] = refl
  by_rows (r ∷ rs) = ap (λ l. told_by r ++ l) (by_rows rs)

  -- the connections at a place are told of those of the keys that start with its prefix
  abbrev pub told_at : List Registration → ℕ → List Invalidation
  told_at rs n =
      told_some (filter (λ key. starts_with_at key rs n) keys) (get_or rs n nothing).ids

  pub prefix_group_is : (rs : List Registration)
      → prefix_group keys rs ≡ flat_map (told_at rs) (places_of_any keys rs)
  prefix_group_is rs =
      by_rows rs
      ∙ ap (flat_map told_by)
      (fill_by_all (λ n. get_or rs n nothing) rs (length rs) nothing refl (λ n lt. refl))
      ∙ flat_map-map told_by (λ n. get_or rs n nothing) (range_with_len 0 (length rs))
      ∙ flat_map-filter (told_at rs) (λ n. list_any (λ key. starts_with_at key rs n) keys)
      (λ n none. ap (λ l. told_some l (get_or rs n nothing).ids)
      (none_pass (λ key. starts_with_at key rs n) keys none)) (range_with_len 0 (length rs))
