-- Telling the connections of one prefix after another.
use Rattle.std.proofs.Common.{◌≡◌, ◌+◌, ◌<◌, ℕ, List, [], ◌∷◌, ◌++◌, length, take, refl, ap, sym}
use Rattle.std.proofs.Common.{◌∙◌, arith, append-nil, append_assoc, Bool, true}
use Rattle.std.proofs.Common.{cond, eqb-true, false, slice_index_or, None, Some}
use Rattle.std.specs.Prelude.{◌==◌, filter, nat_eq}
use Rattle.std.specs.List.{flat_map, list_any, range_with_len, starts_with}
use Prim.Native.Nat.{zero, suc}
use Rattle.prefix_table.specs.declared.table.Registration.{Registration}
use Rattle.prefix_table.specs.Table.{nothing, places_of_any, row_at, starts_with_at}
use Rattle.serial_model.proofs.PrefixGroups as by_place
use Rattle.serial_model.specs.Tracking.{Invalidation, prefix_group, told_some, told_to}
use Rattle.server_book.specs.Sendings.{told_at}

-- no key has a prefix
pub nothing_told : (rs : List Registration) → prefix_group [] rs ≡ []
nothing_told [] = refl
nothing_told (r ∷ rs) = nothing_told rs

-- one message of the keys for which a test holds, where there is one
some_told : (test : List ℕ → Bool) (keys : List (List ℕ)) (ids : List ℕ)
    → cond (list_any test keys) (told_to (Some (filter test keys)) ids) []
    ≡ told_some (filter test keys) ids
some_told test [] ids = refl
some_told test (key ∷ keys) ids = grind (arith, some_told test keys ids)

module _ (keys : List (List ℕ)) (rs : List Registration) where
  abbrev is_any : ℕ → Bool
  is_any n = list_any (λ key. starts_with_at key rs n) keys

  -- where a key starts with the prefix at a place there is one
  at_place : (n : ℕ) → is_any n ≡ true → told_at keys rs n ≡ by_place.told_at keys rs n
  at_place n h =
      let r = slice_index_or rs n nothing in
      let some = filter (λ key. starts_with nat_eq key r.prefix) keys in
      ap (λ b. cond b (told_to (Some some) r.ids) []) (sym h)
      ∙ some_told (λ key. starts_with nat_eq key r.prefix) keys r.ids

  each_place : (ns : List ℕ) → flat_map (told_at keys rs) (filter is_any ns)
      ≡ flat_map (by_place.told_at keys rs) (filter is_any ns)
  each_place [] = refl
  each_place (n ∷ ns) =
      elim (is_any n) as (λ b. is_any n ≡ b
      → flat_map (told_at keys rs) (cond b (n ∷ filter is_any ns) (filter is_any ns))
      ≡ flat_map (by_place.told_at keys rs) (cond b (n ∷ filter is_any ns) (filter is_any ns))) [
        | true ↦ λ e.
            ap (λ x. x ++ flat_map (told_at keys rs) (filter is_any ns)) (at_place n e)
            ∙ ap (λ x. by_place.told_at keys rs n ++ x) (each_place ns)
        | false ↦ λ e. each_place ns
      ] refl

  -- place by place, all whose prefix one of the keys starts with are told
  pub group_is : flat_map (told_at keys rs) (places_of_any keys rs) ≡ prefix_group keys rs
  group_is =
      each_place (range_with_len 0 (length rs)) ∙ sym (by_place.prefix_group_is keys rs)

-- the connections at one place more
pub places_next : (told : ℕ → List Invalidation) (places : List ℕ) (k : ℕ) → k < length places
    → flat_map told (take (k + 1) places)
    ≡ flat_map told (take k places) ++ told (slice_index_or places k 0)
places_next told [] k lt = absurd (let no : ⊥ = omega arith in no)
places_next told (n ∷ places) zero lt = append-nil (told n)
places_next told (n ∷ places) (suc k) lt =
    grind (arith, slice_index_or, append_assoc, places_next told places k (omega arith))

-- where no prefix is registered nobody is told
pub none_registered : (keys : List (List ℕ)) (rs : List Registration) → (length rs == 0) ≡ true
    → prefix_group keys rs ≡ []
none_registered keys [] h = refl
none_registered keys (r ∷ rs) h =
    absurd (let no : ⊥ = omega (arith, eqb-true (length (r ∷ rs)) 0 h) in no)

-- ---- the row at a place

row_is_at : (rs : List Registration) (n : ℕ) (prefix ids : List ℕ)
    → Some (prefix, ids) ≡ row_at n rs → slice_index_or rs n nothing
    ≡ record { prefix = prefix; ids = ids }
row_is_at [] n prefix ids e = absurd (let no : ⊥ = cc in no)
row_is_at (r ∷ rs) zero prefix ids e = grind arith
row_is_at (r ∷ rs) (suc n) prefix ids e = row_is_at rs n prefix ids e

no_row_at : (rs : List Registration) (n : ℕ) → None ≡ row_at n rs
    → slice_index_or rs n nothing ≡ nothing
no_row_at [] n e = refl
no_row_at (r ∷ rs) zero e = absurd (let no : ⊥ = cc in no)
no_row_at (r ∷ rs) (suc n) e = no_row_at rs n e

pub told_at_row : (keys : List (List ℕ)) (rs : List Registration) (n : ℕ) (prefix ids : List ℕ)
    → Some (prefix, ids) ≡ row_at n rs
    → told_to (Some (filter (λ key. starts_with nat_eq key prefix) keys)) ids ≡ told_at keys rs n
told_at_row keys rs n prefix ids e =
    ap (λ (r : Registration). told_to
    (Some (filter (λ key. starts_with nat_eq key r.prefix) keys)) r.ids)
    (sym (row_is_at rs n prefix ids e))

pub told_at_none : (keys : List (List ℕ)) (rs : List Registration) (n : ℕ) → None ≡ row_at n rs
    → told_at keys rs n ≡ []
told_at_none keys rs n e =
    ap (λ (r : Registration). told_to
    (Some (filter (λ key. starts_with nat_eq key r.prefix) keys)) r.ids) (no_row_at rs n e)
