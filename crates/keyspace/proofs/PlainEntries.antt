-- Look-ups and changes in a map with `Vec<u8>` keys, and in the list of plain pairs that it stands
-- for.
use Rattle.std.proofs.Common.{◌≡◌, ℕ, Bool, true, false, cond, List, [], ◌∷◌, Some}
use Rattle.std.proofs.Common.{Vec, Global, map, refl, ap, sym, subst, ◌∙◌, ◌++◌, ◌+◌}
use Rattle.std.proofs.Common.{drop, slice_get, zero, suc, arith}
use Rattle.std.proofs.lemmas.List.{append_assoc, append-nil}
use Rattle.std.proofs.lemmas.Slice.Eq.{bytes_eq-Decides}
use Rattle.std.specs.List.{IsDistinct, AllByRecursion}
use Rattle.std.specs.Map.{lookup, remove_entry, keys_of, set_value}
use Rattle.std.specs.Str.{bytes_eq}
use Rattle.indexmap.specs.IndexMap.{insert_entry}
use Rattle.command_words.specs.Hashes.{field_get, field_set, field_remove, set_all}

abbrev Entries : Type 0
Entries = List (Vec ℕ Global × List ℕ)

abbrev is_named : List ℕ → Vec ℕ Global → Bool
is_named name k = bytes_eq name k.items

abbrev same_name : Vec ℕ Global → Vec ℕ Global → Bool
same_name a b = bytes_eq a.items b.items

abbrev pub plain : {X : Type 0} → Vec ℕ Global × X → List ℕ × X
plain p = (p.0.items, p.1)

pub lookup-field : (name : List ℕ) (es : Entries)
    → lookup (is_named name) es ≡ field_get name (map plain es)
lookup-field name [] = refl
lookup-field name (e ∷ es) = ap (cond (bytes_eq name e.0.items) (Some e.1)) (lookup-field name es)

pub remove-field : (name : List ℕ) (es : Entries)
    → map plain (remove_entry (is_named name) es) ≡ field_remove name (map plain es)
remove-field name [] = refl
remove-field name (e ∷ es) = grind (arith, map, remove-field name es)

pub insert-field : (k : Vec ℕ Global) (v : List ℕ) (es : Entries)
    → map plain (insert_entry same_name es k v) ≡ field_set k.items v (map plain es)
insert-field k v [] = refl
insert-field k v (e ∷ es) = grind (arith, map, insert-field k v es)

-- a field that is there takes another value in its place
written : (name v had : List ℕ) (es : Entries) → Some had ≡ lookup (is_named name) es
    → map plain (set_value (is_named name) es v) ≡ field_set name v (map plain es)
written name v had [] there = absurd cc
written name v had (e ∷ es) there =
    by (bytes_eq name e.0.items) refl (λ at. written name v had es at)
  where
    by : (b : Bool) → bytes_eq name e.0.items ≡ b
        → (Some had ≡ lookup (is_named name) es
        → map plain (set_value (is_named name) es v) ≡ field_set name v (map plain es))
        → map plain (cond b ((e.0, v) ∷ es) (e ∷ set_value (is_named name) es v))
        ≡ cond b ((e.0.items, v) ∷ map plain es) (plain e ∷ field_set name v (map plain es))
    by true is rest = refl
    by false is rest =
        ap (λ r. plain e ∷ r)
        (rest (there ∙ ap (λ b. cond b (Some e.1) (lookup (is_named name) es)) is))

pub written-field : (name v had : List ℕ) (es new : Entries)
    → new ≡ set_value (is_named name) es v → Some had ≡ lookup (is_named name) es
    → map plain new ≡ field_set name v (map plain es)
written-field name v had es new is there = ap (map plain) is ∙ written name v had es there

-- after the first of the fields that are to be set in turn, the others are left
pub set_first : (k : Vec ℕ Global) (v : List ℕ) (es new rest : Entries)
    → new ≡ insert_entry same_name es k v
    → set_all (map plain rest) (map plain new) ≡ set_all (map plain ((k, v) ∷ rest)) (map plain es)
set_first k v es new rest e =
    ap (set_all (map plain rest)) (ap (map plain) e ∙ insert-field k v es)

-- a field is copied behind those before it
pub next_copied : (k : Vec ℕ Global) (v : List ℕ) (es new : Entries) (fs : List (List ℕ × List ℕ))
    (place : ℕ) → slice_get fs place ≡ Some (k.items, v) → new ≡ insert_entry same_name es k v
    → set_all (drop (place + 1) fs) (map plain new) ≡ set_all (drop place fs) (map plain es)
next_copied k v es new fs place at e =
    ap (set_all (drop (place + 1) fs)) (ap (map plain) e ∙ insert-field k v es)
    ∙ ap (λ r. set_all r (map plain es)) (sym (from_place fs place at
    ∙ ap (λ n. (k.items, v) ∷ drop n fs) (let one : suc place ≡ place + 1 = omega arith in one)))
  where
    from_place : (fs : List (List ℕ × List ℕ)) (place : ℕ) → slice_get fs place ≡ Some (k.items, v)
        → drop place fs ≡ (k.items, v) ∷ drop (suc place) fs
    from_place [] place at = absurd cc
    from_place (f ∷ fs) zero at = ap (λ x. x ∷ fs) (let one : f ≡ (k.items, v) = cc in one)
    from_place (f ∷ fs) (suc place) at = from_place fs place at

other_name : (a b : List ℕ) → bytes_eq a b ≡ false → bytes_eq b a ≡ false
other_name a b apart = grind (arith, bytes_eq-Decides)

-- a name that none of the fields before has goes last
set_behind : (e : Vec ℕ Global × List ℕ) (done rest : Entries)
    → IsDistinct same_name (keys_of (done ++ e ∷ rest))
    → field_set e.0.items e.1 (map plain done) ≡ map plain (done ++ e ∷ [])
unfolding IsDistinct
set_behind e [] rest apart = refl
set_behind e (d ∷ ds) rest apart =
    ap (λ b. cond b ((d.0.items, e.1) ∷ map plain ds)
    (plain d ∷ field_set e.0.items e.1 (map plain ds)))
    (other_name d.0.items e.0.items (among ds apart.0))
    ∙ ap (λ r. plain d ∷ r) (set_behind e ds rest apart.1)
  where
    among : (ds : Entries)
        → AllByRecursion (λ y. same_name d.0 y ≡ false) (keys_of (ds ++ e ∷ rest))
        → bytes_eq d.0.items e.0.items ≡ false
    among [] all = all.0
    among (x ∷ xs) all = among xs all.1

-- fields with distinct names that are set one after the other are these fields
set_each : (done es : Entries) → IsDistinct same_name (keys_of (done ++ es))
    → set_all (map plain es) (map plain done) ≡ map plain (done ++ es)
set_each done [] apart = ap (map plain) (sym (append-nil done))
set_each done (e ∷ es) apart =
    ap (set_all (map plain es)) (set_behind e done es apart)
    ∙ (set_each (done ++ e ∷ []) es
    (subst (λ r. IsDistinct same_name (keys_of r)) (sym (append_assoc done (e ∷ []) es)) apart)
    ∙ ap (map plain) (append_assoc done (e ∷ []) es))

pub set_distinct : (es : Entries) → IsDistinct same_name (keys_of es)
    → set_all (map plain es) [] ≡ map plain es
set_distinct es apart = set_each [] es apart
