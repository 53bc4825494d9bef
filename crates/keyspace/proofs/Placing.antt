-- A field that is taken out goes back to its place.
use Rattle.std.proofs.Common.{arith, ◌≡◌, ◌∙◌, refl, sym, ap, ℕ, Bool, true, false, cond}
use Rattle.std.proofs.Common.{List, [], ◌∷◌, ◌++◌, Option, Some, None, Vec, Global, map, length}
use Rattle.std.proofs.Common.{zero, suc, ◌≤◌, slice_get}
use Rattle.std.specs.Prelude.{insert, remove, min, is_some, position}
use Rattle.std.specs.List.{position_or_len, IsDistinct}
use Rattle.std.specs.Map.{keys_of, lookup, lookup_key, remove_entry, values_of}
use Rattle.std.specs.Str.{bytes_eq}
use Rattle.std.proofs.lemmas.List.{length-map}
use Rattle.std.proofs.lemmas.Slice.Eq.{bytes_eq-Decides}
use Rattle.indexmap.specs.IndexMap.{insert_entry, move_index, index_before}
use Rattle.indexmap.proofs.MapLemmas.{Found-position, remove_entry-first, insert_entry-absent}
use Rattle.indexmap.proofs.MapLemmas.{absent_from_lookup, or_len-absent}
use Rattle.indexmap.proofs.MoveLemmas.{push_moved}
use Rattle.indexmap.proofs.SetLemmas.{map-insert}
use Rattle.command_words.specs.Hashes.{Pairs, field_get, field_remove}
use Rattle.keyspace.specs.Places.{field_put, placed_back, all_placed, placed_of}
use Rattle.keyspace.specs.declared.placed.Placed as code
use Rattle.keyspace.proofs.Distinct.{Entries, distinct, is_there, remove_there, same_name}
use Rattle.keyspace.proofs.PlainEntries.{plain, lookup-field, remove-field}

abbrev is_named : List ℕ → Vec ℕ Global → Bool
is_named name k = bytes_eq name k.items

-- what was at a place goes there again
insert_again : {X : Type 0} (xs : List X) (i : ℕ) (x : X) → slice_get xs i ≡ Some x
    → insert (remove xs i) i x ≡ xs
insert_again [] i x at = absurd cc
insert_again (y ∷ ys) zero x at = ap (λ z. z ∷ ys) (let one : x ≡ y = cc in one)
insert_again (y ∷ ys) (suc i) x at = ap (λ r. y ∷ r) (insert_again ys i x at)

within : {X : Type 0} (xs : List X) (i : ℕ) (x : X) → slice_get xs i ≡ Some x
    → i ≤ length (remove xs i)
within [] i x at = absurd cc
within (y ∷ ys) zero x at = omega arith
within (y ∷ ys) (suc i) x at = omega (arith, within ys i x at)

least : (i n : ℕ) → i ≤ n → min i n ≡ i
least i n le = grind arith

-- a name and its value at a place are the entry there
entry_at : (es : Entries) (i : ℕ) (k : Vec ℕ Global) (v : List ℕ)
    → slice_get (keys_of es) i ≡ Some k → slice_get (values_of es) i ≡ Some v
    → slice_get es i ≡ Some (k, v)
entry_at [] i k v key value = absurd cc
entry_at (e ∷ es) zero k v key value =
    (λ j. Some ((let one : e.0 ≡ k = cc in one) j, (let two : e.1 ≡ v = cc in two) j))
entry_at (e ∷ es) (suc i) k v key value = entry_at es i k v key value

-- the key that passes is the name
named : (name : List ℕ) (es : Entries) (k : Vec ℕ Global)
    → Some k ≡ lookup_key (is_named name) es → k.items ≡ name
named name [] k at = absurd cc
named name (e ∷ es) k at = by (named name es k) (bytes_eq name e.0.items) refl at
  where
    by : (Some k ≡ lookup_key (is_named name) es → k.items ≡ name)
        → (b : Bool) → bytes_eq name e.0.items ≡ b
        → Some k ≡ cond b (Some e.0) (lookup_key (is_named name) es) → k.items ≡ name
    by rest true same is =
        ap (λ x. x.items) (let one : k ≡ e.0 = cc in one)
        ∙ sym ((bytes_eq-Decides name e.0.items).0 same)
    by rest false other is = rest is

module _ (name : List ℕ) (es : Entries) (apart : IsDistinct same_name (keys_of es)) where
  gone : is_there name (field_remove name (map plain es)) ≡ false
  gone =
      remove_there name name (map plain es) (distinct es apart)
      ∙ grind (arith, bytes_eq-Decides)

  -- the field that was taken out goes to its place again
  pub placed_again : (new : Entries) (i : ℕ) (k : Vec ℕ Global) (v : List ℕ)
      → position (is_named name) (keys_of es) ≡ Some i
      → Some k ≡ lookup_key (is_named name) es → Some v ≡ lookup (is_named name) es
      → new ≡ remove_entry (is_named name) es
      → field_put (i, k.items, v) (map plain new) ≡ map plain es
  placed_again new i k v at key value is =
      let found = Found-position (is_named name) es i at in
      let out : new ≡ remove es i = is ∙ remove_entry-first (is_named name) es i found.first in
      let here : slice_get es i ≡ Some (k, v) =
      entry_at es i k v (sym (key ∙ found.key)) (sym (value ∙ found.value)) in
      let absent : is_there k.items (map plain new) ≡ false =
      ap (λ n. is_there n (map plain new)) (named name es k key)
      ∙ (ap (λ l. is_there name (map plain l)) is
      ∙ (ap (is_there name) (remove-field name es) ∙ gone)) in
      let place : min i (length (map plain new)) ≡ i =
      least i (length (map plain new)) (omega (
        arith,
        length-map new plain,
        ap length out,
        within es i (k, v) here,
      )) in
      ap (λ b. cond b (map plain new)
      (insert (map plain new) (min i (length (map plain new))) (k.items, v))) absent
      ∙ (ap (λ n. insert (map plain new) n (k.items, v)) place
      ∙ (sym (map-insert plain new i (k, v))
      ∙ (ap (λ l. map plain (insert l i (k, v))) out
      ∙ ap (map plain) (insert_again es i (k, v) here))))

-- a new name goes to its place
pub placed_new : (k : Vec ℕ Global) (v : List ℕ) (es new : Entries) (i to : ℕ) → i ≤ length es
    → lookup (same_name k) es ≡ None
    → to ≡ index_before (position_or_len (same_name k) (keys_of es)) i
    → new ≡ move_index (insert_entry same_name es k v)
    (position_or_len (same_name k) (keys_of es)) to
    → map plain new ≡ insert (map plain es) i (k.items, v)
placed_new k v es new i to le none lands is =
    let absent = absent_from_lookup (same_name k) es none in
    let last : position_or_len (same_name k) (keys_of es) ≡ length es =
    or_len-absent (same_name k) es absent in
    let here : to ≡ i =
    lands ∙ (ap (λ n. index_before n i) last ∙ before (length es) i le) in
    ap (map plain) (is
    ∙ ((λ j. move_index (insert_entry-absent same_name k v es absent j) (last j) (here j))
    ∙ push_moved es (k, v) i le))
    ∙ map-insert plain es i (k, v)
  where
    before : (n i : ℕ) → i ≤ n → index_before n i ≡ i
    before n i le = grind arith

-- what was taken out last goes back first
pub placed_last : (all : List code.Placed) (p : code.Placed) (fs : Pairs)
    → placed_back (all_placed (all ++ p ∷ [])) fs
    ≡ placed_back (all_placed all) (field_put (placed_of p) fs)
placed_last [] p fs = refl
placed_last (q ∷ all) p fs = ap (field_put (placed_of q)) (placed_last all p fs)

-- where none was taken out, all is as it was
pub none_taken : (all : List code.Placed) (fs gs : Pairs) → placed_back (all_placed all) gs ≡ fs
    → length all ≡ 0 → gs ≡ fs
none_taken [] fs gs back none = back
none_taken (p ∷ all) fs gs back none = absurd (let no : ⊥ = omega (arith, none) in no)

module _ (p : code.Placed) (es new : Entries) (key : List ℕ) (is : key ≡ p.field.items) (b : Bool)
    (found : b ≡ is_some (lookup (is_named key) es)) where
  has : is_some (field_get p.field.items (map plain es)) ≡ b
  has =
      ap (λ n. is_some (field_get n (map plain es))) (sym is)
      ∙ (ap is_some (sym (lookup-field key es)) ∙ sym found)

  -- a field that is there stays
  pub put_there : b ≡ true → map plain es ≡ field_put (placed_of p) (map plain es)
  put_there there =
      sym (ap (λ c. cond c (map plain es)
      (insert (map plain es) (min p.place (length (map plain es))) (p.field.items, p.value)))
      (has ∙ there))

  none : (r : Option (List ℕ)) → is_some r ≡ false → r ≡ None
  none None e = refl
  none (Some v) e = absurd cc

  -- another one goes to its place
  pub put_absent : b ≡ false → (i to : ℕ) → i ≡ min p.place (length es)
      → to ≡ index_before (position_or_len (same_name p.field) (keys_of es)) i
      → new ≡ move_index (insert_entry same_name es p.field p.value)
      (position_or_len (same_name p.field) (keys_of es)) to
      → map plain new ≡ field_put (placed_of p) (map plain es)
  put_absent out i to at lands moved =
      let absent : lookup (same_name p.field) es ≡ None =
      none (lookup (same_name p.field) es)
      (ap (λ n. is_some (lookup (is_named n) es)) (sym is) ∙ (sym found ∙ out)) in
      let le : i ≤ length es = grind arith in
      placed_new p.field p.value es new i to le absent lands moved
      ∙ (ap (λ n. insert (map plain es) n (p.field.items, p.value))
      (at ∙ ap (min p.place) (sym (length-map es plain)))
      ∙ sym (ap (λ c. cond c (map plain es)
      (insert (map plain es) (min p.place (length (map plain es))) (p.field.items, p.value)))
      (has ∙ out)))
