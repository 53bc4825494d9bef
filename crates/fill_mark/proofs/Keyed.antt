-- A hash map of numbers by key, and the finite map that it stands for.
use Rattle.std.proofs.Common.{◌≡◌, ℕ, Bool, true, false, cond, List, [], ◌∷◌, Option, Some, None}
use Rattle.std.proofs.Common.{Vec, Global, map, refl, ap, sym, ◌∙◌, unwrap_or, arith}
use Rattle.std.specs.Option.{option_map}
use Rattle.std.specs.Map.{lookup, KeepsOthers, IsKeyTest, AreApart}
use Rattle.std.specs.Str.{bytes_eq}
use Rattle.std.specs.Ordering.{nat_cmp, eq_by_cmp}
use Rattle.std.specs.Cmp.Lexicographic.{slice_cmp, nat_list_cmp_total, texts_ties}
use Rattle.std.specs.HashMap.{UpdatesBy}
use Rattle.std.specs.FinMap.{find, get, insert, remove, from_entries, get-from_entries, get-insert}
use Rattle.std.specs.FinMap.{get-remove, same_map, slice_cmp-IsAntisymmetric}
use Rattle.std.specs.FinMap.{nat_cmp-IsAntisymmetric}
use Rattle.std.proofs.lemmas.Slice.Eq.{bytes_eq-Decides}
use Rattle.std.proofs.lemmas.Grind.{common_steps}
use Rattle.indexmap.specs.IndexMap.{IndexMap}
use Rattle.fill_mark.specs.Tables.{KeyIndex, numbers_at}

abbrev key_eq : Vec ℕ Global → Vec ℕ Global → Bool
key_eq a b = bytes_eq a.items b.items

abbrev is_key : List ℕ → Vec ℕ Global → Bool
is_key q k = bytes_eq q k.items

abbrev Entries : Type 0
Entries = List (Vec ℕ Global × Vec ℕ Global)

abbrev pub seen : Vec ℕ Global × Vec ℕ Global → List ℕ × List ℕ
seen p = (p.0.items, p.1.items)

abbrev pub index_of : Entries → KeyIndex
index_of es = from_entries (map seen es)

abbrev shown : Vec ℕ Global → List ℕ
shown v = v.items

same_bytes : (a b : List ℕ) → bytes_eq a b ≡ true → a ≡ b
same_bytes a b e = (bytes_eq-Decides a b).0 e

-- bytes that are those of one key are those of the keys equal to it alone
key_test : (q : List ℕ) → IsKeyTest key_eq (is_key q)
key_test q x y e = ap (λ z. bytes_eq z y.items) (same_bytes q x.items e)

apart : (bs q : List ℕ) → bytes_eq q bs ≡ false → AreApart (is_key bs) (is_key q)
apart bs q other k e = ap (bytes_eq q) (sym (same_bytes bs k.items e)) ∙ other

module _ {S : Type 0} (bs : List ℕ) (m n : IndexMap (Vec ℕ Global) (Vec ℕ Global) S)
    (w : Option (Vec ℕ Global)) where
  found_after : UpdatesBy key_eq (is_key bs) m n w → (q : List ℕ)
      → lookup (is_key q) n.entries ≡ cond (bytes_eq q bs) w (lookup (is_key q) m.entries)
  unfolding KeepsOthers
  found_after after q = by (bytes_eq q bs) refl
    where
      by : (b : Bool) → bytes_eq q bs ≡ b
          → lookup (is_key q) n.entries ≡ cond b w (lookup (is_key q) m.entries)
      by true e = ap (λ z. lookup (is_key z) n.entries) (same_bytes q bs e) ∙ after.1
      by false e = after.3 (is_key q) (key_test q) (apart bs q e)

picked : (b : Bool) (x : Vec ℕ Global) (r : Option (Vec ℕ Global))
    → cond b (Some x.items) (option_map shown r) ≡ option_map shown (cond b (Some x) r)
picked b e r = grind (arith, common_steps)

find_lookup : (q : List ℕ) (es : Entries)
    → find (slice_cmp nat_cmp) q (map seen es) ≡ option_map shown (lookup (is_key q) es)
find_lookup q [] = refl
find_lookup q (e ∷ es) =
    (λ i. cond (sym (texts_ties q e.0.items) i) (Some e.1.items) (find_lookup q es i))
    ∙ picked (bytes_eq q e.0.items) e.1 _

get_seen : (es : Entries) (q : List ℕ)
    → get (index_of es) q ≡ option_map shown (lookup (is_key q) es)
get_seen es q = get-from_entries nat_list_cmp_total _ q ∙ find_lookup q es

-- what a look-up finds is what the finite map has
pub numbers_seen : (es : Entries) (keys : KeyIndex) → index_of es ≡ keys → (q : List ℕ)
    (r : Option (Vec ℕ Global)) → r ≡ lookup (is_key q) es
    → unwrap_or (option_map shown r) [] ≡ numbers_at q keys
numbers_seen es keys view q r at = grind (arith, unwrap_or, get_seen)

changed : (b : Bool) (w r : Option (Vec ℕ Global))
    → option_map shown (cond b w r) ≡ cond b (option_map shown w) (option_map shown r)
changed b w r = grind (arith, common_steps)

module _ {S : Type 0} (bs : List ℕ) (m n : IndexMap (Vec ℕ Global) (Vec ℕ Global) S) where
  get_after : (w : Option (Vec ℕ Global)) → UpdatesBy key_eq (is_key bs) m n w → (q : List ℕ)
      → get (index_of n.entries) q
      ≡ cond (eq_by_cmp (slice_cmp nat_cmp) q bs) (option_map shown w)
      (get (index_of m.entries) q)
  get_after w after q =
      get_seen n.entries q
      ∙ (ap (option_map shown) (found_after bs m n w after q)
      ∙ (changed (bytes_eq q bs) w _
      ∙ (λ i. cond (texts_ties q bs i) (option_map shown w) (sym (get_seen m.entries q) i))))

  pub put_seen : (v : Vec ℕ Global) → UpdatesBy key_eq (is_key bs) m n (Some v)
      → index_of n.entries ≡ insert (index_of m.entries) bs v.items
  put_seen v after =
      same_map nat_list_cmp_total (slice_cmp-IsAntisymmetric nat_cmp-IsAntisymmetric) _ _
      (λ q. get_after (Some v) after q ∙ sym (get-insert nat_list_cmp_total _ bs v.items q))

  pub take_seen : UpdatesBy key_eq (is_key bs) m n None
      → index_of n.entries ≡ remove (index_of m.entries) bs
  take_seen after =
      same_map nat_list_cmp_total (slice_cmp-IsAntisymmetric nat_cmp-IsAntisymmetric) _ _
      (λ q. get_after None after q ∙ sym (get-remove nat_list_cmp_total _ bs q))

-- the numbers of a key after another was given some
pub numbers_put : (keys : KeyIndex) (bs q : List ℕ) (ns : List ℕ)
    → numbers_at q (insert keys bs ns) ≡ cond (bytes_eq q bs) ns (numbers_at q keys)
numbers_put keys bs q ns =
    ap (λ o. unwrap_or o []) (get-insert nat_list_cmp_total keys bs ns q
    ∙ ap (λ b. cond b (Some ns) (get keys q)) (sym (texts_ties q bs)))
    ∙ by (bytes_eq q bs) (get keys q)
  where
    by : (b : Bool) (o : Option (List ℕ))
        → unwrap_or (cond b (Some ns) o) [] ≡ cond b ns (unwrap_or o [])
    by b o = grind arith

pub numbers_taken : (keys : KeyIndex) (bs q : List ℕ)
    → numbers_at q (remove keys bs) ≡ cond (bytes_eq q bs) [] (numbers_at q keys)
numbers_taken keys bs q =
    ap (λ o. unwrap_or o []) (get-remove nat_list_cmp_total keys bs q
    ∙ ap (λ b. cond b None (get keys q)) (sym (texts_ties q bs)))
    ∙ by (bytes_eq q bs) (get keys q)
  where
    by : (b : Bool) (o : Option (List ℕ))
        → unwrap_or (cond b None o) [] ≡ cond b [] (unwrap_or o [])
    by b o = grind arith
