-- A hash map with `Vec<u8>` keys, and the finite map that it stands for.
use Rattle.std.proofs.Common.{◌≡◌, ℕ, Bool, true, false, cond, List, [], ◌∷◌, Option, Some, None}
use Rattle.std.proofs.Common.{Vec, Global, Bor, map, refl, ap, sym, ◌∙◌, length, ◌+◌, arith}
use Rattle.std.proofs.Common.{inl, inr, ◌⊎◌}
use Rattle.std.specs.Option.{option_map, option_copied, is_some}
use Rattle.std.specs.Map.{lookup, keys_of, KeepsOthers, IsKeyTest, AreApart}
use Rattle.std.specs.Str.{bytes_eq}
use Rattle.std.specs.List.{IsDistinct, AllByRecursion}
use Rattle.std.specs.Ordering.{nat_cmp, eq_by_cmp}
use Rattle.std.specs.Cmp.Lexicographic.{slice_cmp, nat_list_cmp_total, texts_ties}
use Rattle.std.specs.HashMap.{UpdatesBy}
use Rattle.std.specs.FinMap.{FinMap, find, get, insert, remove, from_entries, get-from_entries}
use Rattle.std.specs.FinMap.{get-insert, get-remove, len, len-empty, len-insert, same_map}
use Rattle.std.specs.FinMap.{slice_cmp-IsAntisymmetric, nat_cmp-IsAntisymmetric}
use Rattle.std.proofs.lemmas.Slice.Eq.{bytes_eq-Decides}
use Rattle.indexmap.specs.IndexMap.{IndexMap}

abbrev key_eq : Vec ℕ Global → Vec ℕ Global → Bool
key_eq a b = bytes_eq a.items b.items

abbrev is_key : List ℕ → Vec ℕ Global → Bool
is_key q k = bytes_eq q k.items

abbrev MapOf : Type 0 → Type 0
MapOf Y = FinMap (slice_cmp nat_cmp) Y

same_bytes : (a b : List ℕ) → bytes_eq a b ≡ true → a ≡ b
same_bytes a b e = (bytes_eq-Decides a b).0 e

-- bytes that are those of one key are those of the keys equal to it alone
is_key-IsKeyTest : (q : List ℕ) → IsKeyTest key_eq (is_key q)
is_key-IsKeyTest q x y e = ap (λ z. bytes_eq z y.items) (same_bytes q x.items e)

is_key-AreApart : (bs q : List ℕ) → bytes_eq q bs ≡ false → AreApart (is_key bs) (is_key q)
is_key-AreApart bs q other k e = ap (bytes_eq q) (sym (same_bytes bs k.items e)) ∙ other

module _ {X S : Type 0} (bs : List ℕ) (m n : IndexMap (Vec ℕ Global) X S) (w : Option X) where
  -- a change at one key, as a look-up by any bytes sees it
  found_after : UpdatesBy key_eq (is_key bs) m n w → (q : List ℕ)
      → lookup (is_key q) n.entries ≡ cond (bytes_eq q bs) w (lookup (is_key q) m.entries)
  unfolding KeepsOthers
  found_after after q = by (bytes_eq q bs) refl
    where
      by : (b : Bool) → bytes_eq q bs ≡ b
          → lookup (is_key q) n.entries ≡ cond b w (lookup (is_key q) m.entries)
      by true e = ap (λ z. lookup (is_key z) n.entries) (same_bytes q bs e) ∙ after.1
      by false e = after.3 (is_key q) (is_key-IsKeyTest q) (is_key-AreApart bs q e)

module _ {X Y : Type 0} (f : X → Y) where
  abbrev pub seen : Vec ℕ Global × X → List ℕ × Y
  seen p = (p.0.items, f p.1)

  picked : (b : Bool) (x : X) (r : Option X)
      → cond b (Some (f x)) (option_map f r) ≡ option_map f (cond b (Some x) r)
  picked b x r = grind arith

  find-lookup : (q : List ℕ) (es : List (Vec ℕ Global × X))
      → find (slice_cmp nat_cmp) q (map seen es) ≡ option_map f (lookup (is_key q) es)
  find-lookup q [] = refl
  find-lookup q (e ∷ es) =
      (λ i. cond (sym (texts_ties q e.0.items) i) (Some (f e.1)) (find-lookup q es i))
      ∙ picked (bytes_eq q e.0.items) e.1 _

  get-seen : (es : List (Vec ℕ Global × X)) (q : List ℕ)
      → get (from_entries {R = slice_cmp nat_cmp} (map seen es)) q
      ≡ option_map f (lookup (is_key q) es)
  get-seen es q = get-from_entries nat_list_cmp_total _ q ∙ find-lookup q es

  -- what a look-up finds is what the finite map has
  pub found : (es : List (Vec ℕ Global × X)) (s : MapOf Y) → from_entries (map seen es) ≡ s
      → (q : List ℕ) (r : Option X) → r ≡ lookup (is_key q) es → option_map f r ≡ get s q
  found es s view q r at = ap (option_map f) at ∙ (sym (get-seen es q) ∙ ap (λ m. get m q) view)

  -- what a reference shows, and what it refers to
  pub shown : (r : Option (Bor X)) → option_map (λ h. f h.now) r ≡ option_map f (option_copied r)
  shown r = grind arith

  changed : (b : Bool) (w r : Option X)
      → option_map f (cond b w r) ≡ cond b (option_map f w) (option_map f r)
  changed b w r = grind arith

  module _ {S : Type 0} (bs : List ℕ) (m n : IndexMap (Vec ℕ Global) X S) where
    -- a change at one key, as the finite map sees it
    get_after : (w : Option X) → UpdatesBy key_eq (is_key bs) m n w → (q : List ℕ)
        → get (from_entries {R = slice_cmp nat_cmp} (map seen n.entries)) q
        ≡ cond (eq_by_cmp (slice_cmp nat_cmp) q bs) (option_map f w)
        (get (from_entries {R = slice_cmp nat_cmp} (map seen m.entries)) q)
    get_after w after q =
        get-seen n.entries q ∙ (ap (option_map f) (found_after bs m n w after q)
        ∙ (changed (bytes_eq q bs) w _
        ∙ (λ i. cond (texts_ties q bs i) (option_map f w) (sym (get-seen m.entries q) i))))

    pub put-seen : (x : X) → UpdatesBy key_eq (is_key bs) m n (Some x)
        → from_entries {R = slice_cmp nat_cmp} (map seen n.entries)
        ≡ insert (from_entries (map seen m.entries)) bs (f x)
    put-seen x after =
        same_map nat_list_cmp_total (slice_cmp-IsAntisymmetric nat_cmp-IsAntisymmetric) _ _
        (λ q. get_after (Some x) after q ∙ sym (get-insert nat_list_cmp_total _ bs (f x) q))

    pub take-seen : UpdatesBy key_eq (is_key bs) m n None
        → from_entries {R = slice_cmp nat_cmp} (map seen n.entries)
        ≡ remove (from_entries (map seen m.entries)) bs
    take-seen after =
        same_map nat_list_cmp_total (slice_cmp-IsAntisymmetric nat_cmp-IsAntisymmetric) _ _
        (λ q. get_after None after q ∙ sym (get-remove nat_list_cmp_total _ bs q))

  none_found : (k : Vec ℕ Global) (es : List (Vec ℕ Global × X))
      → AllByRecursion (λ y. key_eq k y ≡ false) (keys_of es)
      → is_some (option_map f (lookup (is_key k.items) es)) ≡ false
  none_found k [] apart = refl
  none_found k (e ∷ es) apart = grind (arith, none_found k es apart.1)

  -- where no key is there twice, the finite map has as many keys as the table
  pub len-seen : (es : List (Vec ℕ Global × X)) → IsDistinct key_eq (keys_of es)
      → len (from_entries {R = slice_cmp nat_cmp} (map seen es)) ≡ length es
  unfolding IsDistinct
  len-seen [] apart = len-empty (slice_cmp nat_cmp) Y
  len-seen (e ∷ es) apart =
      let m : MapOf Y = from_entries (map seen es) in
      let fresh = ap is_some (get-seen es e.0.items) ∙ none_found e.0 es apart.0 in
      let one = len-insert nat_list_cmp_total m e.0.items (f e.1)
      ∙ ap (λ b. cond b (len m) (len m + 1)) fresh in
      omega (arith, one, len-seen es apart.1)

-- what is lent under one name, by two functions that agree
pub same_lending : {N A B C : Type 0} (n : N) (f g : A → B) → ((w : A) → f w ≡ g w)
    → ◌≡◌ {A = (N × (A → B)) ⊎ C} (inl (n, f)) (inl (n, g))
same_lending n f g same i = inl (n, λ w. same w i)

pub same_end : {L C : Type 0} (a b : C) → a ≡ b → ◌≡◌ {A = L ⊎ C} (inr a) (inr b)
same_end a b e i = inr (e i)
