-- How a tree is stored as a value of the model, and that it comes back.
use Rattle.std.specs.Prelude.{◌≡◌, ℕ, zero, suc, ℤ, pos, negsuc, Bool, true, false, List, [], ◌∷◌}
use Rattle.std.specs.Prelude.{refl}
use mathlib.Core.Path.{ap}
use base.Stored.{Gv, gnil, gnum, gcons, Coded}
use Rattle.std.specs.Coded.{code_by}
use Rattle.resp_value.specs.Tree.{Tree, Trees, Rows, simple, error, number, blob, verbatim}
use Rattle.resp_value.specs.Tree.{blob_error, boolean, null, null_array, array, mapping, set, push}
use Rattle.resp_value.specs.Tree.{end, more, last, row}

abbrev pub itself : Coded Gv
itself = record { code = λ g. g; inj = λ x y p. p }

abbrev code_b : List ℕ → Gv
code_b [] = gnil
code_b (x ∷ xs) = gcons (gnum x) (code_b xs)

abbrev num : Gv → ℕ
num (gnum n) = n
num _ = 0

abbrev back_b : Gv → List ℕ
back_b gnil = []
back_b (gnum n) = []
back_b (gcons a b) = num a ∷ back_b b

abbrev left_of : Gv → Gv
left_of (gcons a b) = a
left_of _ = gnil

abbrev right_of : Gv → Gv
right_of (gcons a b) = b
right_of _ = gnil

abbrev code_z : ℤ → Gv
code_z (pos n) = gcons gnil (gnum n)
code_z (negsuc n) = gcons (gnum 0) (gnum n)

abbrev sign : Gv → ℕ → ℤ
sign gnil n = pos n
sign _ n = negsuc n

abbrev back_z : Gv → ℤ
back_z g = sign (left_of g) (num (right_of g))

abbrev code_bool : Bool → Gv
code_bool true = gnum 1
code_bool false = gnum 0

abbrev is_one : ℕ → Bool
is_one zero = false
is_one (suc n) = true

abbrev mutual
  pub code_t : Tree → Gv
  code_t (simple t) = gcons (gnum 0) (code_b t)
  code_t (error t) = gcons (gnum 1) (code_b t)
  code_t (number i) = gcons (gnum 2) (code_z i)
  code_t (blob b) = gcons (gnum 3) (code_b b)
  code_t (verbatim f b) = gcons (gnum 4) (gcons (code_b f) (code_b b))
  code_t (blob_error b) = gcons (gnum 5) (code_b b)
  code_t (boolean b) = gcons (gnum 6) (code_bool b)
  code_t null = gcons (gnum 7) gnil
  code_t null_array = gcons (gnum 8) gnil
  code_t (array ts) = gcons (gnum 9) (code_ts ts)
  code_t (mapping rs) = gcons (gnum 10) (code_rs rs)
  code_t (set ts) = gcons (gnum 11) (code_ts ts)
  code_t (push ts) = gcons (gnum 12) (code_ts ts)

  code_ts : Trees → Gv
  code_ts end = gnil
  code_ts (more t ts) = gcons (code_t t) (code_ts ts)

  code_rs : Rows → Gv
  code_rs last = gnil
  code_rs (row k v rs) = gcons (gcons (code_t k) (code_t v)) (code_rs rs)

-- a tree by its tag, with its rest read as each kind wants it
abbrev upper : ℕ → Trees → Rows → Tree
upper zero ts rs = array ts
upper (suc zero) ts rs = mapping rs
upper (suc (suc zero)) ts rs = set ts
upper (suc (suc (suc n))) ts rs = push ts

abbrev by_tag : ℕ → Gv → Trees → Rows → Tree
by_tag zero g ts rs = simple (back_b g)
by_tag (suc zero) g ts rs = error (back_b g)
by_tag (suc (suc zero)) g ts rs = number (back_z g)
by_tag (suc (suc (suc zero))) g ts rs = blob (back_b g)
by_tag (suc (suc (suc (suc zero)))) g ts rs = verbatim (back_b (left_of g)) (back_b (right_of g))
by_tag (suc (suc (suc (suc (suc zero))))) g ts rs = blob_error (back_b g)
by_tag (suc (suc (suc (suc (suc (suc zero)))))) g ts rs = boolean (is_one (num g))
by_tag (suc (suc (suc (suc (suc (suc (suc zero))))))) g ts rs = null
by_tag (suc (suc (suc (suc (suc (suc (suc (suc zero)))))))) g ts rs = null_array
by_tag (suc (suc (suc (suc (suc (suc (suc (suc (suc n))))))))) g ts rs = upper n ts rs

abbrev mutual
  pub back_t : Gv → Tree
  back_t gnil = null
  back_t (gnum n) = null
  back_t (gcons a b) = by_tag (num a) b (back_ts b) (back_rs b)

  back_ts : Gv → Trees
  back_ts gnil = end
  back_ts (gnum n) = end
  back_ts (gcons a b) = more (back_t a) (back_ts b)

  back_p : Gv → Tree × Tree
  back_p gnil = (null, null)
  back_p (gnum n) = (null, null)
  back_p (gcons a b) = (back_t a, back_t b)

  back_rs : Gv → Rows
  back_rs gnil = last
  back_rs (gnum n) = last
  back_rs (gcons a b) = row (back_p a).0 (back_p a).1 (back_rs b)

same_b : (b : List ℕ) → back_b (code_b b) ≡ b
same_b [] = refl
same_b (x ∷ xs) = ap (λ r. x ∷ r) (same_b xs)

same_z : (i : ℤ) → back_z (code_z i) ≡ i
same_z (pos n) = refl
same_z (negsuc n) = refl

same_bool : (b : Bool) → is_one (num (code_bool b)) ≡ b
same_bool true = refl
same_bool false = refl

mutual
  pub same_t : (t : Tree) → back_t (code_t t) ≡ t
  same_t (simple t) = ap simple (same_b t)
  same_t (error t) = ap error (same_b t)
  same_t (number i) = ap number (same_z i)
  same_t (blob b) = ap blob (same_b b)
  same_t (verbatim f b) = λ i. verbatim (same_b f i) (same_b b i)
  same_t (blob_error b) = ap blob_error (same_b b)
  same_t (boolean b) = ap boolean (same_bool b)
  same_t null = refl
  same_t null_array = refl
  same_t (array ts) = ap array (same_ts ts)
  same_t (mapping rs) = ap mapping (same_rs rs)
  same_t (set ts) = ap set (same_ts ts)
  same_t (push ts) = ap push (same_ts ts)

  same_ts : (ts : Trees) → back_ts (code_ts ts) ≡ ts
  same_ts end = refl
  same_ts (more t ts) = λ i. more (same_t t i) (same_ts ts i)

  same_rs : (rs : Rows) → back_rs (code_rs rs) ≡ rs
  same_rs last = refl
  same_rs (row k v rs) = λ i. row (same_t k i) (same_t v i) (same_rs rs i)

abbrev pub tree_code : Coded Tree
tree_code = code_by Gv itself code_t back_t same_t
