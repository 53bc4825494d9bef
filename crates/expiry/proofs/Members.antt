-- The members of an index after a change, and that they determine it.
use Rattle.std.proofs.Common.{subst, ◌≡◌, List, [], ◌∷◌, Bool, true, false, cond, refl, ap, sym}
use Rattle.std.proofs.Common.{◌∙◌, arith}
use Rattle.std.specs.Prelude.{◌||◌, not}
use Rattle.std.proofs.lemmas.Map.Views.{any-filter_same}
use Rattle.expiry.specs.declared.index.Deadline.{Deadline}
use Rattle.expiry.specs.Index.{has, is_same, comes_before, with}
use Rattle.expiry.specs.Order.{IsBeforeAll, IsOrdered}
use Rattle.expiry.specs.Laws.{OneIndex, SettingAddsOne, RemovalTakesOne}
use Rattle.expiry.proofs.Orders.{same_deadline, is_itself, same_turned, not_before_itself}
use Rattle.expiry.proofs.Orders.{before_trans}

swapped : (a b c : Bool) → (a || (b || c)) ≡ (b || (a || c))
swapped a b c = grind arith

twice : (a b : Bool) → (a || b) ≡ (a || (a || b))
twice a b = grind arith

pub setting_adds_one : SettingAddsOne
setting_adds_one d e [] = refl
setting_adds_one d e (x ∷ xs) =
    elim (comes_before x e) as (λ b. has d
    (cond b (x ∷ with e xs) (cond (is_same e x) (x ∷ xs) (e ∷ x ∷ xs)))
    ≡ (is_same d e || (is_same d x || has d xs))) [
      | true ↦ ap (λ b. is_same d x || b) (setting_adds_one d e xs)
          ∙ swapped (is_same d x) (is_same d e) (has d xs)
      | false ↦ elim (is_same e x) as (λ b. is_same e x ≡ b → has d
          (cond b (x ∷ xs) (e ∷ x ∷ xs)) ≡ (is_same d e || (is_same d x || has d xs))) [
            | true ↦ λ s.
                twice (is_same d x) (has d xs)
                ∙ ap (λ y. is_same d y || (is_same d x || has d xs))
                (sym (same_deadline e x s))
            | false ↦ λ s. refl
          ] refl
    ]

pub removal_takes_one : RemovalTakesOne
removal_takes_one d e ds =
    any-filter_same (is_same d) (λ x. not (is_same e x)) (not (is_same d e))
    (λ x same. ap not
    (ap (is_same e) (sym (same_deadline d x same)) ∙ same_turned e d)) ds

-- one that comes before all is none of them
pub not_among : (d : Deadline) (ds : List Deadline) → IsBeforeAll d ds → has d ds ≡ false
not_among d [] h = refl
not_among d (e ∷ es) h =
    elim (is_same d e) as (λ b. is_same d e ≡ b → (b || has d es) ≡ false) [
      | true ↦ λ s.
          let no : comes_before d e ≡ false =
          ap (comes_before d) (sym (same_deadline d e s)) ∙ not_before_itself d in
          absurd (let clash : true ≡ false = sym h.0 ∙ no in cc)
      | false ↦ λ s. not_among d es h.1
    ] refl

here : (d : Deadline) (ds : List Deadline) → has d (d ∷ ds) ≡ true
here d ds = ap (λ b. b || has d ds) (is_itself d)

-- a member of what comes after a deadline comes after it
after_first : (d x : Deadline) (ds : List Deadline) → IsBeforeAll d ds → has x ds ≡ true
    → comes_before d x ≡ true
after_first d e [] h is = absurd cc
after_first d x (e ∷ es) h among =
    elim (is_same x e) as (λ b. is_same x e ≡ b → (b || has x es) ≡ true
    → comes_before d x ≡ true) [
      | true ↦ λ s is. ap (comes_before d) (same_deadline x e s) ∙ h.0
      | false ↦ λ s is. after_first d x es h.1 is
    ] refl among

-- of the first deadlines of two lists with the same members, each is the other
first_same : (d e : Deadline) (ds es : List Deadline) → IsOrdered (d ∷ ds) → IsOrdered (e ∷ es)
    → ((x : Deadline) → has x (d ∷ ds) ≡ has x (e ∷ es)) → is_same d e ≡ true
first_same d e ds es h k same =
    elim (is_same d e) as (λ b. is_same d e ≡ b → b ≡ true) [
      | true ↦ λ s. refl
      | false ↦ λ s.
          let in_es : has d es ≡ true =
          ap (λ b. b || has d es) (sym s) ∙ (sym (same d) ∙ here d ds) in
          let e_d = after_first e d es k.0 in_es in
          let in_ds : (is_same e d || has e ds) ≡ true = same e ∙ here e es in
          elim (is_same e d) as (λ b. is_same e d ≡ b → (b || has e ds) ≡ true → false ≡ true) [
            | true ↦ λ t is.
                let one : is_same d e ≡ true =
                ap (is_same d) (same_deadline e d t) ∙ is_itself d in sym s ∙ one
            | false ↦ λ t is.
                let d_e = after_first d e ds h.0 is in
                sym (not_before_itself d) ∙ before_trans d e d d_e e_d
          ] refl in_ds
    ] refl

tails : (d : Deadline) (ds es : List Deadline) → IsBeforeAll d ds → IsBeforeAll d es
    → ((x : Deadline) → has x (d ∷ ds) ≡ has x (d ∷ es)) → (x : Deadline) → has x ds ≡ has x es
tails d ds es h k same x =
    elim (is_same x d) as (λ b. is_same x d ≡ b → (b || has x ds) ≡ (b || has x es)
    → has x ds ≡ has x es) [
      | true ↦ λ s e.
          let is = same_deadline x d s in
          grind (arith, not_among)
      | false ↦ λ s e. e
    ] refl (same x)

pub one_index : OneIndex
one_index [] [] h k same = refl
one_index [] (e ∷ es) h k same = absurd (let no : false ≡ true = same e ∙ here e es in cc)
one_index (d ∷ ds) [] h k same = absurd (let no : true ≡ false = sym (here d ds) ∙ same d in cc)
one_index (d ∷ ds) (e ∷ es) h k same =
    let is = same_deadline d e (first_same d e ds es h k same) in
    let es_after : IsBeforeAll d es = subst (λ x. IsBeforeAll x es) (sym is) k.0 in
    let rest = one_index ds es h.1 k.1 (grind (arith, tails)) in
    λ i. is i ∷ rest i
