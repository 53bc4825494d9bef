-- Deadlines in order, in parts: what a change of one part does to the whole.
use Rattle.std.proofs.Common.{◌≡◌, ◌<◌, List, [], ◌∷◌, ◌++◌, Bool, true, false, cond}
use Rattle.std.proofs.Common.{length, refl, ap, sym, ◌∙◌, arith}
use Rattle.std.specs.Prelude.{not, ◌||◌}
use Rattle.expiry.specs.declared.index.Deadline.{Deadline}
use Rattle.expiry.specs.Index.{comes_before, is_same, has, with, without}
use Rattle.expiry.specs.Order.{IsBeforeAll, IsOrdered}
use Rattle.expiry.proofs.Orders.{same_deadline, not_before_itself, before_trans, otherwise_before}
use Rattle.expiry.proofs.Orders.{same_turned}

-- the deadline comes after all of these
abbrev pub IsAfterAll : Deadline → List Deadline → Type 0
IsAfterAll d [] = Unit {0}
IsAfterAll d (e ∷ es) = (comes_before e d ≡ true) × IsAfterAll d es

pub other_before : (d e : Deadline) → comes_before d e ≡ true → is_same d e ≡ false
other_before d e before =
    elim (is_same d e) as (λ b. is_same d e ≡ b → b ≡ false) [
      | true ↦ λ s.
          let no : comes_before d e ≡ false =
          ap (comes_before d) (sym (same_deadline d e s)) ∙ not_before_itself d in
          absurd (let clash : true ≡ false = sym before ∙ no in cc)
      | false ↦ λ s. refl
    ] refl

pub other_after : (d e : Deadline) → comes_before e d ≡ true → is_same d e ≡ false
other_after d e before = same_turned d e ∙ other_before e d before

pub not_both : (d e : Deadline) → comes_before d e ≡ true → comes_before e d ≡ false
not_both d e before =
    elim (comes_before e d) as (λ b. comes_before e d ≡ b → b ≡ false) [
      | true ↦ λ s. sym (before_trans d e d before s) ∙ not_before_itself d
      | false ↦ λ s. refl
    ] refl

pub before_right : (d : Deadline) (xs ys : List Deadline) → IsBeforeAll d (xs ++ ys)
    → IsBeforeAll d ys
before_right d [] ys h = h
before_right d (x ∷ xs) ys h = before_right d xs ys h.1

before_left : (d : Deadline) (xs ys : List Deadline) → IsBeforeAll d (xs ++ ys)
    → IsBeforeAll d xs
before_left d [] ys h = tt
before_left d (x ∷ xs) ys h = (h.0, before_left d xs ys h.1)

pub ordered_right : (xs ys : List Deadline) → IsOrdered (xs ++ ys) → IsOrdered ys
ordered_right [] ys h = h
ordered_right (x ∷ xs) ys h = ordered_right xs ys h.1

pub ordered_left : (xs ys : List Deadline) → IsOrdered (xs ++ ys) → IsOrdered xs
ordered_left [] ys h = tt
ordered_left (x ∷ xs) ys h = (before_left x xs ys h.0, ordered_left xs ys h.1)

pub after_part : (xs : List Deadline) (y : Deadline) (ys : List Deadline)
    → IsOrdered (xs ++ y ∷ ys) → IsAfterAll y xs
after_part [] y ys h = tt
after_part (x ∷ xs) y ys h = ((before_right x xs (y ∷ ys) h.0).0, after_part xs y ys h.1)

-- what is before a deadline that does not come after this one is before this one
pub after_further : (d e : Deadline) (xs : List Deadline) → IsAfterAll e xs
    → comes_before d e ≡ false → IsAfterAll d xs
after_further d e [] h still = tt
after_further d e (x ∷ xs) h still = (
  elim (is_same e d) as (λ b. is_same e d ≡ b → comes_before x d ≡ true) [
    | true ↦ λ s. sym (ap (comes_before x) (same_deadline e d s)) ∙ h.0
    | false ↦ λ s. before_trans x e d h.0 (otherwise_before e d still s)
  ] refl,
  after_further d e xs h.1 still,
)

module _ (d : Deadline) where
  abbrev chosen : Bool → Bool → Deadline → List Deadline → List Deadline → List Deadline
  chosen b s e rest es = cond b (e ∷ rest) (cond s (e ∷ es) (d ∷ e ∷ es))

  pub with_right : (xs ys : List Deadline) → IsAfterAll d xs → with d (xs ++ ys) ≡ xs ++ with d ys
  with_right [] ys h = refl
  with_right (x ∷ xs) ys h =
      ap (λ b. chosen b (is_same d x) x (with d (xs ++ ys)) (xs ++ ys)) h.0
      ∙ ap (λ l. x ∷ l) (with_right xs ys h.1)

  with_first : (ys : List Deadline) → IsBeforeAll d ys → with d ys ≡ d ∷ ys
  with_first [] h = refl
  with_first (y ∷ ys) h =
      ap (λ b. chosen b (is_same d y) y (with d ys) ys) (not_both d y h.0)
      ∙ ap (λ b. chosen false b y (with d ys) ys) (other_before d y h.0)

  pub with_left : (xs ys : List Deadline) → IsBeforeAll d ys → with d (xs ++ ys) ≡ with d xs ++ ys
  with_left [] ys h = with_first ys h
  with_left (x ∷ xs) ys h =
      elim (comes_before x d) as (λ b. chosen b (is_same d x) x (with d (xs ++ ys)) (xs ++ ys)
      ≡ chosen b (is_same d x) x (with d xs) xs ++ ys) [
        | true ↦ ap (λ l. x ∷ l) (with_left xs ys h)
        | false ↦ elim (is_same d x) as (λ b. chosen false b x (with d (xs ++ ys)) (xs ++ ys)
            ≡ chosen false b x (with d xs) xs ++ ys) [
              | true ↦ refl
              | false ↦ refl
            ]
      ]

  abbrev passed : Bool → Deadline → List Deadline → List Deadline
  passed b e rest = cond (not b) (e ∷ rest) rest

  pub none_behind : (xs : List Deadline) → IsAfterAll d xs → without d xs ≡ xs
  none_behind [] h = refl
  none_behind (x ∷ xs) h =
      ap (λ b. passed b x (without d xs)) (other_after d x h.0)
      ∙ ap (λ l. x ∷ l) (none_behind xs h.1)

  pub none_ahead : (xs : List Deadline) → IsBeforeAll d xs → without d xs ≡ xs
  none_ahead [] h = refl
  none_ahead (x ∷ xs) h =
      ap (λ b. passed b x (without d xs)) (other_before d x h.0)
      ∙ ap (λ l. x ∷ l) (none_ahead xs h.1)

  pub not_behind : (xs : List Deadline) → IsAfterAll d xs → has d xs ≡ false
  not_behind [] h = refl
  not_behind (x ∷ xs) h =
      ap (λ b. b || has d xs) (other_after d x h.0) ∙ not_behind xs h.1

  pub some_with : (ds : List Deadline) → 0 < length (with d ds)
  some_with [] = omega arith
  some_with (e ∷ es) =
      elim (comes_before e d) as (λ b. 0 < length (chosen b (is_same d e) e (with d es) es)) [
        | true ↦ omega arith
        | false ↦ elim (is_same d e)
            as (λ b. 0 < length (chosen false b e (with d es) es)) [
              | true ↦ omega arith
              | false ↦ omega arith
            ]
      ]
