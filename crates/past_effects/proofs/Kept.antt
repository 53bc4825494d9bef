-- What is kept of a connection where one of them changes, or one more is admitted.
use Rattle.std.proofs.Common.{◌≡◌, ◌∙◌, ◌-◌, ◌<◌, ◌≤◌, ℕ, zero, suc, List, [], ◌∷◌, ◌++◌, true}
use Rattle.std.proofs.Common.{false, cond, refl, ap, arith, length, get_or, slice_set}
use Rattle.std.proofs.Common.{get_or-set_same, get_or-set_other, inl, inr, subst}
use Rattle.std.proofs.lemmas.Bool.{cases_eq}
use Rattle.std.proofs.Math.ListN.{length-set}
use Rattle.std.specs.Prelude.{◌&&◌, nat_lt, nat_le}
use Rattle.std.proofs.lemmas.Bool.Decides.{nat_tests}
use Rattle.past_effects.specs.Seen.{Seen, admitted_one, changed, is_there, seen_at}

-- ---- one changes

module _ (id : ℕ) (f : Seen → Seen) (cs : List Seen) where
  pub changed_count : length (changed id f cs) ≡ length cs
  changed_count =
      elim (is_there cs id) as (λ b. length (cond b (slice_set cs (id - 1) (f (seen_at cs id))) cs)
      ≡ length cs) [
        | true ↦ length-set cs (id - 1) (f (seen_at cs id))
        | false ↦ refl
      ]

  pub changed_there : (c : ℕ) → is_there (changed id f cs) c ≡ is_there cs c
  changed_there c = ap (λ n. nat_lt 0 c && nat_le c n) changed_count

  pub changed_none : is_there cs id ≡ false → changed id f cs ≡ cs
  changed_none off = ap (λ b. cond b (slice_set cs (id - 1) (f (seen_at cs id))) cs) off

  pub changed_own : is_there cs id ≡ true → seen_at (changed id f cs) id ≡ f (seen_at cs id)
  changed_own on = grind (arith, nat_tests, get_or-set_same)

  pub changed_other : (c : ℕ) → (id ≡ c → ⊥) → seen_at (changed id f cs) c ≡ seen_at cs c
  changed_other c ne = grind (arith, nat_tests, get_or-set_other)

  -- a part that stays
  pub changed_keeps : {X : Type 0} (part : Seen → X) → ((x : Seen) → part (f x) ≡ part x)
      → (c : ℕ) → part (seen_at (changed id f cs) c) ≡ part (seen_at cs c)
  changed_keeps part keeps c = elim (cases_eq id c) as (λ x.
      part (seen_at (changed id f cs) c) ≡ part (seen_at cs c)) [
        | inl e ↦ subst (λ i. part (seen_at (changed id f cs) i) ≡ part (seen_at cs i)) e
            (elim (is_there cs id) as (λ b. is_there cs id ≡ b
            → part (seen_at (changed id f cs) id) ≡ part (seen_at cs id)) [
              | true ↦ λ on. ap part (changed_own on) ∙ keeps (seen_at cs id)
              | false ↦ λ off. ap (λ x. part (seen_at x id)) (changed_none off)
            ] refl)
        | inr ne ↦ ap part (changed_other c ne)
      ]

-- ---- one more

more_at : (cs : List Seen) (k : ℕ)
    → get_or (cs ++ admitted_one ∷ []) k admitted_one ≡ get_or cs k admitted_one
more_at [] zero = refl
more_at [] (suc k) = refl
more_at (c ∷ cs) zero = refl
more_at (c ∷ cs) (suc k) = more_at cs k

pub more_seen : (cs : List Seen) (c : ℕ) → seen_at (cs ++ admitted_one ∷ []) c ≡ seen_at cs c
more_seen cs c = ap (λ x. cond (nat_lt 0 c) x admitted_one) (more_at cs (c - 1))

past_end : (cs : List Seen) (k : ℕ) → length cs ≤ k → get_or cs k admitted_one ≡ admitted_one
past_end [] k le = refl
past_end (c ∷ cs) zero le = absurd (let no : ⊥ = omega (arith, le) in no)
past_end (c ∷ cs) (suc k) le = past_end cs k (omega (arith, le))

pub next_seen : (cs : List Seen) (c : ℕ) → length cs < c → seen_at cs c ≡ admitted_one
next_seen cs c lt =
    ap (λ x. cond (nat_lt 0 c) x admitted_one) (past_end cs (c - 1) (omega (arith, lt)))
    ∙ grind arith

pub not_there : (cs : List Seen) (c : ℕ) → is_there cs c ≡ false → seen_at cs c ≡ admitted_one
not_there cs c off = grind (arith, nat_tests, past_end)
