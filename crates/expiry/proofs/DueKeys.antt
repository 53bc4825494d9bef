-- The keys that are due: one of which an index has one deadline is among them exactly where that
-- deadline is past.
use Rattle.std.proofs.Common.{◌≡◌, ◌∙◌, refl, sym, ap, ℕ, List, [], ◌∷◌, Bool, true, false, cond}
use Rattle.std.proofs.Common.{Option, None, Some, eq-eqb, arith}
use Rattle.std.specs.Prelude.{◌||◌, nat_lt}
use Rattle.std.specs.Cmp.{both_ways}
use Rattle.std.specs.List.{list_any}
use Rattle.std.specs.Str.{bytes_eq}
use Rattle.std.proofs.lemmas.Bool.{eqb-true}
use Rattle.std.proofs.lemmas.Slice.Eq.{bytes_eq-Decides}
use Rattle.expiry.specs.declared.index.Deadline.{Deadline}
use Rattle.expiry.specs.Index.{has, is_same, is_due, due, is_at, keys_of}
use Rattle.expiry.proofs.Orders.{same_deadline}

pub at_is : (at : ℕ) (o : Option ℕ) → is_at at o ≡ true → o ≡ Some at
at_is at o e = grind (arith, eqb-true)

pub at_itself : (at : ℕ) → is_at at (Some at) ≡ true
at_itself at = eq-eqb at at refl

pub right_true : (b c : Bool) → c ≡ true → (b || c) ≡ true
right_true b c e = grind arith

module _ (moment : ℕ) (q : List ℕ) where
  abbrev named : List Deadline → Bool
  named ds = list_any (bytes_eq q) (keys_of (due moment ds))

  -- a deadline of the key that is due
  abbrev pub IsDueAt : List Deadline → Type 0
  IsDueAt ds = (at : ℕ) × (has (record { at = at; key = q }) ds ≡ true) × (nat_lt at moment ≡ true)

  further : (d : Deadline) (ds : List Deadline) → IsDueAt ds → IsDueAt (d ∷ ds)
  further d ds f = (f.0, right_true _ _ f.1, f.2)

  pub found : (ds : List Deadline) → named ds ≡ true → IsDueAt ds
  found [] e = absurd cc
  found (d ∷ ds) e =
      elim (is_due moment d) as (λ b. is_due moment d ≡ b
      → list_any (bytes_eq q) (keys_of (cond b (d ∷ due moment ds) (due moment ds))) ≡ true
      → IsDueAt (d ∷ ds)) [
        | true ↦ λ past h. elim (bytes_eq q d.key) as (λ b. bytes_eq q d.key ≡ b
            → (b || named ds) ≡ true → IsDueAt (d ∷ ds)) [
              | true ↦ grind (arith, eq-eqb)
              | false ↦ λ is g. further d ds (found ds g)
            ] refl h
        | false ↦ λ past h. further d ds (found ds h)
      ] refl e

  among_due : (at : ℕ) (ds : List Deadline) → has (record { at = at; key = q }) ds ≡ true
      → nat_lt at moment ≡ true → named ds ≡ true
  among_due at [] e past = absurd cc
  among_due at (d ∷ ds) e past =
      elim (is_same (record { at = at; key = q }) d)
      as (λ b. is_same (record { at = at; key = q }) d ≡ b
      → (b || has (record { at = at; key = q }) ds) ≡ true → named (d ∷ ds) ≡ true) [
        | true ↦ grind (arith, same_deadline, named, bytes_eq-Decides)
        | false ↦ λ s h.
            let rest = among_due at ds h past in
            grind (arith, right_true)
      ] refl e

  -- a key is named exactly where its deadline is past
  pub named_past : (index : List Deadline) (own : Option ℕ) (is_past : Option ℕ → Bool)
      → ((at : ℕ) → has (record { at = at; key = q }) index ≡ is_at at own)
      → is_past None ≡ false → ((at : ℕ) → is_past (Some at) ≡ nat_lt at moment)
      → list_any (bytes_eq q) (keys_of (due moment index)) ≡ is_past own
  named_past index own is_past each none some =
      both_ways (named index) (is_past own) forth (back own refl)
    where
      forth : named index ≡ true → is_past own ≡ true
      forth e = grind (arith, found, at_is)

      back : (o : Option ℕ) → own ≡ o → is_past o ≡ true → named index ≡ true
      back None is e = let no : true ≡ false = sym e ∙ none in absurd cc
      back (Some at) is e =
          among_due at index (each at ∙ (ap (is_at at) is ∙ at_itself at)) (sym (some at) ∙ e)
