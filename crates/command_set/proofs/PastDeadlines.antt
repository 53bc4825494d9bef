-- The keys that are due, by the index and by the keyspace.
use Rattle.std.proofs.Common.{◌≡◌, ◌∙◌, refl, sym, ap, ℕ, List, [], ◌∷◌, Bool, true, false, cond}
use Rattle.std.proofs.Common.{Option, None, Some, not, arith}
use Rattle.std.specs.declared.cmp.Ordering.TheVariants.{Equal}
use Rattle.std.specs.Prelude.{◌&&◌, ◌||◌, nat_lt}
use Rattle.std.specs.Cmp.Lexicographic.{slice_cmp, nat_list_cmp_total}
use Rattle.std.specs.FinMap.{get, remove, get-retain_keys, same_map}
use Rattle.std.specs.FinMap.{slice_cmp-IsAntisymmetric, nat_cmp-IsAntisymmetric}
use Rattle.std.specs.List.{list_any}
use Rattle.std.specs.Option.{option_and_then}
use Rattle.std.specs.Ordering.{nat_cmp}
use Rattle.std.specs.Str.{bytes_eq}
use Rattle.std.proofs.lemmas.Bool.Decides.{nat_tests}
use Rattle.command_words.specs.Expiry.{is_past, without_due}
use Rattle.command_words.specs.Keys.{remove_each}
use Rattle.command_words.specs.Space.{Held, Space, deadline_at}
use Rattle.std.proofs.lemmas.Map.Views.{any-filter_same}
use Rattle.expiry.specs.declared.index.Deadline.{Deadline}
use Rattle.expiry.specs.Index.{has, is_due, due, left, is_at, keys_of}
use Rattle.expiry.proofs.DueKeys.{named_past as due_past}
use Rattle.expiry.proofs.Orders.{ordered_filter, same_deadline}
use Rattle.command_set.specs.InStep.{InStep}
use Rattle.command_set.proofs.Moves.{at_remove}

abbrev life : Option Held → Option ℕ
life held = option_and_then (λ h. h.deadline) held

get_removed : (ks : List (List ℕ)) (s : Space) (q : List ℕ)
    → get (remove_each ks s) q ≡ cond (list_any (bytes_eq q) ks) None (get s q)
get_removed [] s q = refl
get_removed (k ∷ ks) s q =
    get_removed ks (remove s k) q
    ∙ (grind (arith, at_remove))
  where
    by : (a b : Bool) → cond b None (cond a None (get s q)) ≡ cond (a || b) None (get s q)
    by true true = refl
    by true false = refl
    by false b = refl

-- a key is named exactly where its deadline is past
pub named_past : (moment : ℕ) (q : List ℕ) (index : List Deadline) (s : Space) → InStep index s
    → list_any (bytes_eq q) (keys_of (due moment index)) ≡ is_past moment (deadline_at q s)
named_past moment q index s step =
    due_past moment q index (deadline_at q s) (is_past moment)
    (λ at. step.each (record { at = at; key = q })) refl (λ at. refl)

module _ (moment : ℕ) (s : Space) where
  alike : (q x : List ℕ) → slice_cmp nat_cmp q x ≡ Equal
      → not (is_past moment (deadline_at x s)) ≡ not (is_past moment (deadline_at q s))
  alike q x tied =
      ap (λ key. not (is_past moment (deadline_at key s)))
      (sym (slice_cmp-IsAntisymmetric nat_cmp-IsAntisymmetric q x tied))

  pub get_without : (q : List ℕ) → get (without_due moment s) q
      ≡ cond (not (is_past moment (deadline_at q s))) (get s q) None
  get_without q =
      get-retain_keys s (λ key. not (is_past moment (deadline_at key s))) q
      (λ x tied. alike q x tied)

  -- to take out the keys of the deadlines that are due leaves those that are not
  pub dropped : (index : List Deadline) → InStep index s
      → remove_each (keys_of (due moment index)) s ≡ without_due moment s
  dropped index step =
      same_map nat_list_cmp_total (slice_cmp-IsAntisymmetric nat_cmp-IsAntisymmetric) _ _
      (grind (arith, get_removed, named_past, get_without))
    where
      turned : (b : Bool) (r : Option Held) → cond b None r ≡ cond (not b) r None
      turned true r = refl
      turned false r = refl

  has_left : (d : Deadline) (ds : List Deadline)
      → has d (left moment ds) ≡ (not (is_due moment d) && has d ds)
  has_left d ds = grind (arith, any-filter_same, same_deadline)

  shown : (at : ℕ) (b : Bool) (held : Held)
      → is_at at (life (cond b (Some held) None)) ≡ (b && is_at at held.deadline)
  shown at b held = grind arith

  current_left : (at : ℕ) (r : Option Held)
      → (not (nat_lt at moment) && is_at at (life r))
      ≡ is_at at (life (cond (not (is_past moment (life r))) r None))
  current_left at r = grind (arith, shown, nat_tests)

  pub left_in_step : (index : List Deadline) → InStep index s
      → InStep (left moment index) (without_due moment s)
  left_in_step index step = record {
    ordered = ordered_filter (λ d. not (is_due moment d)) index step.ordered;
    each = λ d.
        has_left d index
        ∙ (ap (λ b. not (is_due moment d) && b) (step.each d)
        ∙ (current_left d.at (get s d.key)
        ∙ sym (ap (λ r. is_at d.at (life r)) (get_without d.key))));
  }
