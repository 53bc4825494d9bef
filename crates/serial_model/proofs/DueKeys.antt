-- The keys that are due, by the keyspace: exactly those whose deadline is past, each once.
use Rattle.std.proofs.Common.{◌≡◌, ◌∙◌, refl, sym, ap, ℕ, List, [], ◌∷◌, Bool, true, false}
use Rattle.std.proofs.Common.{Option, None, Some, is_some, eq-eqb, arith}
use Rattle.std.specs.Prelude.{◌&&◌, ◌||◌, ◌==◌}
use Rattle.std.specs.Cmp.Lexicographic.{slice_cmp, nat_list_cmp_total, texts_ties}
use Rattle.std.specs.FinMap.{keys, contains_key-keys, same_map, slice_cmp-IsAntisymmetric}
use Rattle.std.specs.FinMap.{nat_cmp-IsAntisymmetric}
use Rattle.std.specs.List.{list_any}
use Rattle.std.specs.Option.{option_and_then}
use Rattle.std.specs.Ordering.{nat_cmp, eq_by_cmp}
use Rattle.std.specs.Str.{bytes_eq}
use Rattle.std.proofs.lemmas.Slice.Eq.{bytes_eq-Decides}
use Rattle.command_words.specs.Expiry.{is_past, without_due}
use Rattle.command_words.specs.Space.{Held, Space, held_at, deadline_at}
use Rattle.command_words.proofs.HeldAt.{at_without_due}
use Rattle.expiry.specs.declared.index.Deadline.{Deadline}
use Rattle.expiry.specs.Index.{has, is_same, is_at, due, keys_of}
use Rattle.expiry.specs.Order.{IsBeforeAll, IsOrdered}
use Rattle.expiry.proofs.Orders.{ordered_with}
use Rattle.expiry.proofs.Members.{not_among, setting_adds_one, one_index}
use Rattle.expiry.proofs.DueKeys.{at_is, found, named_past, right_true}
use Rattle.serial_model.specs.Deadlines.{with_deadline, deadlines, due_keys}
use Rattle.serial_model.specs.Tracking.{AreApart}
use Rattle.serial_model.specs.Laws.{is_among}

abbrev life : Option Held → Option ℕ
life held = option_and_then (λ h. h.deadline) held

-- an index has the deadlines of a keyspace
abbrev pub AreOfSpace : List Deadline → Space → Type 0
AreOfSpace index space = (d : Deadline) → has d index ≡ is_at d.at (deadline_at d.key space)

-- ---- the deadlines of a keyspace

skips : (b a x : Bool) → (b ≡ true → x ≡ false) → (a && x) ≡ ((b || a) && x)
skips b a e f = grind arith

adds : (b a x y : Bool) → (b ≡ true → x ≡ y) → ((y && b) || (a && x)) ≡ ((b || a) && x)
adds b a e y f = grind arith

ties : (q : List ℕ) (ks : List (List ℕ))
    → list_any (eq_by_cmp (slice_cmp nat_cmp) q) ks ≡ list_any (bytes_eq q) ks
ties q [] = refl
ties q (k ∷ ks) =
    ap (λ b. b || list_any (eq_by_cmp (slice_cmp nat_cmp) q) ks) (sym (texts_ties q k))
    ∙ ap (λ b. bytes_eq q k || b) (ties q ks)

module _ (space : Space) where
  listed : (d : Deadline) (ks : List (List ℕ))
      → has d (deadlines space ks)
      ≡ (is_among ks d.key && is_at d.at (deadline_at d.key space))
  unfolding deadlines
  listed d [] = refl
  listed d (k ∷ ks) =
      let x = is_at d.at (deadline_at d.key space) in
      elim (deadline_at k space) as (λ o. deadline_at k space ≡ o
      → has d (with_deadline k o (deadlines space ks))
      ≡ ((bytes_eq d.key k || is_among ks d.key) && x)) [
        | None ↦ λ e.
            listed d ks
            ∙ skips (bytes_eq d.key k) (is_among ks d.key) x (grind (arith, bytes_eq-Decides))
        | Some at ↦ λ e.
            setting_adds_one d (record { at = at; key = k }) (deadlines space ks)
            ∙ ap (λ b. is_same d (record { at = at; key = k }) || b) (listed d ks)
            ∙ adds (bytes_eq d.key k) (is_among ks d.key) x (d.at == at)
            (grind (arith, bytes_eq-Decides))
      ] refl

  pub deadlines_are : AreOfSpace (deadlines space (keys space)) space
  deadlines_are d =
      listed d (keys space)
      ∙ ap (λ b. b && is_at d.at (deadline_at d.key space))
      (sym (ties d.key (keys space)) ∙ sym (contains_key-keys space d.key))
      ∙ by (held_at d.key space)
    where
      by : (h : Option Held) → (is_some h && is_at d.at (life h)) ≡ is_at d.at (life h)
      by h = grind arith

  pub deadlines_ordered : (ks : List (List ℕ)) → IsOrdered (deadlines space ks)
  unfolding deadlines
  deadlines_ordered [] = tt
  deadlines_ordered (k ∷ ks) = grind (arith, ordered_with, deadlines_ordered ks)

-- ---- those that are due

pub due_is_past : (moment : ℕ) (space : Space) (q : List ℕ)
    → is_among (due_keys moment space) q ≡ is_past moment (deadline_at q space)
unfolding due_keys
due_is_past moment space q =
    named_past moment q (deadlines space (keys space)) (deadline_at q space) (is_past moment)
    (λ at. deadlines_are space (record { at = at; key = q })) refl (λ at. refl)

-- the keys that are due by any index of the keyspace are those
pub due_by_index : (moment : ℕ) (space : Space) (index : List Deadline) → IsOrdered index
    → AreOfSpace index space → keys_of (due moment index) ≡ due_keys moment space
unfolding due_keys
due_by_index moment space index ordered each =
    ap (λ ds. keys_of (due moment ds))
    (grind (arith, one_index, deadlines_ordered, deadlines_are))

-- ---- each once

module _ (moment : ℕ) (space : Space) where
  abbrev AreCurrent : List Deadline → Type 0
  AreCurrent ds = (d : Deadline) → has d ds ≡ true → deadline_at d.key space ≡ Some d.at

  -- a key has one deadline
  once : (d : Deadline) (ds : List Deadline) → IsBeforeAll d ds → AreCurrent (d ∷ ds)
      → is_among (keys_of (due moment ds)) d.key ≡ false
  once d ds before current = grind (arith, found, right_true, not_among, eq-eqb, bytes_eq-Decides)

  apart : (ds : List Deadline) → IsOrdered ds → AreCurrent ds → AreApart (keys_of (due moment ds))
  apart [] ordered current = tt
  apart (d ∷ ds) ordered current =
      grind (arith, right_true, once, apart ds ordered.1 (λ e h. current e (right_true _ _ h)))

  pub due_apart : AreApart (due_keys moment space)
  unfolding due_keys
  due_apart = grind (arith, apart, deadlines_ordered, at_is, deadlines_are)

  -- ---- what they leave

  -- a key that is not due holds what it held
  pub none_due : due_keys moment space ≡ [] → without_due moment space ≡ space
  none_due none =
      same_map nat_list_cmp_total (slice_cmp-IsAntisymmetric nat_cmp-IsAntisymmetric) _ _
      (λ q. grind (arith, at_without_due, due_is_past))
