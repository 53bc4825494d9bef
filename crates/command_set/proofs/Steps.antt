-- The index stays in step with the keyspace.
use Rattle.std.proofs.Common.{arith}
use Rattle.std.proofs.Common.{◌≡◌, ◌∙◌, refl, sym, ap, subst, ℕ, List, [], ◌∷◌, Bool, true, false}
use Rattle.std.proofs.Common.{Option, None, Some, Result, Ok, Err, OnErr, not, ◌⊎◌, inl, inr, cond}
use Rattle.std.specs.Prelude.{◌&&◌, ◌||◌}
use Rattle.std.specs.FinMap.{get-empty}
use Rattle.std.specs.Cmp.Lexicographic.{slice_cmp}
use Rattle.std.specs.List.{list_any}
use Rattle.std.specs.Option.{option_and_then}
use Rattle.std.specs.Ordering.{nat_cmp}
use Rattle.std.specs.Str.{bytes_eq}
use Rattle.std.proofs.lemmas.Slice.Eq.{bytes_eq-Decides}
use Rattle.resp_value.specs.declared.octets.NoMemory.{NoMemory}
use Rattle.command_words.specs.declared.command.Command.{Command}
use Rattle.command_words.specs.declared.command.Done.{Done}
use Rattle.command_words.specs.declared.written.Written.TheVariants.{Keys, All}
use Rattle.command_words.specs.Effect.{Effect}
use Rattle.command_words.specs.Effects.{effect}
use Rattle.command_words.specs.Queries.{written}
use Rattle.command_words.specs.Space.{Space, deadline_at}
use Rattle.command_rows.specs.Rows.{IsRow}
use Rattle.expiry.specs.declared.index.Deadline.{Deadline}
use Rattle.expiry.specs.Blocks.{is_nil}
use Rattle.expiry.specs.Index.{has, is_same, is_at, without}
use Rattle.expiry.specs.Order.{IsOrdered}
use Rattle.expiry.proofs.DueKeys.{at_is, at_itself, right_true}
use Rattle.expiry.proofs.Members.{one_index, setting_adds_one, removal_takes_one}
use Rattle.expiry.proofs.Orders.{ordered_with, ordered_filter, same_deadline, is_itself}
use Rattle.command_set.specs.InStep.{InStep, is_current, with_one, deadlines_of, settled}
use Rattle.command_set.specs.InStep.{with_new, listed}
use Rattle.command_set.specs.Laws.{Moves, NothingIsInStep, OneIndexIsInStep}
use Rattle.command_set.specs.NewDeadlines.{new_deadline}
use Rattle.command_set.proofs.Moves.{row_moves, all_gone, same}

pub nothing_is_in_step : NothingIsInStep
nothing_is_in_step = record {
  ordered = tt;
  each = λ d. sym (ap (λ r. is_at d.at (option_and_then (λ h. h.deadline) r))
      (get-empty (slice_cmp nat_cmp) d.key));
}

pub one_index_is_in_step : OneIndexIsInStep
one_index_is_in_step ds es space a b =
    one_index ds es a.ordered b.ordered (λ d. a.each d ∙ sym (b.each d))

-- in step with no deadlines no key has one
none_at : (index : List Deadline) (s : Space) (key : List ℕ) → InStep index s
    → true ≡ is_nil index → deadline_at key s ≡ None
none_at (d ∷ ds) s key step none = absurd cc
none_at [] s key step none = by (deadline_at key s) refl
  where
    by : (r : Option ℕ) → deadline_at key s ≡ r → r ≡ None
    by None is = refl
    by (Some at) is =
        absurd (let no : false ≡ true =
        step.each (record { at = at; key = key }) ∙ (ap (is_at at) is ∙ at_itself at) in cc)

pub none_listed : (index : List Deadline) (s : Space) (keys : List (List ℕ)) → InStep index s
    → true ≡ is_nil index → deadlines_of keys s ≡ []
none_listed index s [] step none = refl
none_listed index s (key ∷ keys) step none =
    ap (λ r. with_one r key (deadlines_of keys s)) (none_at index s key step none)
    ∙ none_listed index s keys step none

-- what is settled has the members that are current, and those that were not looked at
module _ (x : Deadline) (t : Space) where
  stays_in : (s c h i : Bool) → (s ≡ true → c ≡ true)
      → (i && (c || not h)) ≡ (i && (c || not (s || h)))
  stays_in s c h i f = grind arith

  goes_out : (s c h i : Bool) → (s ≡ true → c ≡ false)
      → ((not s && i) && (c || not h)) ≡ (i && (c || not (s || h)))
  goes_out s c h i f = grind arith

  pub has_settled : (ds index : List Deadline)
      → has x (settled ds t index) ≡ (has x index && (is_current x t || not (has x ds)))
  has_settled [] index = grind arith
  has_settled (d ∷ ds) index =
      elim (is_current d t) as (λ b. is_current d t ≡ b
      → has x (settled ds t (cond b index (without d index)))
      ≡ (has x index && (is_current x t || not (is_same x d || has x ds)))) [
        | true ↦ λ e.
            has_settled ds index
            ∙ stays_in (is_same x d) (is_current x t) (has x ds) (has x index)
            (λ s. ap (λ y. is_current y t) (same_deadline x d s) ∙ e)
        | false ↦ λ e.
            has_settled ds (without d index)
            ∙ ap (λ b. b && (is_current x t || not (has x ds))) (removal_takes_one x d index)
            ∙ goes_out (is_same x d) (is_current x t) (has x ds) (has x index)
            (λ s. ap (λ y. is_current y t) (same_deadline x d s) ∙ e)
      ] refl

ordered_settled : (t : Space) (ds index : List Deadline) → IsOrdered index
    → IsOrdered (settled ds t index)
ordered_settled t [] index h = h
ordered_settled t (d ∷ ds) index h =
    elim (is_current d t) as (λ b. IsOrdered (settled ds t (cond b index (without d index)))) [
      | true ↦ ordered_settled t ds index h
      | false ↦ ordered_settled t ds (without d index)
          (ordered_filter (λ e. not (is_same d e)) index h)
    ]

ordered_new : (new : Option Deadline) (index : List Deadline) → IsOrdered index
    → IsOrdered (with_new new index)
ordered_new new index h = grind (arith, ordered_with)

has_new : (x : Deadline) (new : Option Deadline) (index : List Deadline)
    → has x (with_new new index) ≡ (has x (listed new) || has x index)
has_new x None index = refl
has_new x (Some d) index = setting_adds_one x d index ∙ by (is_same x d)
  where
    by : (b : Bool) → (b || has x index) ≡ ((b || false) || has x index)
    by true = refl
    by false = refl

-- the deadline of a key among these is listed
covered : (x : Deadline) (s : Space) (keys : List (List ℕ))
    → list_any (bytes_eq x.key) keys ≡ true → deadline_at x.key s ≡ Some x.at
    → has x (deadlines_of keys s) ≡ true
covered x s [] among e = absurd cc
covered x s (k ∷ ks) among e =
    elim (bytes_eq x.key k) as (λ b. bytes_eq x.key k ≡ b
    → (b || list_any (bytes_eq x.key) ks) ≡ true
    → has x (with_one (deadline_at k s) k (deadlines_of ks s)) ≡ true) [
      | true ↦ grind (arith, bytes_eq-Decides, is_itself)
      | false ↦ λ is h. further (deadline_at k s) (covered x s ks h e)
    ] refl among
  where
    further : (r : Option ℕ) → has x (deadlines_of ks s) ≡ true
        → has x (with_one r k (deadlines_of ks s)) ≡ true
    further None h = h
    further (Some at) h = right_true _ _ h

module _ (index : List Deadline) (s t : Space) (keys : List (List ℕ)) (new : Option Deadline)
    (step : InStep index s) (moves : Moves (Keys keys) new s t) where
  abbrev after : List Deadline
  after = settled (listed new) t (settled (deadlines_of keys s) t (with_new new index))

  -- a current deadline was there, or is new
  was_or_new : (x : Deadline) → is_current x t ≡ true
      → (has x (listed new) || has x index) ≡ true
  was_or_new x now = by (moves.from x.key x.at (at_is x.at (deadline_at x.key t) now))
    where
      by : ((deadline_at x.key s ≡ Some x.at) ⊎ (new ≡ Some (record { at = x.at; key = x.key })))
          → (has x (listed new) || has x index) ≡ true
      by (inl e) =
          right_true (has x (listed new)) (has x index)
          (step.each x ∙ (ap (is_at x.at) e ∙ at_itself x.at))
      by (inr e) =
          ap (λ n. has x (listed n) || has x index) e
          ∙ ap (λ b. (b || false) || has x index) (is_itself x)

  -- one that was there and is not current is that of a written key
  was_written : (x : Deadline) → is_current x t ≡ false → has x index ≡ true
      → has x (deadlines_of keys s) ≡ true
  was_written x now was = by (list_any (bytes_eq x.key) keys) refl
    where
      had : is_current x s ≡ true
      had = sym (step.each x) ∙ was

      by : (b : Bool) → list_any (bytes_eq x.key) keys ≡ b → has x (deadlines_of keys s) ≡ true
      by b among = grind (arith, covered, at_is)

  decided : (c l i b : Bool) → (c ≡ true → (l || i) ≡ true) → (c ≡ false → i ≡ true → b ≡ true)
      → ((((l || i) && (c || not b)) && (c || not l))) ≡ c
  decided c l i b f g = grind arith

  pub in_step : InStep after t
  in_step = record {
    ordered = ordered_settled t (listed new) _
        (ordered_settled t (deadlines_of keys s) _ (ordered_new new index step.ordered));
    each = λ x.
        has_settled x t (listed new) (settled (deadlines_of keys s) t (with_new new index))
        ∙ (ap (λ b. b && (is_current x t || not (has x (listed new))))
        (has_settled x t (deadlines_of keys s) (with_new new index)
        ∙ ap (λ b. b && (is_current x t || not (has x (deadlines_of keys s))))
        (has_new x new index))
        ∙ decided (is_current x t) (has x (listed new)) (has x index)
        (has x (deadlines_of keys s)) (was_or_new x) (was_written x));
  }

-- a run of a command moves what its row does
pub moved : (c : Command) (s : Space) (moment : ℕ) (r : Result Done NoMemory) (t : Space)
    → IsRow (effect c s moment) r s t → Moves (written c) (new_deadline c s moment) s t
moved c s moment r t is = grind (arith, row_moves, same)

pub stepped : (c : Command) (s : Space) (moment : ℕ) (r : Result Done NoMemory) (t : Space)
    (index : List Deadline) (keys : List (List ℕ)) → InStep index s → written c ≡ Keys keys
    → IsRow (effect c s moment) r s t
    → InStep (settled (listed (new_deadline c s moment)) t
    (settled (deadlines_of keys s) t (with_new (new_deadline c s moment) index))) t
stepped c s moment r t index keys step is row = grind (arith, in_step, moved)

-- where memory ran out, the index is as before
pub as_before : (r : Result Done NoMemory) (row : Effect) (s t : Space) (index new : List Deadline)
    → IsRow row r s t → InStep index s → InStep new t → OnErr r (new ≡ index)
as_before (Ok done) row s t index new is old now = tt
as_before (Err e) row s t index new is old now =
    one_index_is_in_step new index s (subst (InStep new) is now) old

-- a flush leaves no keys
pub emptied : (c : Command) (s : Space) (moment : ℕ) (t : Space) → written c ≡ All
    → t ≡ (effect c s moment).space → InStep [] t
emptied c s moment t is space =
    subst (InStep []) (sym (space ∙ all_gone c s moment is)) nothing_is_in_step
