-- The row of an addition, from what it found and what it wrote.
use Rattle.std.proofs.Common.{arith, ◌≡◌, ◌∙◌, sym, ap, ℕ, ℤ, List, [], ◌∷◌}
use Rattle.std.proofs.Common.{Option, Some, Result, Ok, Err, OnErr, IfOk}
use Rattle.std.specs.FinMap.{get, insert}
use Rattle.std.specs.Fmt.{signed_decimal}
use Rattle.std.specs.Option.{option_map, option_and_then}
use Rattle.resp_value.specs.declared.value.Value.{Value}
use Rattle.resp_value.specs.declared.value.Value.TheVariants.{Number}
use Rattle.command_words.specs.Space.{Content, Text, Fields, Held, Space, content_at, deadline_at}
use Rattle.command_words.specs.Effect.{Effect, number_in, sum_in, replied, wrote, wrong_type}
use Rattle.command_words.specs.Effect.{not_integer, overflow}
use Rattle.command_words.specs.Strings.{on_text, incrby_row, incrby_effect, put_text}
use Rattle.command_rows.specs.declared.integers.Addition.TheVariants as addition
use Rattle.command_rows.specs.Additions.{IsAddition}
use Rattle.keyspace.specs.Lending.{with_held}
use Rattle.keyspace.proofs.Changes.{with_held-insert, with_held-same}
use Rattle.string_cmds.specs.declared.numbers.Counted.{Counted}
use Rattle.string_cmds.specs.declared.numbers.Counted.TheVariants.{Sum, NoInteger, Overflow}
use Rattle.string_cmds.specs.declared.numbers.Counted.TheVariants.{WrongType}
use Rattle.string_cmds.specs.Counted.{IsCounted, IsHad, counted_row}

-- what an addition found, as the sum or the error
found_sum : (value : Option ℤ) (n sum : ℤ) → IsAddition value n (addition.Sum sum)
    → sum_in not_integer value n ≡ Ok sum
found_sum value n sum is = grind arith

found_none : (value : Option ℤ) (n : ℤ) → IsAddition value n addition.NoInteger
    → sum_in not_integer value n ≡ Err not_integer
found_none value n is = grind arith

found_more : (value : Option ℤ) (n : ℤ) → IsAddition value n addition.Overflow
    → sum_in not_integer value n ≡ Err overflow
found_more value n is = grind arith

module _ (key : List ℕ) (n : ℤ) (s : Space) where
  abbrev by_content : Option Content → Effect
  by_content content =
      on_text (replied wrong_type s)
      (λ v. incrby_row key (sum_in not_integer (number_in v) n) s) content

  -- a key that holds this string
  text_row : (v : List ℕ) (found : Result ℤ Value) → content_at key s ≡ Some (Text v)
      → sum_in not_integer (number_in (Some v)) n ≡ found
      → incrby_row key found s ≡ incrby_effect key n s
  text_row v found at is =
      ap (λ r. incrby_row key r s) (sym is) ∙ ap by_content (sym at)

  module _ (old new : Held) (t : Space) (at : Some old ≡ get s key)
      (now : t ≡ with_held key new s) where
    content : (c : Content) → old.content ≡ c → content_at key s ≡ Some c
    content c is = ap (option_map (λ h. h.content)) (sym at) ∙ ap Some is

    stays : new ≡ old → t ≡ s
    stays same = now ∙ (ap (λ h. with_held key h s) same ∙ with_held-same key s old at)

    written : (sum : ℤ)
        → new ≡ record { content = Text (signed_decimal sum); deadline = old.deadline }
        → t ≡ put_text key (signed_decimal sum) (deadline_at key s) s
    written sum is =
        now
        ∙ (with_held-insert key s old new at
        ∙ (ap (insert s key) is
        ∙ ap (λ d. put_text key (signed_decimal sum) d s)
        (ap (option_and_then (λ h. h.deadline)) at)))

    pub counted : (c : Counted) → IsCounted n c old new
        → counted_row key c t ≡ incrby_effect key n s
    counted (Sum sum had) is =
        ap (wrote (Number sum) (key ∷ [])) (written sum is.3)
        ∙ text_row is.0 (Ok sum) (content (Text is.0) is.1)
        (found_sum (number_in (Some is.0)) n sum is.2)
    counted NoInteger is =
        ap (replied not_integer) (stays is.3)
        ∙ text_row is.0 (Err not_integer) (content (Text is.0) is.1)
        (found_none (number_in (Some is.0)) n is.2)
    counted Overflow is =
        ap (replied overflow) (stays is.3)
        ∙ text_row is.0 (Err overflow) (content (Text is.0) is.1)
        (found_more (number_in (Some is.0)) n is.2)
    counted WrongType is =
        ap (replied wrong_type) (stays is.2)
        ∙ ap by_content (sym (content (Fields is.0) is.1))

    pub had : (c : Counted) → IsCounted n c old new → IsHad key c s t
    had (Sum sum h) is = sym at ∙ sym is.4
    had NoInteger is = stays is.3
    had Overflow is = stays is.3
    had WrongType is = stays is.2

pub if_ok : {A E : Type 0} {P Q : A → Type 0} → ((a : A) → P a → Q a) → (r : Result A E)
    → IfOk r P → IfOk r Q
if_ok f (Ok a) p = f a p
if_ok f (Err e) p = p

pub on_err : {A E P Q : Type 0} → (P → Q) → (r : Result A E) → OnErr r P → OnErr r Q
on_err f (Ok a) p = p
on_err f (Err e) p = f p
