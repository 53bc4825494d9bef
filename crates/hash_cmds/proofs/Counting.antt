-- The row of an addition to a field, from what it found and what it wrote.
use Rattle.std.proofs.Common.{arith, ◌≡◌, ◌∙◌, refl, sym, ap, subst, ℕ, ℤ, List, [], ◌∷◌}
use Rattle.std.proofs.Common.{Option, Some, None, Result, Ok, Err}
use Rattle.std.specs.Fmt.{signed_decimal}
use Rattle.std.specs.Option.{option_map}
use Rattle.resp_value.specs.declared.value.Value.{Value}
use Rattle.resp_value.specs.declared.value.Value.TheVariants.{Number}
use Rattle.command_words.specs.Space.{Content, Text, Fields, Held, Space, content_at}
use Rattle.command_words.specs.Effect.{Effect, number_in, sum_in, replied, wrote, wrong_type}
use Rattle.command_words.specs.Effect.{hash_not_integer, overflow}
use Rattle.command_words.specs.Hashes.{Pairs, field_get, field_set, field_sum, on_fields}
use Rattle.command_words.specs.Hashes.{put_fields, hincrby_row, hincrby_effect}
use Rattle.command_rows.specs.declared.integers.Addition.TheVariants as addition
use Rattle.command_rows.specs.Additions.{IsAddition}
use Rattle.keyspace.specs.Lending.{with_content}
use Rattle.keyspace.proofs.Changes.{with_content-insert, with_content-same}
use Rattle.hash_cmds.specs.declared.numbers.Counted.{Counted}
use Rattle.hash_cmds.specs.declared.numbers.Counted.TheVariants.{Sum, NoInteger, Overflow}
use Rattle.hash_cmds.specs.declared.numbers.Counted.TheVariants.{WrongType}
use Rattle.hash_cmds.specs.declared.numbers.FieldChange.{FieldChange}
use Rattle.hash_cmds.specs.declared.numbers.FieldChange.TheVariants.{Field}
use Rattle.hash_cmds.specs.Counted.{IsChange, IsCountedIn, IsHad, counted_row}
use Rattle.hash_cmds.proofs.HashRows.{put-field_set, sum_of}

-- what an addition found, as the error
found_none : (value : Option ℤ) (n : ℤ) → IsAddition value n addition.NoInteger
    → sum_in hash_not_integer value n ≡ Err hash_not_integer
found_none value n is = grind arith

found_more : (value : Option ℤ) (n : ℤ) → IsAddition value n addition.Overflow
    → sum_in hash_not_integer value n ≡ Err overflow
found_more value n is = grind arith

module _ (key field : List ℕ) (n : ℤ) (s : Space) where
  abbrev by_content : Option Content → Effect
  by_content content =
      on_fields (replied wrong_type s) (λ fs. hincrby_row key field (field_sum field n fs) fs s)
      content

  -- a key that holds this hash
  hash_row : (fs : Pairs) (found : Result ℤ Value) → content_at key s ≡ Some (Fields fs)
      → field_sum field n fs ≡ found
      → hincrby_row key field found fs s ≡ hincrby_effect key field n s
  hash_row fs found at is =
      ap (λ r. hincrby_row key field r fs s) (sym is) ∙ ap by_content (sym at)

  module _ (old new : Content) (t : Space) (at : Some old ≡ content_at key s)
      (now : t ≡ with_content key new s) where
    has : (c : Content) → old ≡ c → content_at key s ≡ Some c
    has c is = sym at ∙ ap Some is

    stays : new ≡ old → t ≡ s
    stays same =
        now ∙ (ap (λ c. with_content key c s) same ∙ with_content-same key s old (sym at))

    unchanged : (fs gs : Pairs) → old ≡ Fields fs → new ≡ Fields gs → gs ≡ fs → t ≡ s
    unchanged fs gs before after same = stays (after ∙ (ap Fields same ∙ sym before))

    written : (fs gs : Pairs) (sum : ℤ) → new ≡ Fields gs
        → gs ≡ field_set field (signed_decimal sum) fs
        → t ≡ put_fields key (field_set field (signed_decimal sum) fs) s
    written fs gs sum after is =
        now
        ∙ (ap (λ c. with_content key c s) (after ∙ ap Fields is)
        ∙ (with_content-insert key s old (Fields (field_set field (signed_decimal sum) fs)) (sym at)
        ∙ put-field_set key field (signed_decimal sum) fs s))

    pub counted : (c : Counted) → IsCountedIn field n c old new
        → counted_row key c t ≡ hincrby_effect key field n s
    counted (Sum sum had) is =
        ap (wrote (Number sum) (key ∷ [])) (written is.0 is.1 sum is.3 is.4.1)
        ∙ hash_row is.0 (Ok sum) (has (Fields is.0) is.2)
        (sum_of hash_not_integer (number_in (field_get field is.0)) n sum is.4.0)
    counted NoInteger is =
        ap (replied hash_not_integer) (unchanged is.0 is.1 is.2 is.3 is.4.1)
        ∙ hash_row is.0 (Err hash_not_integer) (has (Fields is.0) is.2)
        (found_none (number_in (field_get field is.0)) n is.4.0)
    counted Overflow is =
        ap (replied overflow) (unchanged is.0 is.1 is.2 is.3 is.4.1)
        ∙ hash_row is.0 (Err overflow) (has (Fields is.0) is.2)
        (found_more (number_in (field_get field is.0)) n is.4.0)
    counted WrongType is =
        ap (replied wrong_type) (stays is.2) ∙ ap by_content (sym (has (Text is.0) is.1))

    had_field : (fs : Pairs) (change : FieldChange) → old ≡ Fields fs
        → change ≡ Field (field_get field fs) → IsChange key field change s t
    had_field fs change before is =
        subst (λ x. IsChange key field x s t) (sym is) (fs, has (Fields fs) before, refl)

    pub had : (c : Counted) → IsCountedIn field n c old new → IsHad key field c s t
    had (Sum sum change) is = had_field is.0 change is.2 is.4.2
    had NoInteger is = unchanged is.0 is.1 is.2 is.3 is.4.1
    had Overflow is = unchanged is.0 is.1 is.2 is.3 is.4.1
    had WrongType is = stays is.2

-- a key that has no content is missing
pub none_held : (r : Option Held) → None ≡ option_map {T = Held} (λ h. h.content) r → r ≡ None
none_held None is = refl
none_held (Some h) is = absurd cc
