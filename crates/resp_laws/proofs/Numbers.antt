-- A line, a number or a counted text that was written is read, or passes a limit.
use Rattle.std.proofs.Common.{◌≡◌, ℕ, ◌+◌, ◌-◌, ◌*◌, ◌<◌, ◌≤◌, ◌^◌, ℤ, pos, negsuc, List, [], ◌∷◌}
use Rattle.std.proofs.Common.{◌++◌, refl, inl, inr, append_assoc, Bool, true, false}
use Rattle.std.proofs.Common.{length, arith, Some, None}
use Rattle.std.specs.Prelude.{nat_lt}
use Rattle.std.specs.Fmt.{decimal, signed_decimal}
use Rattle.std.proofs.lemmas.Bool.{ltb-true}
use Rattle.std.proofs.lemmas.List.{length-append}
use Rattle.resp_value.specs.Tree.{Tree, number, verbatim}
use Rattle.resp_stream.specs.declared.tokens.LengthRule.{LengthRule}
use Rattle.resp_stream.specs.Parsed.{Whole, scan}
use Rattle.resp_stream.specs.Tokens.{only_byte, length_at, line_move, line_at}
use Rattle.resp_stream.specs.Request.{line_limit}
use Rattle.resp_stream.specs.Value.{verbatim_rule, Digits as Made, number_move, digits_of_at}
use Rattle.resp_stream.specs.Value.{signed, greatest, signed_at, number_at, sized_blob, blob_at}
use Rattle.resp_stream.specs.Value.{sized_text, verbatim_at, text_at, whole_number_at}
use Rattle.resp_laws.specs.Values.{IsPlain}
use Rattle.resp_laws.proofs.Decimals.{AreDigits, IsDecimal, is_decimal, as_digits, length_written}
use Rattle.resp_laws.proofs.Only.{Only, only_is, only_same, only_then}
use Rattle.resp_laws.proofs.Scalars.{nothing_behind, line_end, unsigned_by, minus, three}
use Rattle.resp_laws.proofs.Written.{Digits, counted_only}

-- ---- lines

line_only : (t p s : List ℕ) → IsPlain t
    → Only (scan (line_move false line_limit) p (t ++ 13 ∷ 10 ∷ s)) (p ++ t) s
line_only [] p s h = grind (arith, only_is, line_end, nothing_behind)
line_only (c ∷ t) p s h = grind (arith, only_same, append_assoc, line_only t (p ++ c ∷ []) s h.2)

pub text_written : (make : List ℕ → Tree) (t s : List ℕ) → IsPlain t
    → Only (text_at make (t ++ 13 ∷ 10 ∷ s)) (make t) s
unfolding text_at line_at
text_written make t s h =
    only_then (scan (line_move false line_limit) [] (t ++ 13 ∷ 10 ∷ s)) (λ t r. Whole (make t) r) t
    (make t) s s (line_only t [] s h) (refl, refl)

-- ---- numbers

abbrev next_made : Made → ℕ → Made
next_made s c = record { count = s.count + 1; made = s.made * 10 + (c - 48) }

module _ (most : ℕ) where
  only_number : (s : Made) (c : ℕ) (bs : List ℕ) (x : ℕ) (r : List ℕ) → 48 ≤ c → c ≤ 57
      → (nat_lt s.count 19 ≡ true → Only (scan (number_move most) (Some (next_made s c)) bs) x r)
      → Only (scan (number_move most) (Some s) (c ∷ bs)) x r
  only_number s c bs e r a b h = grind arith

  number_end_only : (s : Made) (r : List ℕ)
      → Only (scan (number_move most) (Some s) (13 ∷ 10 ∷ r)) s.made r
  unfolding only_byte
  number_end_only s r = (refl, refl)

  number_scan : (ds : List ℕ) (s : Made) (n : ℕ) (r : List ℕ) → Digits s.made ds n
      → Only (scan (number_move most) (Some s) (ds ++ 13 ∷ 10 ∷ r)) n r
  number_scan [] s n r h = grind (arith, number_end_only)
  number_scan (c ∷ ds) s n r h = grind (arith, only_number, number_scan ds (next_made s c) n r h.2)

  -- a number of too many digits is not read
  number_long : (ds : List ℕ) (s : Made) (x : ℕ) (r : List ℕ) → AreDigits ds
      → 19 < s.count + length ds → s.count ≤ 19
      → Only (scan (number_move most) (Some s) (ds ++ 13 ∷ 10 ∷ r)) x r
  number_long [] s e r h k le = absurd (omega arith)
  number_long (c ∷ ds) s x r h k le =
      only_number s c (ds ++ 13 ∷ 10 ∷ r) x r h.0 h.1
      (λ e. number_long ds (next_made s c) x r h.2 (omega (arith, k))
      (omega (arith, ltb-true s.count 19 e)))

  digits_first : (c : ℕ) (bs : List ℕ) (x : ℕ) (r : List ℕ) → 48 ≤ c → c ≤ 57
      → Only (scan (number_move most) (Some (record { count = 1; made = c - 48 })) bs) x r
      → Only (digits_of_at most None (c ∷ bs)) x r
  unfolding digits_of_at
  digits_first c bs e r a b h = grind arith

  digits_written : (n : ℕ) (ds r : List ℕ) → IsDecimal n ds
      → Only (digits_of_at most None (ds ++ 13 ∷ 10 ∷ r)) n r
  digits_written n [] r h = grind arith
  digits_written n (c ∷ ds) r h =
      elim h [
        | inl z ↦ let d = as_digits n c ds z in
            digits_first c (ds ++ 13 ∷ 10 ∷ r) n r d.0 d.1
            (number_scan ds (record { count = 1; made = c - 48 }) n r d.2)
        | inr g ↦ digits_first c (ds ++ 13 ∷ 10 ∷ r) n r g.are.0 g.are.1
            (grind (arith, number_long))
      ]

unsigned_any : (n : ℕ) (ds r : List ℕ) → IsDecimal n ds
    → number_at (ds ++ 13 ∷ 10 ∷ r) ≡ signed_at false None (ds ++ 13 ∷ 10 ∷ r)
unsigned_any n [] r h = grind arith
unsigned_any n (c ∷ ds) r h = grind (arith, as_digits, unsigned_by)

signed_written : (m : Bool) (n : ℕ) (r : List ℕ)
    → Only (signed_at m None (decimal n ++ 13 ∷ 10 ∷ r)) (signed m n) r
unfolding signed_at
signed_written m n r =
    only_then (digits_of_at (greatest m) None (decimal n ++ 13 ∷ 10 ∷ r))
    (λ n r. Whole (signed m n) r) n (signed m n) r r
    (digits_written (greatest m) n (decimal n) r (is_decimal n)) (refl, refl)

number_as : (i : ℤ) (b r : List ℕ) → Only (number_at b) i r
    → Only (whole_number_at b) (number i) r
unfolding whole_number_at
number_as i b r h = grind (arith, only_then)

pub number_written : (i : ℤ) (r : List ℕ)
    → Only (whole_number_at (signed_decimal i ++ 13 ∷ 10 ∷ r)) (number i) r
number_written (pos n) r =
    number_as (pos n) (decimal n ++ 13 ∷ 10 ∷ r) r
    (only_same (number_at (decimal n ++ 13 ∷ 10 ∷ r))
    (signed_at false None (decimal n ++ 13 ∷ 10 ∷ r)) (pos n) r
    (unsigned_any n (decimal n) r (is_decimal n)) (signed_written false n r))
number_written (negsuc n) r = grind (arith, negsuc, number_as, only_same, minus, signed_written)

-- ---- counted texts

pub blob_written : (make : List ℕ → Tree) (rule : LengthRule) (t r : List ℕ) → rule.limit < 2 ^ 32
    → Only (blob_at make rule (decimal (length t) ++ 13 ∷ 10 ∷ (t ++ 13 ∷ 10 ∷ r))) (make t) r
unfolding blob_at
blob_written make rule t r lt =
    only_then (length_at rule (decimal (length t) ++ 13 ∷ 10 ∷ (t ++ 13 ∷ 10 ∷ r)))
    (sized_blob make) (Some (length t)) (make t) (t ++ 13 ∷ 10 ∷ r) r
    (length_written rule (length t) (t ++ 13 ∷ 10 ∷ r) lt)
    (grind (arith, only_is, counted_only))

pub verbatim_written : (f t r : List ℕ) → length f ≡ 3
    → Only (verbatim_at
    (decimal (length (f ++ 58 ∷ t)) ++ 13 ∷ 10 ∷ (f ++ 58 ∷ (t ++ 13 ∷ 10 ∷ r)))) (verbatim f t) r
unfolding verbatim_at
verbatim_written f t r e =
    let n = length (f ++ 58 ∷ t) in
    let k : n ≡ length t + 4 = omega (arith, length-append f (58 ∷ t)) in
    only_then (length_at verbatim_rule (decimal n ++ 13 ∷ 10 ∷ (f ++ 58 ∷ (t ++ 13 ∷ 10 ∷ r))))
    sized_text (Some n) (verbatim f t) (f ++ 58 ∷ (t ++ 13 ∷ 10 ∷ r)) r
    (length_written verbatim_rule n (f ++ 58 ∷ (t ++ 13 ∷ 10 ∷ r)) (omega arith))
    (grind (arith, only_is, three))
