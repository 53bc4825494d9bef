-- A length that was written is read, or passes a limit, however great it is.
use Rattle.std.proofs.Common.{◌≡◌, ℕ, zero, suc, ◌+◌, ◌-◌, ◌*◌, ◌/◌, ◌%◌, ◌<◌, ◌≤◌, ◌^◌, List, []}
use Rattle.std.proofs.Common.{◌∷◌, ◌++◌, refl, ap, subst, ◌∙◌, ◌⊎◌, inl, inr, Bool, true, false}
use Rattle.std.proofs.Common.{cond, length, arith, Option, Some}
use Rattle.std.specs.Prelude.{nat_lt, nat_eq}
use Rattle.std.specs.Fmt.{decimal, digits, digits_onto, digit_glyph}
use Rattle.std.proofs.lemmas.Fmt.{decimal_by_steps_wide}
use Rattle.std.proofs.lemmas.Bool.{ne_eqb, lt-ltb, ltb-true, ltb-false}
use Rattle.resp_stream.specs.declared.fault.Fault.TheVariants.{TooLong}
use Rattle.resp_stream.specs.declared.tokens.LengthRule.{LengthRule}
use Rattle.resp_stream.specs.Parsed.{Go, Stop, taken, scan}
use Rattle.resp_stream.specs.Tokens.{only_byte, ending, digit_move, digits_at, length_at}
use Rattle.resp_laws.proofs.Written.{Digits, IsLength, one_digit, next_digit}
use Rattle.resp_laws.proofs.Only.{Only, only_same}

-- ---- the digits of a number that is too great to be spelled

abbrev pub AreDigits : List ℕ → Type 0
AreDigits [] = Unit {0}
AreDigits (c ∷ ds) = (48 ≤ c) × (c ≤ 57) × AreDigits ds

-- m with k noughts behind it
grown : ℕ → ℕ → ℕ
grown m zero = m
grown m (suc k) = grown (m * 10) k

grown_tens : (k m : ℕ) → grown (m * 10) k ≡ grown m k * 10
unfolding grown
grown_tens zero m = refl
grown_tens (suc k) m = grown_tens k (m * 10)

grown_le : (k m n : ℕ) → m ≤ n → grown m k ≤ grown n k
unfolding grown
grown_le zero m n le = le
grown_le (suc k) m n le = grown_le k (m * 10) (n * 10) (omega arith)

some_grown : (k m : ℕ) → 1 ≤ m → 1 ≤ grown m k
unfolding grown
some_grown zero m le = le
some_grown (suc k) m le = some_grown k (m * 10) (omega arith)

-- what digits lead to from m
made : ℕ → List ℕ → ℕ
made m [] = m
made m (c ∷ ds) = made (m * 10 + (c - 48)) ds

made_digits : (ds : List ℕ) (m : ℕ) → AreDigits ds → Digits m ds (made m ds)
unfolding made
made_digits [] m h = refl
made_digits (c ∷ ds) m h = (h.0, h.1, made_digits ds (m * 10 + (c - 48)) h.2)

made_great : (ds : List ℕ) (m : ℕ) → grown m (length ds) ≤ made m ds
unfolding made grown
made_great [] m = omega arith
made_great (c ∷ ds) m = grind (arith, grown_le, made_great ds (m * 10 + (c - 48)))

glyph_is : (n : ℕ) → n < 10 → digit_glyph false n ≡ 48 + n
glyph_is n lt = ap (λ t. cond t (48 + n) (87 + n)) (lt-ltb n 10 lt)

are_if : (t : Bool) (x y : List ℕ) → AreDigits x → AreDigits y → AreDigits (cond t x y)
are_if t e y h k = grind arith

onto_digits : (k n : ℕ) (acc : List ℕ) → AreDigits acc → AreDigits (digits_onto k 10 false n acc)
onto_digits zero n acc h = h
onto_digits (suc k) n acc h =
    let e = glyph_is (n % 10) (omega arith) in
    let one : AreDigits (digit_glyph false (n % 10) ∷ acc) =
    (omega (arith, e), omega (arith, e), h) in
    are_if (nat_eq (n / 10) 0) (digit_glyph false (n % 10) ∷ acc)
    (digits_onto k 10 false (n / 10) (digit_glyph false (n % 10) ∷ acc)) one
    (onto_digits k (n / 10) (digit_glyph false (n % 10) ∷ acc) one)

onto_length : (k n : ℕ) (acc : List ℕ) → grown 1 k ≤ n
    → length (digits_onto k 10 false n acc) ≡ k + length acc
unfolding grown
onto_length zero n acc le = omega arith
onto_length (suc k) n acc le =
    let more : grown 1 k * 10 ≤ n = omega (arith, grown_tens k 1, le) in
    ap (λ t. length (cond t (digit_glyph false (n % 10) ∷ acc)
    (digits_onto k 10 false (n / 10) (digit_glyph false (n % 10) ∷ acc))))
    (ne_eqb (n / 10) 0 (λ e. omega (arith, some_grown k 1 (omega arith), more)))
    ∙ onto_length k (n / 10) (digit_glyph false (n % 10) ∷ acc) (omega (arith, more)) ∙ omega arith

-- as many digits as a number can be spelled with
pub record IsGreat (n : ℕ) (ds : List ℕ) : Type 0 where
  pub great : 10 ^ 64 ≤ n
  pub are : AreDigits ds
  pub many : length ds ≡ 64

abbrev pub IsDecimal : ℕ → List ℕ → Type 0
IsDecimal n ds = IsLength n ds ⊎ IsGreat n ds

great_decimal : (n : ℕ) → 10 ^ 64 ≤ n → IsGreat n (decimal n)
unfolding digits grown
great_decimal n le = record {
  great = le;
  are = onto_digits 64 n [] tt;
  many = onto_length 64 n [] le ∙ omega arith;
}

decimal_by : (n : ℕ) (t : Bool) → nat_lt n (10 ^ 64) ≡ t → IsDecimal n (decimal n)
decimal_by n true e =
    inl (decimal_by_steps_wide IsLength one_digit next_digit n (ltb-true n (10 ^ 64) e))
decimal_by n false e = inr (great_decimal n (ltb-false n (10 ^ 64) e))

pub is_decimal : (n : ℕ) → IsDecimal n (decimal n)
is_decimal n = decimal_by n (nat_lt n (10 ^ 64)) refl

-- the digits of a length, the first apart
pub as_digits : (n c : ℕ) (ds : List ℕ) → IsLength n (c ∷ ds)
    → (48 ≤ c) × (c ≤ 57) × Digits (c - 48) ds n
as_digits n c ds h = grind arith

-- ---- a length

module _ (rule : LengthRule) where
  only_digit : (n c : ℕ) (bs : List ℕ) (x : Option ℕ) (s : List ℕ) → 48 ≤ c → c ≤ 57
      → (nat_lt rule.limit (n * 10 + (c - 48)) ≡ false
      → Only (scan (digit_move rule) (n * 10 + (c - 48)) bs) x s)
      → Only (scan (digit_move rule) n (c ∷ bs)) x s
  only_digit n c bs e s a b h = grind arith

  end_only : (n : ℕ) (s : List ℕ) → Only (scan (digit_move rule) n (13 ∷ 10 ∷ s)) (Some n) s
  unfolding only_byte
  end_only n s = grind arith

  scan_only : (ds : List ℕ) (m n : ℕ) (s : List ℕ) → Digits m ds n
      → Only (scan (digit_move rule) m (ds ++ 13 ∷ 10 ∷ s)) (Some n) s
  scan_only [] m n s h = grind (arith, end_only)
  scan_only (c ∷ ds) m n s h = grind (arith, only_digit, scan_only ds (m * 10 + (c - 48)) n s h.2)

  -- a number past the limit is not read
  scan_over : (ds : List ℕ) (m n : ℕ) (x : Option ℕ) (s : List ℕ) → Digits m ds n
      → m ≤ rule.limit → rule.limit < n → Only (scan (digit_move rule) m (ds ++ 13 ∷ 10 ∷ s)) x s
  scan_over [] m n e s h le lt = absurd (omega (arith, h))
  scan_over (c ∷ ds) m n x s h le lt =
      only_digit m c (ds ++ 13 ∷ 10 ∷ s) x s h.0 h.1
      (λ e. scan_over ds (m * 10 + (c - 48)) n x s h.2
      (ltb-false rule.limit (m * 10 + (c - 48)) e) lt)

  lead_taken : (t : Bool) (c : ℕ) (bs : List ℕ) (x : Option ℕ) (s : List ℕ)
      → (t ≡ false → Only (scan (digit_move rule) (c - 48) bs) x s)
      → Only (taken (cond t (Stop (TooLong (c - 48))) (Go (digits_at rule (c - 48)))) c bs) x s
  unfolding digits_at
  lead_taken t c bs e s h = grind arith

  lead_only : (c : ℕ) (bs : List ℕ) (x : Option ℕ) (s : List ℕ) → 49 ≤ c → c ≤ 57
      → (nat_lt rule.limit (c - 48) ≡ false → Only (scan (digit_move rule) (c - 48) bs) x s)
      → Only (length_at rule (c ∷ bs)) x s
  unfolding length_at
  lead_only c bs e s a b h = grind (arith, only_same, lead_taken)

  nought_only : (s : List ℕ) → Only (length_at rule (48 ∷ 13 ∷ 10 ∷ s)) (Some 0) s
  unfolding length_at only_byte
  nought_only s = grind arith

  no_end : (c : ℕ) (bs : List ℕ) (x : Option ℕ) (s : List ℕ) → 48 ≤ c
      → Only (ending (Some 0) (c ∷ bs)) x s
  unfolding only_byte
  no_end c bs e s a = grind arith

  -- nothing follows a first nought
  nought_over : (c : ℕ) (bs : List ℕ) (x : Option ℕ) (s : List ℕ) → 48 ≤ c
      → Only (length_at rule (48 ∷ c ∷ bs)) x s
  unfolding length_at
  nought_over c bs e s a = grind (arith, no_end)

  length_great : (c : ℕ) (ds : List ℕ) (x : Option ℕ) (s : List ℕ) (t : Bool) → nat_lt 48 c ≡ t
      → rule.limit < 2 ^ 32 → AreDigits (c ∷ ds) → length ds ≡ 63
      → Only (length_at rule (c ∷ (ds ++ 13 ∷ 10 ∷ s))) x s
  unfolding grown
  length_great c ds x s true e lt h k =
      let g : grown (c - 48) 63 ≤ made (c - 48) ds =
      subst (λ j. grown (c - 48) j ≤ made (c - 48) ds) k (made_great ds (c - 48)) in
      let first : 48 < c = ltb-true 48 c e in
      let one : grown 1 63 ≤ grown (c - 48) 63 = grown_le 63 1 (c - 48) (omega (arith, first)) in
      lead_only c (ds ++ 13 ∷ 10 ∷ s) x s (omega (arith, first)) h.1
      (λ w. scan_over ds (c - 48) (made (c - 48) ds) x s (made_digits ds (c - 48) h.2)
      (ltb-false rule.limit (c - 48) w) (omega (arith, lt, g, one)))
  length_great c [] p s false e lt h k = absurd (omega arith)
  length_great c (d ∷ ds) p s false e lt h k = grind (arith, ltb-false, only_same, nought_over)

  length_by_digits : (n : ℕ) (ds s : List ℕ) → rule.limit < 2 ^ 32 → IsGreat n ds
      → Only (length_at rule (ds ++ 13 ∷ 10 ∷ s)) (Some n) s
  length_by_digits n [] s lt g = absurd (omega (arith, g.many))
  length_by_digits n (c ∷ ds) s lt g = grind (arith, length_great)

  pub length_written : (n : ℕ) (s : List ℕ) → rule.limit < 2 ^ 32
      → Only (length_at rule (decimal n ++ 13 ∷ 10 ∷ s)) (Some n) s
  length_written n s lt =
      grind (arith, is_decimal, length_by_digits, nought_only, lead_only, scan_only)
