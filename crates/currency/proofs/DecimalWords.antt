-- A number that is written in words is read back, or not read.
use Rattle.std.proofs.Common.{◌≡◌, ◌+◌, ◌-◌, ◌*◌, ◌^◌, ◌/◌, ◌%◌, ◌<◌, ◌≤◌, ◌⊎◌, ℕ, ℤ, zero, suc}
use Rattle.std.proofs.Common.{List, [], ◌∷◌, length, Bool, true, false, cond, refl, ap, sym, ◌∙◌}
use Rattle.std.proofs.Common.{arith, Ok, Some, None, inl, inr}
use Rattle.std.proofs.Math.Nat.{one-le-pow, pow-suc, pow-zero}
use Rattle.std.proofs.lemmas.Bool.{and_parts, cases_lt, eqb-true, leb-true, lt-ltb}
use Rattle.std.proofs.lemmas.Slice.Eq.{bytes_eq-Decides}
use Rattle.std.specs.Fmt.{decimal, digit_glyph, digits, digits_onto}
use Rattle.std.specs.Prelude.{pos, codes, ◌==◌, ◌&&◌, nat_le, neg_ℤ, option_map}
use Rattle.std.specs.Str.{bytes_eq}
use Rattle.command_words.specs.WordCounts.{number, number_or_fault}
use Rattle.command_words.specs.Integers.{integer_of, is_positive_word, positive_of, value_of}

-- ---- what is written of a number

glyph_is : (d : ℕ) → d < 10 → digit_glyph false d ≡ 48 + d
glyph_is d lt = ap (λ b. cond b (48 + d) (87 + d)) (lt-ltb d 10 lt)

last_is : (n : ℕ) → digit_glyph false (n % 10) ≡ 48 + n % 10
last_is n = glyph_is (n % 10) (omega arith)

-- its digits spell it, where they are no more than are written
spells : (k n : ℕ) (acc : List ℕ) → n < 10 ^ k
    → value_of 0 (digits_onto k 10 false n acc) ≡ value_of n acc
spells zero n acc lt =
    ap (λ m. value_of m acc)
    (let none : 0 ≡ n = omega (arith, lt, pow-zero 10) in none)
spells (suc k) n acc lt =
    let g = digit_glyph false (n % 10) in
    elim (n / 10 == 0) as (λ b. (n / 10 == 0) ≡ b
    → value_of 0 (cond b (g ∷ acc) (digits_onto k 10 false (n / 10) (g ∷ acc))) ≡ value_of n acc) [
      | true ↦ λ e.
          ap (λ m. value_of m acc)
          (let all : 0 * 10 + (g - 48) ≡ n = omega (arith, last_is n, eqb-true (n / 10) 0 e) in all)
      | false ↦ λ e.
          spells k (n / 10) (g ∷ acc) (omega (arith, lt, pow-suc 10 k))
          ∙ ap (λ m. value_of m acc)
          (let all : n / 10 * 10 + (g - 48) ≡ n = omega (arith, last_is n) in all)
    ] refl

-- or as many are written as can be
is_full : (k n : ℕ) (acc : List ℕ) → 10 ^ k ≤ n
    → length (digits_onto k 10 false n acc) ≡ k + length acc
is_full zero n acc le = omega arith
is_full (suc k) n acc le =
    let g = digit_glyph false (n % 10) in
    elim (n / 10 == 0) as (λ b. (n / 10 == 0) ≡ b
    → length (cond b (g ∷ acc) (digits_onto k 10 false (n / 10) (g ∷ acc)))
    ≡ suc k + length acc) [
      | true ↦ λ e.
          absurd (omega (
            arith,
            le,
            pow-suc 10 k,
            one-le-pow k 10 (omega arith),
            eqb-true (n / 10) 0 e,
          ))
      | false ↦ λ e.
          let rest = is_full k (n / 10) (g ∷ acc) (omega (arith, le, pow-suc 10 k)) in
          omega (arith, rest)
    ] refl

abbrev NoMinus : List ℕ → Type 0
NoMinus [] = Unit {0}
NoMinus (c ∷ cs) = 48 ≤ c

no_minus : (k n : ℕ) (acc : List ℕ) → NoMinus acc → NoMinus (digits_onto k 10 false n acc)
no_minus zero n acc h = h
no_minus (suc k) n acc h =
    let g = digit_glyph false (n % 10) in
    let some : 48 ≤ g = omega (arith, last_is n) in
    elim (n / 10 == 0) as (λ b.
    NoMinus (cond b (g ∷ acc) (digits_onto k 10 false (n / 10) (g ∷ acc)))) [
      | true ↦ some
      | false ↦ no_minus k (n / 10) (g ∷ acc) some
    ]

-- ---- what is read

grows : (j n : ℕ) (ds : List ℕ) → 10 ^ j ≤ n → 10 ^ (j + length ds) ≤ value_of n ds
grows j n [] le =
    omega (arith, le, ap (λ k. 10 ^ k) (let same : j + 0 ≡ j = omega arith in same))
grows j n (d ∷ ds) le =
    let more = grows (suc j) (n * 10 + (d - 48)) ds (omega (arith, le, pow-suc 10 j)) in
    omega (
      arith,
      more,
      ap (λ k. 10 ^ k) (let same : suc j + length ds ≡ j + suc (length ds) = omega arith in same),
    )

-- as many digits as can be written spell more than 64 bits
is_large : (ds : List ℕ) → is_positive_word ds ≡ true → length ds ≡ 64
    → nat_le (value_of 0 ds) 9223372036854775807 ≡ true → ⊥
is_large [] positive count le = omega (arith, count)
is_large (d ∷ ds) positive count le =
    let some = leb-true 49 d (and_parts (nat_le 49 d) _ positive).0 in
    let large = grows 0 (0 * 10 + (d - 48)) ds (omega (arith, some, pow-zero 10)) in
    let power : 10 ^ (0 + length ds) ≡ 10 ^ 63 =
    ap (λ k. 10 ^ k) (let n : 0 + length ds ≡ 63 = omega (arith, count) in n) in
    omega (arith, large, power, leb-true (value_of 0 (d ∷ ds)) 9223372036854775807 le)

module _ (id : ℕ) (n : ℤ) where
  positive_back : (ds : List ℕ) (b : Bool)
      → (is_positive_word ds && nat_le (value_of 0 ds) 9223372036854775807) ≡ b
      → (value_of 0 ds ≡ id) ⊎ (length ds ≡ 64)
      → number_or_fault (option_map pos (cond b (Some (value_of 0 ds)) None)) ≡ Ok n
      → n ≡ pos id
  positive_back ds true is (inl same) e =
      let read : pos (value_of 0 ds) ≡ n = cc in sym read ∙ ap pos same
  positive_back ds true is (inr count) e =
      let p = and_parts (is_positive_word ds) (nat_le (value_of 0 ds) 9223372036854775807) is in
      absurd (is_large ds p.0 count p.1)
  positive_back ds false is h e = absurd (let no : ⊥ = cc in no)

  zero_back : (text : List ℕ) → text ≡ codes "0" → (value_of 0 text ≡ id) ⊎ (length text ≡ 64)
      → number_or_fault (Some (pos 0)) ≡ Ok n → n ≡ pos id
  zero_back text is (inl same) e =
      let read : pos 0 ≡ n = cc in sym read ∙ ap pos (sym (ap (value_of 0) is) ∙ same)
  zero_back text is (inr count) e = absurd (omega (arith, count, ap length is))

  text_back : (text : List ℕ) → NoMinus text → (value_of 0 text ≡ id) ⊎ (length text ≡ 64)
      → number text ≡ Ok n → n ≡ pos id
  unfolding integer_of
  text_back [] h spelled e = absurd (let no : ⊥ = cc in no)
  text_back (c ∷ cs) h spelled e =
      let rest = option_map pos (positive_of 9223372036854775807 (c ∷ cs)) in
      let plain = cond (bytes_eq (c ∷ cs) (codes "0")) (Some (pos 0)) rest in
      elim (c == 45) as (λ b. (c == 45) ≡ b
      → number_or_fault (cond b
      (option_map (λ n. neg_ℤ (pos n)) (positive_of 9223372036854775808 cs)) plain) ≡ Ok n
      → n ≡ pos id) [
        | true ↦ λ minus e. absurd (omega (arith, h, eqb-true c 45 minus))
        | false ↦ λ minus e.
            elim (bytes_eq (c ∷ cs) (codes "0")) as (λ b. bytes_eq (c ∷ cs) (codes "0") ≡ b
            → number_or_fault (cond b (Some (pos 0)) rest) ≡ Ok n → n ≡ pos id) [
              | true ↦ λ zero e.
                  zero_back (c ∷ cs) ((bytes_eq-Decides (c ∷ cs) (codes "0")).0 zero) spelled e
              | false ↦ λ other e.
                  positive_back (c ∷ cs)
                  (is_positive_word (c ∷ cs)
                  && nat_le (value_of 0 (c ∷ cs)) 9223372036854775807) refl spelled e
            ] refl e
      ] refl e

pub number_back : (id : ℕ) (n : ℤ) → number (decimal id) ≡ Ok n → n ≡ pos id
unfolding digits
number_back id n e =
    text_back id n (decimal id) (no_minus 64 id [] tt)
    (elim (cases_lt id (10 ^ 64)) [
      | inl lt ↦ inl (spells 64 id [] lt)
      | inr le ↦ inr (is_full 64 id [] le)
    ]) e
