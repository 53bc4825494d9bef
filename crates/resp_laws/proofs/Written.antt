-- What is written of a request is read.
use Rattle.std.proofs.Common.{◌≡◌, ℕ, suc, ◌+◌, ◌-◌, ◌*◌, ◌/◌, ◌%◌, ◌<◌, ◌≤◌, ◌^◌, List, [], ◌∷◌}
use Rattle.std.proofs.Common.{◌++◌, refl, ap, ◌∙◌, ◌⊎◌, append_assoc, Bool, cond, length, arith}
use Rattle.std.proofs.Common.{Option, Some}
use Rattle.std.specs.Prelude.{nat_lt}
use Rattle.std.specs.Fmt.{decimal}
use Rattle.std.proofs.lemmas.Fmt.{decimal_by_steps}
use Rattle.std.proofs.lemmas.List.{length-append}
use Rattle.resp_value.specs.Spelling.{line, head, counted, blob_spellings, request_spelling}
use Rattle.resp_stream.specs.declared.fault.Fault.TheVariants.{BadByte, TooLong, NotServed}
use Rattle.resp_stream.specs.declared.tokens.LengthRule.{LengthRule}
use Rattle.resp_stream.specs.Parsed.{Whole, Choice, Go, Stop, Move, On, Out, scan, ◌>>=◌}
use Rattle.resp_stream.specs.Tokens.{only_byte, ending, length_end, digit_move, digits_at}
use Rattle.resp_stream.specs.Tokens.{minus_one, length_by, length_at, counted_at, many}
use Rattle.resp_stream.specs.Request.{whole_limit, words_rule, word_rule, sized, word_at, listed}
use Rattle.resp_stream.specs.Request.{array_at, request_begun, request_at}
use Rattle.resp_stream.proofs.Readers.{bytes_exact}
use Rattle.resp_stream.proofs.Capped.{whole_within}
use Rattle.resp_laws.specs.Streams.{EachFits, RequestFits}

-- ---- the digits of a number

-- digits that lead from m to n
abbrev pub Digits : ℕ → List ℕ → ℕ → Type 0
Digits m [] n = m ≡ n
Digits m (c ∷ ds) n = (48 ≤ c) × (c ≤ 57) × Digits (m * 10 + (c - 48)) ds n

-- `0`, or digits that begin with 1 to 9
abbrev pub IsLength : ℕ → List ℕ → Type 0
IsLength n [] = ⊥
IsLength n (c ∷ ds) =
    ((c ≡ 48) × (ds ≡ []) × (n ≡ 0)) ⊎ ((49 ≤ c) × (c ≤ 57) × Digits (c - 48) ds n)

digit_more : (ds : List ℕ) (m k d n : ℕ) → 48 ≤ d → d ≤ 57 → k * 10 + (d - 48) ≡ n → Digits m ds k
    → Digits m (ds ++ d ∷ []) n
digit_more [] m k d n a b e h = (a, b, ap (λ z. z * 10 + (d - 48)) h ∙ e)
digit_more (c ∷ ds) m k d n a b e h = (h.0, h.1, digit_more ds (m * 10 + (c - 48)) k d n a b e h.2)

pub one_digit : (n : ℕ) → n < 10 → IsLength n ((48 + n) ∷ [])
one_digit n lt = grind arith

pub next_digit : (n : ℕ) (ds : List ℕ) → 10 ≤ n → IsLength (n / 10) ds
    → IsLength n (ds ++ ((48 + n % 10) ∷ []))
next_digit n ds le h = grind (arith, digit_more)

pub is_length : (n : ℕ) → n < 2 ^ 64 → IsLength n (decimal n)
is_length n lt = decimal_by_steps IsLength one_digit next_digit n lt

pub grows : (ds : List ℕ) (m n : ℕ) → Digits m ds n → m ≤ n
grows [] m n h = omega arith
grows (c ∷ ds) m n h = omega (arith, grows ds (m * 10 + (c - 48)) n h.2)

-- ---- a length is read

module _ (rule : LengthRule) where
  digit : ℕ → ℕ → Bool → Bool → Bool → Bool → Move ℕ (Option ℕ)
  digit n c x y z w =
      cond x (Out (length_end rule n))
      (cond y (Out (Stop BadByte))
      (cond z (Out (Stop BadByte))
      (cond w (Out (Stop (TooLong (n * 10 + (c - 48))))) (On (n * 10 + (c - 48))))))

  digit_step : (n c : ℕ) → 48 ≤ c → c ≤ 57 → n * 10 + (c - 48) ≤ rule.limit
      → digit_move rule n c ≡ On (n * 10 + (c - 48))
  unfolding digit
  digit_step n c a b le = grind arith

  digits_end : (n : ℕ) (r : List ℕ) → rule.least ≤ n
      → scan (digit_move rule) n (13 ∷ 10 ∷ r) ≡ Whole (Some n) r
  unfolding only_byte
  digits_end n r le = grind arith

  digits_rest : (n : ℕ) (ds r : List ℕ) (m : ℕ) → n ≤ rule.limit → rule.least ≤ n → Digits m ds n
      → scan (digit_move rule) m (ds ++ 13 ∷ 10 ∷ r) ≡ Whole (Some n) r
  digits_rest n [] r m le lo h = digits_end m r (omega (arith, h)) ∙ ap (λ k. Whole (Some k) r) h
  digits_rest n (c ∷ ds) r m le lo h =
      grind (arith, digit_step, grows, digits_rest n ds r (m * 10 + (c - 48)) le lo h.2)

  lead : ℕ → Bool → Bool → Bool → Bool → Bool → Bool → Choice (Option ℕ)
  lead c x y z u v w =
      cond x (cond rule.streamed (Stop (NotServed 63)) (Stop BadByte))
      (cond y (cond rule.null (Go minus_one) (Stop BadByte))
      (cond z (cond (nat_lt 0 rule.least) (Stop BadByte) (Go (ending (Some 0))))
      (cond u (Stop BadByte)
      (cond v (Stop BadByte)
      (cond w (Stop (TooLong (c - 48))) (Go (digits_at rule (c - 48))))))))

  lead_step : (c : ℕ) → 49 ≤ c → c ≤ 57 → c - 48 ≤ rule.limit
      → length_by rule c ≡ Go (digits_at rule (c - 48))
  unfolding lead
  lead_step c a b le = grind arith

  zero_only : (r : List ℕ) → rule.least ≤ 0 → length_at rule (48 ∷ 13 ∷ 10 ∷ r) ≡ Whole (Some 0) r
  unfolding length_at only_byte
  zero_only r le = grind arith

  some_only : (n c : ℕ) (ds r : List ℕ) → n ≤ rule.limit → rule.least ≤ n → 49 ≤ c → c ≤ 57
      → Digits (c - 48) ds n → length_at rule (c ∷ (ds ++ 13 ∷ 10 ∷ r)) ≡ Whole (Some n) r
  unfolding length_at digits_at
  some_only n c ds r le lo a b h = grind (arith, lead_step, grows, digits_rest)

  pub length_only : (n : ℕ) (ds r : List ℕ) → n ≤ rule.limit → rule.least ≤ n → IsLength n ds
      → length_at rule (ds ++ 13 ∷ 10 ∷ r) ≡ Whole (Some n) r
  length_only n ds r le lo h = grind (arith, zero_only, some_only)

-- ---- a word is read

pub end_only : (t r : List ℕ) → ending t (13 ∷ 10 ∷ r) ≡ Whole t r
unfolding only_byte
end_only t r = refl

pub counted_only : (w r : List ℕ) → counted_at (length w) (w ++ 13 ∷ 10 ∷ r) ≡ Whole w r
unfolding counted_at
counted_only w r = ap (λ q. q >>= λ t s. ending t s) (bytes_exact w (13 ∷ 10 ∷ r)) ∙ end_only w r

pub head_parts : (mark n : ℕ) (r : List ℕ) → head mark n ++ r ≡ mark ∷ (decimal n ++ 13 ∷ 10 ∷ r)
unfolding head line
head_parts mark n r = ap (λ (q : List ℕ). mark ∷ q) (append_assoc (decimal n) (13 ∷ 10 ∷ []) r)

pub counted_parts : (mark : ℕ) (w r : List ℕ)
    → counted mark w ++ r ≡ mark ∷ (decimal (length w) ++ 13 ∷ 10 ∷ (w ++ 13 ∷ 10 ∷ r))
unfolding counted
counted_parts mark w r = grind (arith, append_assoc, head_parts)

pub marked : (b : List ℕ) → word_at (36 ∷ b) ≡ (length_at word_rule b >>= λ n s. sized n s)
unfolding word_at only_byte
marked b = refl

word_only : (w r : List ℕ) → length w ≤ 16777216 → word_at (counted 36 w ++ r) ≡ Whole w r
word_only w r le = grind (arith, counted_parts, marked, length_only, is_length, counted_only)

many_next : (n : ℕ) (b c r w : List ℕ) (ws : List (List ℕ)) → word_at b ≡ Whole w c
    → many word_at n c ≡ Whole ws r → many word_at (suc n) b ≡ Whole (w ∷ ws) r
unfolding many
many_next n b c r w ws e h = grind arith

many_none : (r : List ℕ) → many word_at 0 r ≡ Whole [] r
unfolding many
many_none r = refl

words_only : (ws : List (List ℕ)) (r : List ℕ) → EachFits ws
    → many word_at (length ws) (blob_spellings ws ++ r) ≡ Whole ws r
words_only [] r h = many_none r
words_only (w ∷ ws) r h =
    ap (λ q. many word_at (suc (length ws)) q) (append_assoc (counted 36 w) (blob_spellings ws) r)
    ∙ many_next (length ws) (counted 36 w ++ (blob_spellings ws ++ r)) (blob_spellings ws ++ r) r w
    ws (word_only w (blob_spellings ws ++ r) h.0) (words_only ws r h.1)

pub starred : (b : List ℕ) → request_begun (42 ∷ b) ≡ (length_at words_rule b >>= listed)
unfolding request_begun array_at
starred b = refl

begun_only : (ws : List (List ℕ)) (r : List ℕ) → length ws ≤ 65536 → EachFits ws
    → request_begun (request_spelling ws ++ r) ≡ Whole ws r
begun_only ws r le h =
    grind (arith, append_assoc, head_parts, starred, length_only, is_length, words_only)

pub written : (ws : List (List ℕ)) (r : List ℕ) → RequestFits ws
    → request_at (request_spelling ws ++ r) ≡ Whole ws r
unfolding request_at
written ws r h =
    whole_within whole_limit (request_spelling ws ++ r) (request_begun (request_spelling ws ++ r))
    ws r (begun_only ws r h.number h.each)
    (omega (arith, h.whole, length-append (request_spelling ws) r))
