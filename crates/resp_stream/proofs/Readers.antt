-- Each part of the format is a reader.
use Rattle.std.proofs.Common.{◌≡◌, ℕ, zero, suc, ◌+◌, ◌-◌, ◌*◌, ◌<◌, ◌≤◌, List, [], ◌∷◌, ◌++◌, refl}
use Rattle.std.proofs.Common.{sym, ap, ◌∙◌, Bool, true, false, cond, length, take, drop, arith}
use Rattle.std.proofs.Common.{Some, None}
use Rattle.std.proofs.lemmas.List.{take-append-drop, length-append, length-take-le}
use Rattle.std.proofs.Math.Seq.{take-append_seam, drop-append_seam}
use Rattle.std.proofs.lemmas.Bool.{ltb-false, ltb-true, le-ltb, eq-eqb}
use Rattle.std.specs.Prelude.{nat_lt, nat_eq}
use Rattle.resp_stream.specs.declared.fault.Fault.TheVariants.{BadByte}
use Rattle.resp_stream.specs.declared.tokens.LengthRule.{LengthRule}
use Rattle.resp_stream.specs.Parsed.{Parsed, Whole, More, Go, Stop, taken, scan, ◌>>=◌}
use Rattle.resp_stream.specs.ReaderLaws.{Took, Completes, IsReader}
use Rattle.resp_stream.specs.Tokens.{IsRule, only_byte, line_feed, ending, digit_move, digits_at}
use Rattle.resp_stream.specs.Tokens.{minus_one, length_by, length_at, line_move, line_at, bytes_at}
use Rattle.resp_stream.specs.Tokens.{counted_at, many}
use Rattle.resp_stream.proofs.Compose.{reader_then, reader_whole, reader_scan, reader_first}
use Rattle.resp_stream.proofs.Compose.{choice_if, move_if, append_nil}

pub reader_only : (b : ℕ) → IsReader (only_byte b)
unfolding only_byte
reader_only b =
    reader_first (λ c. cond (nat_eq c b) (Go (Whole tt)) (Stop BadByte))
    (λ c. choice_if (nat_eq c b) (Go (Whole tt)) (Stop BadByte) (reader_whole tt) tt)
    b (Whole tt) (ap (λ t. cond t (Go (Whole tt)) (Stop BadByte)) (eq-eqb b b refl))
    (reader_whole tt)

pub reader_feed : {A : Type 0} (x : A) → IsReader (line_feed x)
reader_feed x = reader_then (only_byte 10) (λ u r. Whole x r) (reader_only 10) (λ u. reader_whole x)

pub reader_ending : {A : Type 0} (x : A) → IsReader (ending x)
reader_ending x =
    reader_then (only_byte 13) (λ u r. line_feed x r) (reader_only 13) (λ u. reader_feed x)

-- ---- lines

line_way : (inline : Bool) (limit : ℕ) (t : List ℕ) → Completes (scan (line_move inline limit) t) []
unfolding only_byte
line_way inline limit t = (13 ∷ 10 ∷ [], t, refl)

pub reader_text : (inline : Bool) (limit : ℕ) (t : List ℕ)
    → IsReader (scan (line_move inline limit) t)
reader_text inline limit t =
    reader_scan (line_move inline limit) (grind (
      arith,
      move_if,
      reader_feed,
      reader_whole,
    )) (line_way inline limit) t

pub reader_line : (inline : Bool) (limit : ℕ) → IsReader (line_at inline limit)
unfolding line_at
reader_line inline limit = reader_text inline limit []

-- ---- lengths

module _ (rule : LengthRule) (ok : IsRule rule) where
  enough : (n : ℕ) → rule.least ≤ n → Completes (scan (digit_move rule) n) []
  unfolding only_byte
  enough n le = (
    13 ∷ 10 ∷ [],
    Some n,
    ap (λ t. taken (cond t (Stop BadByte) (Go (line_feed (Some n)))) 13 (10 ∷ []))
        (le-ltb n rule.least le),
  )

  -- one digit more is enough for the least length
  digits_way_by : (n : ℕ) (t : Bool) → nat_lt n rule.least ≡ t
      → Completes (scan (digit_move rule) n) []
  digits_way_by n false e = enough n (ltb-false n rule.least e)
  digits_way_by n true e =
      let lt : n < rule.least = ltb-true n rule.least e in
      let w = enough (n * 10 + 9) (omega (arith, ok.least)) in (
        57 ∷ w.0,
        w.1,
        grind (arith, le-ltb),
      )

  pub reader_digits : (n : ℕ) → IsReader (digits_at rule n)
  unfolding digits_at
  reader_digits n =
      reader_scan (digit_move rule)
      (grind (arith, move_if, choice_if, reader_feed))
      (λ m. digits_way_by m (nat_lt m rule.least) refl) n

  pub reader_minus : IsReader minus_one
  unfolding minus_one
  reader_minus =
      reader_then (only_byte 49) (λ u r. ending None r) (reader_only 49) (λ u. reader_ending None)

  pub reader_length : IsReader (length_at rule)
  unfolding length_at
  reader_length =
      reader_first (length_by rule)
      (grind (arith, choice_if, reader_minus, reader_ending, reader_digits))
      57 (digits_at rule 9)
      (grind (arith, le-ltb)) (reader_digits 9)

-- ---- n bytes

pub bytes_exact : (p s : List ℕ) → bytes_at (length p) (p ++ s) ≡ Whole p s
unfolding bytes_at
bytes_exact p s = grind (arith, le-ltb, length-append, take-append_seam, drop-append_seam)

bytes_whole : (n : ℕ) (b r x : List ℕ) (t : Bool) → nat_lt (length b) n ≡ t
    → cond t More (Whole (take n b) (drop n b)) ≡ Whole x r → Took (bytes_at n) b x r
bytes_whole n b r k true h e = absurd cc
bytes_whole n b r x false h e =
    let le : n ≤ length b = ltb-false (length b) n h in
    let len : length (take n b) ≡ n = length-take-le n b le in
    let x_is : take n b ≡ x = cc in
    let r_is : drop n b ≡ r = cc in
    record {
      front = take n b;
      parts = sym (take-append-drop n b) ∙ ap (λ (q : List ℕ). take n b ++ q) r_is;
      again = grind (arith, bytes_exact);
    }

zeros : ℕ → List ℕ
zeros zero = []
zeros (suc n) = 0 ∷ zeros n

zeros_length : (n : ℕ) → length (zeros n) ≡ n
unfolding zeros
zeros_length zero = refl
zeros_length (suc n) = ap suc (zeros_length n)

bytes_more : (n : ℕ) (b : List ℕ) (t : Bool) → nat_lt (length b) n ≡ t
    → cond t More (Whole (take n b) (drop n b)) ≡ More → Completes (bytes_at n) b
bytes_more n b false h e = absurd cc
bytes_more n b true h e =
    let m = zeros (n - length b) in
    let len : length (b ++ m) ≡ n =
    omega (arith, length-append b m, zeros_length (n - length b), ltb-true (length b) n h) in (
      m,
      b ++ m,
      ap (λ q. bytes_at n q) (sym (append_nil (b ++ m)))
          ∙ ap (λ k. bytes_at k ((b ++ m) ++ [])) (sym len) ∙ bytes_exact (b ++ m) [],
    )

pub reader_bytes : (n : ℕ) → IsReader (bytes_at n)
unfolding bytes_at
reader_bytes n = grind (arith, bytes_whole, bytes_more)

pub reader_counted : (n : ℕ) → IsReader (counted_at n)
unfolding counted_at
reader_counted n = reader_then (bytes_at n) (λ t. ending t) (reader_bytes n) reader_ending

pub reader_many : {A : Type 0} (read : List ℕ → Parsed A) → IsReader read → (n : ℕ)
    → IsReader (many read n)
unfolding many
reader_many read l zero = reader_whole []
reader_many read l (suc n) =
    reader_then read (λ t r. many read n r >>= λ ts s. Whole (t ∷ ts) s) l
    (λ t. reader_then (many read n) (λ ts s. Whole (t ∷ ts) s) (reader_many read l n)
    (λ ts. reader_whole (t ∷ ts)))
