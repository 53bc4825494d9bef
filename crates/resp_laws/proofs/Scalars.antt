-- What is written of a value without elements is read.
use Rattle.std.proofs.Common.{◌≡◌, ◌≢◌, ℕ, zero, suc, ◌+◌, ◌-◌, ◌*◌, ◌/◌, ◌%◌, ◌<◌, ◌≤◌, ◌^◌, ℤ}
use Rattle.std.proofs.Common.{pos, negsuc, List, [], ◌∷◌, ◌++◌, refl, sym, ap, subst, ◌∙◌, inl, inr}
use Rattle.std.proofs.Common.{append_assoc, Bool, true, false, cond, length, map, arith, Option}
use Rattle.std.proofs.Common.{Some, None}
use Rattle.std.specs.Prelude.{nat_eq}
use Rattle.std.specs.Fmt.{decimal, signed_decimal}
use Rattle.std.proofs.lemmas.Fmt.{decimal_by_steps}
use Rattle.std.proofs.lemmas.Bool.{ne_eqb, le-ltb}
use Rattle.std.proofs.Math.Nat.{pow-succ'}
use Rattle.std.proofs.lemmas.List.{length-append}
use Rattle.resp_value.specs.Tree.{Tree, number, blob, verbatim, blob_error}
use Rattle.resp_value.specs.Spelling.{plain_byte}
use Rattle.resp_stream.specs.declared.fault.Fault.TheVariants.{BadByte}
use Rattle.resp_stream.specs.Parsed.{Whole, Go, Stop, Move, On, Out, moved, scan, ◌>>=◌}
use Rattle.resp_stream.specs.Tokens.{only_byte, line_feed, counted_at, line_move, line_at}
use Rattle.resp_stream.specs.Request.{line_limit}
use Rattle.resp_stream.specs.Value.{blob_rule, blob_error_rule, Digits as Made, number_move}
use Rattle.resp_stream.specs.Value.{digits_of_at, signed, greatest, signed_at, number_at, blob_at}
use Rattle.resp_stream.specs.Value.{blob_tree, format_at, formatted_at, verbatim_at, text_at}
use Rattle.resp_stream.specs.Value.{whole_number_at}
use Rattle.resp_stream.proofs.Line.{line_step}
use Rattle.resp_laws.specs.Values.{IsPlain, IsShort}
use Rattle.resp_laws.proofs.Written.{Digits, IsLength, is_length, grows, length_only, counted_only}

-- ---- lines

pub nothing_behind : (p : List ℕ) → p ++ [] ≡ p
nothing_behind [] = refl
nothing_behind (x ∷ p) = ap (λ (q : List ℕ). x ∷ q) (nothing_behind p)

pub line_end : (p r : List ℕ) → scan (line_move false line_limit) p (13 ∷ 10 ∷ r) ≡ Whole p r
unfolding only_byte
line_end p r = refl

line_rest : (t p r : List ℕ) → length p + length t ≤ line_limit → IsPlain t
    → scan (line_move false line_limit) p (t ++ 13 ∷ 10 ∷ r) ≡ Whole (p ++ t) r
line_rest [] p r le h = line_end p r ∙ ap (λ (q : List ℕ). Whole q r) (sym (nothing_behind p))
line_rest (c ∷ t) p r le h = grind (
  arith,
  line_step,
  ne_eqb,
  length-append,
  append_assoc,
  line_rest t (p ++ c ∷ []) r (omega (arith, length-append p (c ∷ []))) h.2,
)

pub text_only : (make : List ℕ → Tree) (t r : List ℕ) → length t ≤ 65536 → IsPlain t
    → text_at make (t ++ 13 ∷ 10 ∷ r) ≡ Whole (make t) r
unfolding text_at line_at
text_only make t r le h = ap (λ q. q >>= λ t r. Whole (make t) r) (line_rest t [] r (omega arith) h)

-- a byte of an error line
plain_by : (c : ℕ) (x y : Bool) → nat_eq c 13 ≡ x → nat_eq c 10 ≡ y → (cond x 32 (cond y 32 c) ≢ 13)
    × (cond x 32 (cond y 32 c) ≢ 10)
plain_by c h y e f = grind arith

pub all_plain : (b : List ℕ) → IsPlain (map plain_byte b)
all_plain [] = tt
all_plain (c ∷ b) = grind (arith, plain_by, all_plain b)

-- ---- numbers

pow_next : (k : ℕ) → 10 ^ suc k ≡ 10 * 10 ^ k
pow_next k = pow-succ' 10 k

short_one : (n : ℕ) → n < 10 → (k : ℕ) → n < 10 ^ suc k → length ((48 + n) ∷ []) ≤ suc k
short_one n lt k h = omega arith

short_more : (n : ℕ) (ds : List ℕ) → 10 ≤ n → ((k : ℕ) → n / 10 < 10 ^ suc k → length ds ≤ suc k)
    → (k : ℕ) → n < 10 ^ suc k → length (ds ++ ((48 + n % 10) ∷ [])) ≤ suc k
short_more n ds le ih zero h = absurd (let e : 10 ^ 1 ≡ 10 = refl in omega arith)
short_more n ds le ih (suc k) h = grind (arith, pow_next, length-append)

short_enough : (n : ℕ) → n ≤ 9223372036854775808 → length (decimal n) ≤ 19
short_enough n le =
    decimal_by_steps (λ n ds. (k : ℕ) → n < 10 ^ suc k → length ds ≤ suc k) short_one short_more n
    (omega arith) 18 (let e : 10 ^ 19 ≡ 10000000000000000000 = refl in omega arith)

module _ (most : ℕ) where
  step : Made → ℕ → Bool → Bool → Bool → Bool → Bool → Move (Option Made) ℕ
  step s c x y z u v =
      cond x (Out (Go (line_feed s.made))) (cond y (Out (Stop BadByte)) (cond z (Out (Stop BadByte))
      (cond u
      (cond v (Out (Stop BadByte))
      (On (Some (record { count = s.count + 1; made = s.made * 10 + (c - 48) }))))
      (Out (Stop BadByte)))))

  number_step : (s : Made) (c : ℕ) → 48 ≤ c → c ≤ 57 → s.count < 19 → s.made * 10 + (c - 48) ≤ most
      → number_move most (Some s) c
      ≡ On (Some (record { count = s.count + 1; made = s.made * 10 + (c - 48) }))
  unfolding step
  number_step s c a b lt le = grind arith

  number_end : (s : Made) (r : List ℕ)
      → scan (number_move most) (Some s) (13 ∷ 10 ∷ r) ≡ Whole s.made r
  unfolding only_byte
  number_end s r = refl

  number_rest : (n : ℕ) (ds r : List ℕ) (s : Made) → n ≤ most → s.count + length ds ≤ 19
      → Digits s.made ds n → scan (number_move most) (Some s) (ds ++ 13 ∷ 10 ∷ r) ≡ Whole n r
  number_rest n [] r s le k h = number_end s r ∙ ap (λ j. Whole j r) h
  number_rest n (c ∷ ds) r s le k h =
      ap (λ q. moved q (λ u. scan (number_move most) u (ds ++ 13 ∷ 10 ∷ r)) c (ds ++ 13 ∷ 10 ∷ r))
      (number_step s c h.0 h.1 (omega arith)
      (omega (arith, grows ds (s.made * 10 + (c - 48)) n h.2)))
      ∙ number_rest n ds r (record { count = s.count + 1; made = s.made * 10 + (c - 48) }) le
      (omega arith) h.2

first_by : ℕ → Bool → Bool → Move (Option Made) ℕ
first_by c x y =
    cond x (Out (Stop BadByte))
    (cond y (Out (Stop BadByte)) (On (Some (record { count = 1; made = c - 48 }))))

pub first_step : (most c : ℕ) → 48 ≤ c → c ≤ 57
    → number_move most None c ≡ On (Some (record { count = 1; made = c - 48 }))
unfolding first_by
first_step most c a b = λ i. first_by c (le-ltb c 48 a i) (le-ltb 57 c b i)

-- the digits of a number that has one
digits_only : (most n : ℕ) (ds r : List ℕ) → n ≤ most → length ds ≤ 19 → IsLength n ds
    → digits_of_at most None (ds ++ 13 ∷ 10 ∷ r) ≡ Whole n r
unfolding digits_of_at
digits_only most n [] r le k h = absurd h
digits_only most n (c ∷ ds) r le k h =
    ap (λ q. moved q (λ u. scan (number_move most) u (ds ++ 13 ∷ 10 ∷ r)) c (ds ++ 13 ∷ 10 ∷ r))
    (elim h [
      | inl z ↦ first_step most c (omega (arith, z.0)) (omega (arith, z.0))
      | inr z ↦ first_step most c (omega (arith, z.0)) z.1
    ])
    ∙ elim h [
      | inl z ↦ number_rest most n ds r (record { count = 1; made = c - 48 }) le (omega arith)
          (subst (λ (q : List ℕ). Digits (c - 48) q n) (sym z.1) (omega (arith, z.0, z.2)))
      | inr z ↦ number_rest most n ds r (record { count = 1; made = c - 48 }) le (omega arith) z.2
    ]

-- a number without a sign begins with its first digit
pub unsigned_by : (c : ℕ) (b : List ℕ) → 48 ≤ c → c ≤ 57
    → number_at (c ∷ b) ≡ signed_at false None (c ∷ b)
unfolding number_at signed_at digits_of_at
unsigned_by c b lo hi = grind arith

pub minus : (b : List ℕ) → number_at (45 ∷ b) ≡ signed_at true None b
unfolding number_at
minus b = refl

signed_only : (m : Bool) (n : ℕ) (ds r : List ℕ) → n ≤ greatest m → length ds ≤ 19 → IsLength n ds
    → signed_at m None (ds ++ 13 ∷ 10 ∷ r) ≡ Whole (signed m n) r
unfolding signed_at
signed_only m n ds r le k h =
    ap (λ q. q >>= λ n r. Whole (signed m n) r) (digits_only (greatest m) n ds r le k h)

pub number_only : (i : ℤ) (r : List ℕ) → IsShort i
    → whole_number_at (signed_decimal i ++ 13 ∷ 10 ∷ r) ≡ Whole (number i) r
unfolding whole_number_at
number_only (pos n) r h = grind (arith, pos, is_length, signed_only, short_enough, unsigned_by)
number_only (negsuc n) r h = grind (arith, negsuc, minus, signed_only, short_enough, is_length)

-- ---- counted texts

pub blob_only : (t r : List ℕ) → length t ≤ 16777216
    → blob_at (blob_tree false) blob_rule (decimal (length t) ++ 13 ∷ 10 ∷ (t ++ 13 ∷ 10 ∷ r))
    ≡ Whole (blob t) r
unfolding blob_at
blob_only t r le = grind (arith, length_only, is_length, counted_only)

pub blob_error_only : (t r : List ℕ) → length t ≤ 16777216
    → blob_at (blob_tree true) blob_error_rule
    (decimal (length t) ++ 13 ∷ 10 ∷ (t ++ 13 ∷ 10 ∷ r)) ≡ Whole (blob_error t) r
unfolding blob_at
blob_error_only t r le = grind (arith, length_only, is_length, counted_only)

pub three : (f t r : List ℕ) (n : ℕ) → length f ≡ 3 → n ≡ length t + 4
    → formatted_at n (f ++ 58 ∷ (t ++ 13 ∷ 10 ∷ r)) ≡ Whole (verbatim f t) r
unfolding formatted_at format_at only_byte
three (x ∷ y ∷ z ∷ []) t r n e k =
    ap (λ j. counted_at j (t ++ 13 ∷ 10 ∷ r) >>= λ u s. Whole (verbatim (x ∷ y ∷ z ∷ []) u) s)
    (let m : n - 4 ≡ length t = omega arith in m)
    ∙ ap (λ q. q >>= λ u s. Whole (verbatim (x ∷ y ∷ z ∷ []) u) s) (counted_only t r)
three (x ∷ y ∷ z ∷ w ∷ f) t r n e k = absurd (omega arith)
three f t r n e k = absurd (omega arith)

pub verbatim_only : (f t r : List ℕ) → length f ≡ 3 → length t + 4 ≤ 16777216
    → verbatim_at (decimal (length (f ++ 58 ∷ t)) ++ 13 ∷ 10 ∷ (f ++ 58 ∷ (t ++ 13 ∷ 10 ∷ r)))
    ≡ Whole (verbatim f t) r
unfolding verbatim_at
verbatim_only f t r e le = grind (arith, length-append, length_only, is_length, three)
