-- The parts of values and requests, read from the front of a text (RESP specifications 2 and 3).
use Rattle.std.specs.Prelude.{◌≡◌, ◌<◌, ◌≤◌, ◌^◌, ℕ, zero, suc, ◌+◌, ◌-◌, ◌*◌, nat_lt, nat_eq, Bool}
use Rattle.std.specs.Prelude.{true, false, ◌||◌, cond, List, [], ◌∷◌, ◌++◌, length, take, drop}
use Rattle.std.specs.Prelude.{Option, Some, None}
use Rattle.resp_stream.specs.declared.fault.Fault.{Fault}
use Rattle.resp_stream.specs.declared.fault.Fault.TheVariants.{BadByte, TooLong, TooDeep, NotServed}
use Rattle.resp_stream.specs.declared.tokens.LengthRule.{LengthRule}
use Rattle.resp_stream.specs.Parsed.{Parsed, Whole, More, Bad, Choice, Go, Stop, Move, On, Out}
use Rattle.resp_stream.specs.Parsed.{scan, first, ◌>>=◌}

-- This byte and no other.
unfoldable pub only_byte : ℕ → List ℕ → Parsed (Unit {0})
only_byte b = first (λ c. cond (nat_eq c b) (Go (Whole tt)) (Stop BadByte))

-- LF, after the CR of an end
abbrev pub line_feed : {A : Type 0} → A → List ℕ → Parsed A
line_feed x b = only_byte 10 b >>= λ u r. Whole x r

-- CR LF
abbrev pub ending : {A : Type 0} → A → List ℕ → Parsed A
ending x b = only_byte 13 b >>= λ u r. line_feed x r

-- ---- a length: `0`, or digits that begin with 1 to 9; or `-1`, where the rule has it

-- what the end of a length leads to
abbrev pub length_end : LengthRule → ℕ → Choice (Option ℕ)
length_end rule n = cond (nat_lt n rule.least) (Stop BadByte) (Go (line_feed (Some n)))

-- The rest of a length whose digits so far make n.
abbrev pub digit_move : LengthRule → ℕ → ℕ → Move ℕ (Option ℕ)
digit_move rule n c =
    cond (nat_eq c 13) (Out (length_end rule n))
    (cond (nat_lt c 48) (Out (Stop BadByte))
    (cond (nat_lt 57 c) (Out (Stop BadByte))
    (cond (nat_lt rule.limit (n * 10 + (c - 48))) (Out (Stop (TooLong (n * 10 + (c - 48)))))
    (On (n * 10 + (c - 48))))))

unfoldable pub digits_at : LengthRule → ℕ → List ℕ → Parsed (Option ℕ)
digits_at rule = scan (digit_move rule)

-- the rest of `-1`
unfoldable pub minus_one : List ℕ → Parsed (Option ℕ)
minus_one b = only_byte 49 b >>= λ u r. ending None r

abbrev pub length_by : LengthRule → ℕ → Choice (Option ℕ)
length_by rule c =
    cond (nat_eq c 63) (cond rule.streamed (Stop (NotServed 63)) (Stop BadByte))
    (cond (nat_eq c 45) (cond rule.null (Go minus_one) (Stop BadByte))
    (cond (nat_eq c 48) (cond (nat_lt 0 rule.least) (Stop BadByte) (Go (ending (Some 0))))
    (cond (nat_lt c 49) (Stop BadByte)
    (cond (nat_lt 57 c) (Stop BadByte)
    (cond (nat_lt rule.limit (c - 48)) (Stop (TooLong (c - 48)))
    (Go (digits_at rule (c - 48))))))))

-- A length after its type byte, with its end; None for the null `-1`.
unfoldable pub length_at : LengthRule → List ℕ → Parsed (Option ℕ)
length_at rule = first (length_by rule)

pub record IsRule (rule : LengthRule) : Type 0 where
  pub limit : rule.limit < 2 ^ 32
  pub room : 99 ≤ rule.limit
  pub least : rule.least ≤ 9

-- ---- a line of text: of a value after its type byte, or an inline request

-- an inline request ends in LF alone too
abbrev pub ends_line : Bool → ℕ → Bool
ends_line true c = nat_eq c 10
ends_line false c = false

-- a value's line has no LF, and an inline request has no quotes
abbrev pub refused : Bool → ℕ → Bool
refused true c = nat_eq c 34 || nat_eq c 39
refused false c = nat_eq c 10

-- The rest of a line whose text so far is t.
abbrev pub line_move : Bool → ℕ → List ℕ → ℕ → Move (List ℕ) (List ℕ)
line_move inline limit t c =
    cond (nat_eq c 13) (Out (Go (line_feed t)))
    (cond (ends_line inline c) (Out (Go (Whole t)))
    (cond (nat_lt (length t) limit)
    (cond (refused inline c) (Out (Stop BadByte)) (On (t ++ c ∷ [])))
    (Out (Stop (TooLong (limit + 1))))))

unfoldable pub line_at : Bool → ℕ → List ℕ → Parsed (List ℕ)
line_at inline limit = scan (line_move inline limit) []

-- The bytes of p begin a line that has not ended.
abbrev pub Passed : Bool → ℕ → List ℕ → Type 0
Passed inline limit p = (m : List ℕ) → line_at inline limit (p ++ m)
    ≡ scan (line_move inline limit) p m

-- ---- bytes

-- n bytes, whatever they are
unfoldable pub bytes_at : ℕ → List ℕ → Parsed (List ℕ)
bytes_at n b = cond (nat_lt (length b) n) More (Whole (take n b) (drop n b))

-- n bytes and an end
unfoldable pub counted_at : ℕ → List ℕ → Parsed (List ℕ)
counted_at n b = bytes_at n b >>= λ t s. ending t s

-- n of a kind, one after the other
unfoldable pub many : {A : Type 0} → (List ℕ → Parsed A) → ℕ → List ℕ → Parsed (List A)
many read zero b = Whole [] b
many read (suc n) b = read b >>= λ t r. many read n r >>= λ ts s. Whole (t ∷ ts) s

-- ---- the limit of the whole

-- of the faults at one byte a byte too many comes before a wrong one
abbrev pub at_limit : Fault → ℕ → Fault
at_limit BadByte most = TooLong (most + 1)
at_limit (TooLong n) most = TooLong n
at_limit TooDeep most = TooDeep
at_limit (NotServed c) most = NotServed c

-- a fault, by its offset
abbrev pub limited : ℕ → ℕ → Fault → Fault × ℕ
limited most o g =
    cond (nat_lt most o) (TooLong (most + 1), most)
    (cond (nat_lt o most) (g, o) (at_limit g most, o))

-- Where the whole has more than `most` bytes, the first byte that is one too many is a fault.
abbrev pub capped : {A : Type 0} → ℕ → List ℕ → Parsed A → Parsed A
capped most b (Whole x r) =
    cond (nat_lt most (length b - length r)) (Bad (TooLong (most + 1)) (drop most b)) (Whole x r)
capped most b More = cond (nat_lt most (length b)) (Bad (TooLong (most + 1)) (drop most b)) More
capped most b (Bad g r) =
    Bad (limited most (length b - length r) g).0 (drop (limited most (length b - length r) g).1 b)
