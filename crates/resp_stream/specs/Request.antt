-- A request: an array of blobs, or a line of words (RESP specification 2, "Inline commands").
use Rattle.std.specs.Prelude.{ℕ, zero, suc, nat_eq, Bool, true, false, ◌||◌, cond, List, [], ◌∷◌}
use Rattle.std.specs.Prelude.{◌++◌, length, Option, Some, None}
use Rattle.resp_stream.specs.declared.tokens.LengthRule.{LengthRule}
use Rattle.resp_stream.specs.Parsed.{Parsed, Whole, More, Bad, ◌>>=◌}
use Rattle.resp_stream.specs.Tokens.{only_byte, length_at, counted_at, many, line_at, capped}

abbrev pub line_limit : ℕ
line_limit = 65536

-- the most bytes of one whole value or request
abbrev pub whole_limit : ℕ
whole_limit = 67108864

-- the number of words
abbrev pub words_rule : LengthRule
words_rule = record { streamed = true; null = true; least = 0; limit = 65536 }

-- the length of a word
abbrev pub word_rule : LengthRule
word_rule = record { streamed = true; null = false; least = 0; limit = 16777216 }

-- ---- the words of a line are parted by spaces and tabs

abbrev pub is_blank : ℕ → Bool
is_blank c = nat_eq c 32 || nat_eq c 9

-- a word that has bytes
abbrev pub some_word : List ℕ → List (List ℕ)
some_word [] = []
some_word (c ∷ w) = (c ∷ w) ∷ []

-- the words of a line that goes on after the bytes w of a word
abbrev pub words_after : List ℕ → List ℕ → List (List ℕ)
words_after w [] = some_word w
words_after w (c ∷ t) =
    cond (is_blank c) (some_word w ++ words_after [] t) (words_after (w ++ c ∷ []) t)

-- ---- a request, empty ones included

unfoldable pub inline_at : List ℕ → Parsed (List (List ℕ))
inline_at b = line_at true line_limit b >>= λ t r. Whole (words_after [] t) r

-- a length, which is there: the rule has no null
abbrev pub sized : Option ℕ → List ℕ → Parsed (List ℕ)
sized None b = Whole [] b
sized (Some n) b = counted_at n b

unfoldable pub word_at : List ℕ → Parsed (List ℕ)
word_at b = only_byte 36 b >>= λ u r. length_at word_rule r >>= λ n s. sized n s

-- so many words; no words for `-1`
abbrev pub listed : Option ℕ → List ℕ → Parsed (List (List ℕ))
listed None b = Whole [] b
listed (Some n) b = many word_at n b

unfoldable pub array_at : List ℕ → Parsed (List (List ℕ))
array_at b = length_at words_rule b >>= λ n r. listed n r

-- the limit on the whole left aside
unfoldable pub request_begun : List ℕ → Parsed (List (List ℕ))
request_begun [] = More
request_begun (c ∷ b) = cond (nat_eq c 42) (array_at b) (inline_at (c ∷ b))

unfoldable pub request_at : List ℕ → Parsed (List (List ℕ))
request_at b = capped whole_limit b (request_begun b)

-- ---- requests in turn

abbrev pub skip_by : List ℕ → Parsed (List (List ℕ)) → (List ℕ → List ℕ) → List ℕ
skip_by b (Whole [] r) go = go r
skip_by b (Whole (w ∷ ws) r) go = b
skip_by b More go = b
skip_by b (Bad g r) go = b

-- What follows the first n empty requests at the front of a text.
unfoldable pub skip_empty_in : ℕ → List ℕ → List ℕ
skip_empty_in zero b = b
skip_empty_in (suc n) b = skip_by b (request_at b) (λ r. skip_empty_in n r)

-- What follows the empty requests at the front of a text. There are no more of them than bytes.
unfoldable pub skip_empty : List ℕ → List ℕ
skip_empty b = skip_empty_in (length b) b
