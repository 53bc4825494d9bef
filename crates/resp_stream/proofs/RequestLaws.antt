-- A request is read by a reader.
use Rattle.resp_stream.proofs.Compose.{move_if, reader_then, reader_whole, reader_first, IsChoice}
use Rattle.resp_stream.proofs.Compose.{IsMove, choice_if}
use Rattle.resp_stream.proofs.Readers.{reader_feed, reader_only, reader_length, reader_counted}
use Rattle.resp_stream.proofs.Readers.{reader_many, reader_text}
use Rattle.std.proofs.Common.{◌≡◌, ℕ, List, [], ◌∷◌, ◌++◌, refl, sym, ◌∙◌, Bool, true, cond, Option}
use Rattle.std.proofs.Common.{Some, None, lit<, lit≤, arith}
use Rattle.std.specs.Prelude.{nat_eq}
use Rattle.resp_stream.specs.Parsed.{Parsed, Whole, Choice, Go, Stop, Move, On, Out, taken, moved}
use Rattle.resp_stream.specs.Parsed.{scan, first, ◌>>=◌}
use Rattle.resp_stream.specs.ReaderLaws.{IsReader}
use Rattle.resp_stream.specs.Tokens.{IsRule, only_byte, length_at, line_move, line_at}
use Rattle.resp_stream.specs.Request.{line_limit, words_rule, word_rule, words_after, inline_at}
use Rattle.resp_stream.specs.Request.{sized, word_at, listed, array_at, request_begun}

pub words_ok : IsRule words_rule
words_ok = record { limit = lit< tt; room = lit≤ tt; least = lit≤ tt }

pub word_ok : IsRule word_rule
word_ok = record { limit = lit< tt; room = lit≤ tt; least = lit≤ tt }

reader_sized : (n : Option ℕ) → IsReader (sized n)
reader_sized None = reader_whole []
reader_sized (Some n) = reader_counted n

pub reader_word : IsReader word_at
unfolding word_at
reader_word =
    reader_then (only_byte 36) (λ u r. length_at word_rule r >>= λ n s. sized n s) (reader_only 36)
    (λ u. reader_then (length_at word_rule) sized (reader_length word_rule word_ok) reader_sized)

reader_listed : (n : Option ℕ) → IsReader (listed n)
reader_listed None = reader_whole []
reader_listed (Some n) = reader_many word_at reader_word n

pub reader_array : IsReader array_at
unfolding array_at
reader_array =
    reader_then (length_at words_rule) listed (reader_length words_rule words_ok) reader_listed

-- a reader is known by what it answers
reader_same : {A : Type 0} (f g : List ℕ → Parsed A) → ((b : List ℕ) → f b ≡ g b) → IsReader f
    → IsReader g
reader_same f g e l = record {
  whole = λ b r x h. let t =
      l.whole b r x (e b ∙ h) in
      record { front = t.front; parts = t.parts; again = λ s. sym (e (t.front ++ s)) ∙ t.again s };
  bad = λ b r x h.
      let m = l.bad b r x (e b ∙ h) in
      record {
        front = m.front;
        byte = m.byte;
        after = m.after;
        parts = m.parts;
        rest =
            m.rest;
        before = sym (e m.front) ∙ m.before;
        again =
            λ s. sym (e (m.front ++ m.byte ∷ s)) ∙ m.again s;
      };
  more = λ b h. let c = l.more b (e b ∙ h) in (c.0, c.1, sym (e (b ++ c.0)) ∙ c.2);
}

-- an inline request by its first byte
words_from : List ℕ → List ℕ → Parsed (List (List ℕ))
words_from t r = Whole (words_after [] t) r

lead : Move (List ℕ) (List ℕ) → Choice (List (List ℕ))
lead (On t) = Go (λ b. scan (line_move true line_limit) t b >>= words_from)
lead (Out (Go g)) = Go (λ b. g b >>= words_from)
lead (Out (Stop g)) = Stop g

lead_choice : (m : Move (List ℕ) (List ℕ)) → IsMove m → IsChoice (lead m)
unfolding lead words_from
lead_choice (On t) h =
    reader_then (scan (line_move true line_limit) t) words_from (reader_text true line_limit t)
    (λ t. reader_whole (words_after [] t))
lead_choice (Out (Go g)) h = reader_then g words_from h (λ t. reader_whole (words_after [] t))
lead_choice (Out (Stop g)) h = tt

lead_is : (m : Move (List ℕ) (List ℕ)) (c : ℕ) (b : List ℕ)
    → taken (lead m) c b ≡ (moved m (λ t. scan (line_move true line_limit) t b) c b >>= words_from)
unfolding lead
lead_is m c b = grind arith

by_first : ℕ → Choice (List (List ℕ))
by_first c = cond (nat_eq c 42) (Go array_at) (lead (line_move true line_limit [] c))

by_first_is : (t : Bool) (c : ℕ) (b : List ℕ)
    → taken (cond t (Go array_at) (lead (line_move true line_limit [] c))) c b
    ≡ cond t (array_at b) (inline_at (c ∷ b))
unfolding inline_at line_at words_from
by_first_is t c b = grind (arith, lead_is)

begun_is : (b : List ℕ) → first by_first b ≡ request_begun b
unfolding request_begun by_first
begun_is b = grind (arith, by_first_is)

reader_first_byte : IsReader (first by_first)
unfolding by_first
reader_first_byte =
    reader_first by_first
    (λ c. choice_if (nat_eq c 42) (Go array_at) (lead (line_move true line_limit [] c))
    reader_array
    (lead_choice (line_move true line_limit [] c) (grind (
      arith,
      move_if,
      reader_feed,
      reader_whole,
    )))) 42
    array_at refl
    reader_array

pub reader_request : IsReader request_begun
reader_request = reader_same (first by_first) request_begun begun_is reader_first_byte
