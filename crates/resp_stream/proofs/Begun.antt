-- A request by its first byte.
use Rattle.std.proofs.Common.{◌≡◌, ◌≢◌, ℕ, ◌-◌, List, [], ◌∷◌, ◌++◌, refl, sym, ap, ◌∙◌, true}
use Rattle.std.proofs.Common.{length, arith, Option, Some, None}
use Rattle.resp_stream.specs.declared.fault.Fault.{Fault}
use Rattle.resp_stream.specs.Parsed.{Parsed, Whole, More, Bad, ◌>>=◌}
use Rattle.resp_stream.specs.Tokens.{line_at, length_at, many}
use Rattle.resp_stream.specs.Request.{line_limit, words_rule, words_after, word_at, listed}
use Rattle.resp_stream.specs.Request.{inline_at, array_at, request_begun}
use Rattle.resp_stream.specs.RequestSteps.{with_more, HasWords}
use Rattle.resp_stream.proofs.Readers.{reader_line, reader_length}
use Rattle.resp_stream.proofs.RequestLaws.{words_ok}
use Rattle.resp_stream.proofs.Places.{steady, Goes, goes, reads_on}

-- ---- a line

pub inline_whole : (b t r : List ℕ) → line_at true line_limit b ≡ Whole t r
    → inline_at b ≡ Whole (words_after [] t) r
unfolding inline_at
inline_whole b t r e = ap (λ q. q >>= λ t r. Whole (words_after [] t) r) e

pub inline_more : (b : List ℕ) → line_at true line_limit b ≡ More → inline_at b ≡ More
unfolding inline_at
inline_more b e = ap (λ q. q >>= λ t r. Whole (words_after [] t) r) e

pub inline_bad : (b r : List ℕ) (g : Fault) → line_at true line_limit b ≡ Bad g r
    → inline_at b ≡ Bad g r
unfolding inline_at
inline_bad b r g e = ap (λ q. q >>= λ t r. Whole (words_after [] t) r) e

no_line : line_at true line_limit [] ≡ More
unfolding line_at
no_line = refl

pub line_goes : (b t r : List ℕ) → line_at true line_limit b ≡ Whole t r → Goes b 0 r
line_goes b t r e =
    reads_on (line_at true line_limit) (reader_line true line_limit) no_line b r 0 t (omega arith) e

-- ---- the first byte

pub begun_none : (b : List ℕ) → b ≡ [] → request_begun b ≡ More
unfolding request_begun
begun_none b e = ap request_begun e

pub begun_inline : (b r : List ℕ) (c : ℕ) → b ≡ c ∷ r → c ≢ 42 → request_begun b ≡ inline_at b
unfolding request_begun
begun_inline b r c e h = grind arith

star : (b : List ℕ) → request_begun (42 ∷ b) ≡ array_at b
unfolding request_begun
star b = refl

module _ (text b : List ℕ) (c : ℕ) (is : text ≡ c ∷ b) (h : c ≡ 42) where
  starred : text ≡ 42 ∷ b
  starred = is ∙ ap (λ k. k ∷ b) h

  begun_array : request_begun text ≡ array_at b
  begun_array = ap request_begun starred ∙ star b

  pub array_more : length_at words_rule b ≡ More → request_begun text ≡ More
  unfolding array_at
  array_more e = begun_array ∙ ap (λ q. q >>= listed) e

  pub array_bad : (r : List ℕ) (g : Fault) → length_at words_rule b ≡ Bad g r
      → request_begun text ≡ Bad g r
  unfolding array_at
  array_bad r g e = begun_array ∙ ap (λ q. q >>= listed) e

  pub array_null : (r : List ℕ) → length_at words_rule b ≡ Whole None r
      → request_begun text ≡ Whole [] r
  unfolding array_at
  array_null r e = begun_array ∙ ap (λ q. q >>= listed) e

  pub array_goes : (n : Option ℕ) (r : List ℕ) → length_at words_rule b ≡ Whole n r → Goes text 0 r
  array_goes n r e =
      let k = (reader_length words_rule words_ok).whole b r n e in
      goes text (42 ∷ k.front) r 0 (omega arith) (starred ∙ ap (λ (q : List ℕ). 42 ∷ q) k.parts)
      (omega arith)

  none_before : (a : Parsed (List (List ℕ))) → a ≡ (a >>= λ ws s. Whole ([] ++ ws) s)
  none_before a = grind arith

  array_with : (n : ℕ) (d r : List ℕ) → length_at words_rule d ≡ Whole (Some n) r
      → array_at d ≡ with_more [] n r
  unfolding array_at with_more
  array_with n d r e = ap (λ q. q >>= listed) e ∙ none_before (many word_at n r)

  pub array_some : (n : ℕ) (r : List ℕ) → length_at words_rule b ≡ Whole (Some n) r
      → HasWords text (length text - length r) n []
  array_some n r e =
      let g = array_goes (Some n) r e in
      record {
        within = omega arith;
        same = λ m. ap (λ (q : List ℕ). request_begun (q ++ m)) starred ∙ star (b ++ m)
            ∙ array_with n (b ++ m) (r ++ m)
            (steady (length_at words_rule) (reader_length words_rule words_ok) b r (Some n) e m)
            ∙ ap (λ (q : List ℕ). with_more [] n (q ++ m)) (sym g.place);
      }
