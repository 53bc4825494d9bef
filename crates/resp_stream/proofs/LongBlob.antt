-- A long blob is where its length says.
use Rattle.std.proofs.Common.{◌≡◌, ℕ, ◌+◌, ◌-◌, ◌≤◌, List, [], ◌∷◌, ◌++◌, refl, sym, ap}
use Rattle.std.proofs.Common.{◌∙◌, length, take, drop, arith, false, Some, le-ltb}
use Rattle.std.proofs.lemmas.List.{length-drop, drop-drop}
use Rattle.resp_value.specs.Tree.{blob}
use Rattle.resp_stream.specs.declared.tokens.LengthRule.{LengthRule}
use Rattle.resp_stream.specs.LongBlobs.{LiesAt}
use Rattle.resp_stream.specs.Parsed.{Whole, More, ◌>>=◌}
use Rattle.resp_stream.specs.Request.{request_at, request_begun, sized, whole_limit, word_at}
use Rattle.resp_stream.specs.Request.{word_rule}
use Rattle.resp_stream.specs.RequestSteps.{HasWords, IsLastAt}
use Rattle.resp_stream.specs.Tokens.{IsRule, length_at, counted_at, bytes_at, ending, only_byte}
use Rattle.resp_stream.specs.Value.{blob_rule, blob_tree, blob_at, sized_blob, value_in, value_at}
use Rattle.resp_stream.specs.ValueSteps.{IsBlobAt}
use Rattle.resp_stream.proofs.Capped.{whole_within}
use Rattle.resp_stream.proofs.Places.{Goes, reads_on}
use Rattle.resp_stream.proofs.Readers.{reader_length}
use Rattle.resp_stream.proofs.RequestLaws.{word_ok}
use Rattle.resp_stream.proofs.ValueLaws.{blob_ok}
use Rattle.resp_stream.proofs.Words.{word_on, words_all}

no_length : (rule : LengthRule) → length_at rule [] ≡ More
unfolding length_at
no_length rule = refl

ends : (t behind : List ℕ) → ending t (13 ∷ 10 ∷ behind) ≡ Whole t behind
unfolding only_byte
ends t behind = refl

counted : (n : ℕ) (b behind : List ℕ) → n ≤ length b → drop n b ≡ 13 ∷ 10 ∷ behind
    → counted_at n b ≡ Whole (take n b) behind
unfolding counted_at bytes_at
counted n b behind le e = grind (arith, le-ltb, ends)

module _ (rule : LengthRule) (ok : IsRule rule) where
  pub length_goes : (text s b : List ℕ) (n : ℕ) → text ≡ 36 ∷ s
      → length_at rule s ≡ Whole (Some n) b → Goes text 1 b
  length_goes text s b n head long =
      reads_on (length_at rule) (reader_length rule ok) (no_length rule) text b 1 (Some n)
      (omega (arith, ap length head)) (ap (λ q. length_at rule (drop 1 q)) head ∙ long)

  module _ (text : List ℕ) (first n : ℕ) (l : LiesAt rule text first n) where
    goes_on : Goes text 1 l.bytes
    goes_on = length_goes text l.sized l.bytes n l.mark l.long

    bytes_at_place : l.bytes ≡ drop first text
    bytes_at_place = sym goes_on.place ∙ ap (λ k. drop k text) (sym l.place)

    behind_at_place : l.behind ≡ drop (first + n + 2) text
    behind_at_place =
        sym (ap (drop 2) l.end) ∙ drop-drop 2 n l.bytes ∙ ap (drop (n + 2)) bytes_at_place
        ∙ drop-drop (n + 2) first text ∙ ap (λ k. drop k text) (omega arith)

    longer : length l.bytes ≡ n + 2 + length l.behind
    longer = omega (arith, ap length l.end, length-drop n l.bytes, l.whole)

    pub lies_within : first + n + 2 ≤ length text
    lies_within = omega (arith, longer, l.place, goes_on.within)

    taken : length text - length l.behind ≡ first + n + 2
    taken = omega (arith, longer, l.place, goes_on.within)

module _ (text : List ℕ) (first n : ℕ) (l : LiesAt blob_rule text first n) where
  value_read : value_in 8 text ≡ Whole (blob (take n l.bytes)) l.behind
  unfolding value_in blob_at
  value_read =
      ap (value_in 8) l.mark ∙ ap (λ a. a >>= sized_blob (blob_tree false)) l.long
      ∙ ap (λ a. a >>= λ t r. Whole (blob t) r) (counted n l.bytes l.behind l.whole l.end)

  value_here : first + n + 2 ≤ whole_limit
      → value_at text ≡ Whole (blob (take n (drop first text))) (drop (first + n + 2) text)
  unfolding value_at
  value_here f =
      whole_within whole_limit text (value_in 8 text) (blob (take n l.bytes)) l.behind value_read
      (omega (arith, taken blob_rule blob_ok text first n l))
      ∙ ap (λ q. Whole (blob (take n q)) l.behind) (bytes_at_place blob_rule blob_ok text first n l)
      ∙ ap (λ q. Whole (blob (take n (drop first text))) q)
      (behind_at_place blob_rule blob_ok text first n l)

  pub blob_here : first + n + 2 ≤ whole_limit → IsBlobAt text first n
  blob_here fits = record {
    within = lies_within blob_rule blob_ok text first n l;
    is = value_here fits;
  }

module _ (text : List ℕ) (first n : ℕ) (l : LiesAt word_rule text first n) where
  word_read : word_at text ≡ Whole (take n l.bytes) l.behind
  unfolding word_at only_byte
  word_read =
      ap word_at l.mark ∙ ap (λ a. a >>= λ n s. sized n s) l.long
      ∙ counted n l.bytes l.behind l.whole l.end

  word_here : word_at text ≡ Whole (take n (drop first text)) (drop (first + n + 2) text)
  word_here =
      word_read
      ∙ ap (λ q. Whole (take n q) l.behind) (bytes_at_place word_rule word_ok text first n l)
      ∙ ap (λ q. Whole (take n (drop first text)) q)
      (behind_at_place word_rule word_ok text first n l)

module _ (text : List ℕ) (at first n : ℕ) (ws : List (List ℕ)) (h : HasWords text at 1 ws)
    (l : LiesAt word_rule (drop at text) first n) where
  abbrev word : List ℕ
  word = take n (drop first (drop at text))

  abbrev left : List ℕ
  left = drop (first + n + 2) (drop at text)

  all : HasWords text (length text - length left) 0 (ws ++ word ∷ [])
  all =
      word_on text (drop at text) at 1 ws h refl word left (ws ++ word ∷ []) (omega arith)
      (word_here (drop at text) first n l) refl

  fits_in : at + first + n + 2 ≤ length text
  fits_in = omega (
    arith,
    lies_within word_rule word_ok (drop at text) first n l,
    length-drop at text,
    h.within,
  )

  left_at : left ≡ drop (at + first + n + 2) text
  left_at = drop-drop (first + n + 2) at text ∙ ap (λ k. drop k text) (omega arith)

  word_at_place : word ≡ take n (drop (at + first) text)
  word_at_place = ap (take n) (drop-drop first at text)

  begun : request_begun text ≡ Whole (ws ++ word ∷ []) left
  begun =
      words_all text (length text - length left) 0 (ws ++ word ∷ []) all refl
      ∙ ap (λ q. Whole (ws ++ word ∷ []) q) (
      ap (λ k. drop k text)
      (omega (arith, ap length left_at, length-drop (at + first + n + 2) text, fits_in))
      ∙ sym left_at
      )

  pub last_here : at + first + n + 2 ≤ whole_limit → IsLastAt text ws (at + first) n
  unfolding request_at
  last_here fits = record {
    within = fits_in;
    is =
        whole_within whole_limit text (request_begun text) (ws ++ word ∷ []) left begun
        (omega (arith, ap length left_at, length-drop (at + first + n + 2) text, fits_in))
        ∙ ap (λ q. Whole (ws ++ q ∷ []) left) word_at_place
        ∙ ap (λ q. Whole (ws ++ take n (drop (at + first) text) ∷ []) q) left_at;
  }
