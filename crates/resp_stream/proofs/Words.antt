-- The words of a request, one after the other.
use Rattle.std.proofs.Common.{◌≡◌, ℕ, suc, ◌-◌, ◌<◌, List, [], ◌∷◌, ◌++◌, refl, sym, ap, ◌∙◌}
use Rattle.std.proofs.Common.{append_assoc, length, drop, arith}
use Rattle.resp_stream.specs.declared.fault.Fault.{Fault}
use Rattle.resp_stream.specs.Parsed.{Whole, More, Bad}
use Rattle.resp_stream.specs.Tokens.{only_byte, many}
use Rattle.resp_stream.specs.Request.{word_at, request_begun}
use Rattle.resp_stream.specs.RequestSteps.{with_more, HasWords}
use Rattle.resp_stream.proofs.Compose.{append_nil}
use Rattle.resp_stream.proofs.RequestLaws.{reader_word}
use Rattle.resp_stream.proofs.Places.{steady, Goes, reads_on}

next_word : (ws : List (List ℕ)) (k : ℕ) (b r w : List ℕ) → word_at b ≡ Whole w r
    → with_more ws (suc k) b ≡ with_more (ws ++ w ∷ []) k r
unfolding with_more many
next_word ws k b r w e = grind (arith, append_assoc)

more_words : (ws : List (List ℕ)) (k : ℕ) (b : List ℕ) → word_at b ≡ More
    → with_more ws (suc k) b ≡ More
unfolding with_more many
more_words ws k b e = grind arith

bad_word : (ws : List (List ℕ)) (k : ℕ) (b r : List ℕ) (g : Fault) → word_at b ≡ Bad g r
    → with_more ws (suc k) b ≡ Bad g r
unfolding with_more many
bad_word ws k b r g e = grind arith

all_words : (ws : List (List ℕ)) (b : List ℕ) → with_more ws 0 b ≡ Whole ws b
unfolding with_more many
all_words ws b = ap (λ (q : List (List ℕ)). Whole q b) (none ws)
  where
    none : (p : List (List ℕ)) → p ++ [] ≡ p
    none [] = refl
    none (x ∷ p) = ap (λ (q : List (List ℕ)). x ∷ q) (none p)

no_word : word_at [] ≡ More
unfolding word_at only_byte
no_word = refl

module _ (text rest : List ℕ) (at left : ℕ) (ws : List (List ℕ)) (h : HasWords text at left ws)
    (back : rest ≡ drop at text) where
  here : request_begun text ≡ with_more ws left (drop at text)
  here = ap request_begun (sym (append_nil text)) ∙ h.same []
      ∙ ap (λ q. with_more ws left q) (append_nil (drop at text))

  pub word_goes : (w r : List ℕ) → word_at rest ≡ Whole w r → Goes text at r
  word_goes w r e =
      reads_on word_at reader_word no_word text r at w h.within (ap word_at (sym back) ∙ e)

  pub word_on : (w r : List ℕ) (new : List (List ℕ)) → 0 < left → word_at rest ≡ Whole w r
      → new ≡ ws ++ w ∷ [] → HasWords text (length text - length r) (left - 1) new
  word_on w r new lt e n =
      let g = word_goes w r e in
      let one : left ≡ suc (left - 1) = omega arith in
      grind (arith, next_word, steady, reader_word)

  pub word_more : 0 < left → word_at rest ≡ More → request_begun text ≡ More
  word_more lt e =
      let one : left ≡ suc (left - 1) = omega arith in
      grind (arith, here, more_words)

  pub word_bad : (r : List ℕ) (g : Fault) → 0 < left → word_at rest ≡ Bad g r
      → request_begun text ≡ Bad g r
  word_bad r g lt e =
      let one : left ≡ suc (left - 1) = omega arith in
      grind (arith, here, bad_word)

pub words_all : (text : List ℕ) (at left : ℕ) (ws : List (List ℕ)) → HasWords text at left ws
    → left ≡ 0 → request_begun text ≡ Whole ws (drop at text)
words_all text at left ws h z =
    here text (drop at text) at left ws h refl ∙ ap (λ k. with_more ws k (drop at text)) z
    ∙ all_words ws (drop at text)
