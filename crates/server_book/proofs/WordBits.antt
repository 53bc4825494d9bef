-- A bit of a row of words, after one was written.
use Rattle.std.proofs.Common.{◌≡◌, ◌<◌, ◌/◌, ◌%◌, ◌∙◌, ℕ, List, length, ap, arith, sym, inl, inr}
use Rattle.std.proofs.Common.{slice_index_or, slice_set, nat_eq}
use Rattle.std.specs.Int.{bit_at}
use Rattle.std.proofs.lemmas.Bool.{cases_eq}
use Rattle.std.proofs.lemmas.List.{get_or-set_other, get_or-set_same}
use Rattle.server_book.specs.Roster.{bit_in}

-- the word of a bit is another than that of this one, or its place in the word is
apart : (at other : ℕ) → (other ≡ at → ⊥) → other / 64 ≡ at / 64 → other % 64 ≡ at % 64 → ⊥
apart at other not words places = not (omega arith)

-- where a word in the place of another differs from it in one bit alone
pub put_here : (words : List ℕ) (at word bit : ℕ) → at / 64 < length words
    → bit_at word (at % 64) ≡ bit → bit_in (slice_set words (at / 64) word) at ≡ nat_eq bit 1
put_here words at word bit lt is =
    ap (λ w. nat_eq (bit_at w (at % 64)) 1) (get_or-set_same words (at / 64) word 0 lt)
    ∙ ap (λ b. nat_eq b 1) is

pub put_else : (words : List ℕ) (at word : ℕ) → at / 64 < length words
    → ((i : ℕ) → i < 64 → (i ≡ at % 64 → ⊥)
    → bit_at word i ≡ bit_at (slice_index_or words (at / 64) 0) i)
    → (other : ℕ) → (other ≡ at → ⊥)
    → bit_in (slice_set words (at / 64) word) other ≡ bit_in words other
put_else words at word lt same other not =
    elim (cases_eq (other / 64) (at / 64)) [
      | inl e ↦
          ap (λ w. nat_eq (bit_at w (other % 64)) 1)
          (ap (λ k. slice_index_or (slice_set words (at / 64) word) k 0) e
          ∙ get_or-set_same words (at / 64) word 0 lt)
          ∙ ap (λ b. nat_eq b 1) (same (other % 64) (omega arith) (apart at other not e))
          ∙ ap (λ k. nat_eq (bit_at (slice_index_or words k 0) (other % 64)) 1) (sym e)
      | inr n ↦
          ap (λ w. nat_eq (bit_at w (other % 64)) 1)
          (get_or-set_other words (at / 64) (other / 64) word 0 n)
    ]
