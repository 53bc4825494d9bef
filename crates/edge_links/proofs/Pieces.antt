-- Bytes that are copied from the middle of a list into the front of a buffer.
use Rattle.std.proofs.Common.{◌≡◌, ◌+◌, ◌-◌, ℕ, List, ◌++◌, length, take, drop, arith, sym, ap, ◌∙◌}
use Rattle.std.proofs.Common.{subst, append_assoc, Some, None}
use Rattle.std.specs.declared.option.Option.{Option}
use Rattle.std.specs.Io.KnownBytes.{Consumes, prepend_known}
use Rattle.std.proofs.lemmas.List.Folds.{drop_split}
use Rattle.std.proofs.Math.Seq.{take-append_seam}

front : (n : ℕ) (piece rest : List ℕ) → length piece ≡ n → take n (piece ++ rest) ≡ piece
front n piece rest h = subst (λ k. take k (piece ++ rest) ≡ piece) h (take-append_seam piece rest)

pub given : (at n : ℕ) (items bytes piece rest : List ℕ) → items ≡ bytes
    → piece ≡ take ((at + n) - at) (drop at items) → length piece ≡ n
    → drop at bytes ≡ take n (piece ++ rest) ++ drop (at + n) bytes
given at n items bytes piece rest same e h =
    drop_split bytes at (at + n) (omega arith)
    ∙ ap (λ l. l ++ drop (at + n) bytes)
    (sym (e ∙ ap (λ l. take ((at + n) - at) (drop at l)) same) ∙ sym (front n piece rest h))

-- what was at the front is consumed, where what stands behind is known
pub prepended : (whole rest piece : List ℕ) (behind : Option (List ℕ)) → whole ≡ piece ++ rest
    → Consumes (prepend_known whole behind) (prepend_known rest behind) piece
prepended whole rest piece None e = tt
prepended whole rest piece (Some more) e = ap (λ l. l ++ more) e ∙ append_assoc piece rest more
