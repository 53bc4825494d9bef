-- A list that grows at its end begins with what it was.
use Rattle.std.proofs.Common.{◌≡◌, List, [], ◌∷◌, ◌++◌, refl, sym, ap, ◌∙◌, append_assoc, take}
use Rattle.std.proofs.Common.{length, Result, Ok, Err, OnErr}
use Rattle.std.proofs.Math.Seq.{take-append_seam}
use Rattle.resp_value.specs.Lists.{IsPrefix}

module _ {A : Type 0} where
  pub append_nil : (xs : List A) → xs ++ [] ≡ xs
  append_nil [] = refl
  append_nil (x ∷ xs) = ap (λ (q : List A). x ∷ q) (append_nil xs)

  pub prefix_same : (old new : List A) → new ≡ old → IsPrefix old new
  prefix_same old new e = ([], append_nil old ∙ sym e)

  pub prefix_by : (old new more : List A) → new ≡ old ++ more → IsPrefix old new
  prefix_by old new more e = (more, sym e)

  pub prefix_then : (old middle new more : List A) → middle ≡ old ++ more → IsPrefix middle new
      → IsPrefix old new
  prefix_then old middle new more e g =
      (more ++ g.0, sym (append_assoc old more g.0) ∙ ap (λ (q : List A). q ++ g.0) (sym e) ∙ g.1)

  pub prefix_trans : (xs ys zs : List A) → IsPrefix xs ys → IsPrefix ys zs → IsPrefix xs zs
  prefix_trans xs ys zs f g = prefix_then xs ys zs f.0 (sym f.1) g

  pub cut_back : (old new : List A) → IsPrefix old new → take (length old) new ≡ old
  cut_back old new g = ap (λ (q : List A). take (length old) q) (sym g.1) ∙ take-append_seam old g.0

pub on_err : {A E P : Type 0} (r : Result A E) → P → OnErr r P
on_err (Ok x) p = tt
on_err (Err e) p = p

pub ruleset growing = (append_assoc, prefix_same, prefix_by, prefix_then)
