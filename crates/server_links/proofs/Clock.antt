-- Moments by the clock, and how those of two growths join.
use Rattle.std.proofs.Common.{◌≡◌, ℕ, List, [], ◌∷◌, ◌++◌, max, refl, sym, ap, subst, ◌∙◌, arith}
use Rattle.std.proofs.Common.{append_assoc}
use Rattle.serial_model.specs.declared.history.Limits.{Limits}
use Rattle.serial_model.specs.declared.history.Entry.{Entry}
use Rattle.serial_model.specs.declared.history.Entry.TheVariants as entry
use Rattle.serial_model.specs.History.{IsLegal, latest}
use Rattle.server_links.specs.Clock.{AreTimedBy, greatest, moments}

moments_more : (xs ys : List Entry) → moments (xs ++ ys) ≡ moments xs ++ moments ys
moments_more [] ys = refl
moments_more (entry.Admit id ∷ xs) ys = moments_more xs ys
moments_more (entry.Run id words m ∷ xs) ys = ap (λ x. m ∷ x) (moments_more xs ys)
moments_more (entry.Tick m ∷ xs) ys = ap (λ x. m ∷ x) (moments_more xs ys)
moments_more (entry.Take id most ∷ xs) ys = moments_more xs ys
moments_more (entry.Close id ∷ xs) ys = moments_more xs ys

by_more : (clock : ℕ) (xs ys before : List ℕ) → AreTimedBy clock xs (ys ++ before)
    → AreTimedBy clock ys before → AreTimedBy clock (xs ++ ys) before
by_more clock [] ys before h g = g
by_more clock (x ∷ xs) ys before h g = (
  h.0 ∙ ap (λ ms. max clock (greatest ms)) (sym (append_assoc xs ys before)),
  by_more clock xs ys before h.1 g,
)

-- entries by the clock behind others by it
pub by_both : (clock : ℕ) (xs ys past : List Entry)
    → AreTimedBy clock (moments xs) (moments (ys ++ past))
    → AreTimedBy clock (moments ys) (moments past)
    → AreTimedBy clock (moments (xs ++ ys)) (moments past)
by_both clock xs ys past h g =
    subst (λ ms. AreTimedBy clock ms (moments past)) (sym (moments_more xs ys))
    (by_more clock (moments xs) (moments ys) (moments past)
    (subst (AreTimedBy clock (moments xs)) (moments_more ys past) h) g)

-- moments never fall, so that the last is the greatest
pub latest_is : (l : Limits) (past : List Entry) → IsLegal l past
    → greatest (moments past) ≡ latest past
latest_is l [] legal = refl
latest_is l (entry.Admit id ∷ past) legal = latest_is l past legal.2
latest_is l (entry.Run id words m ∷ past) legal =
    let e = latest_is l past legal.2 in omega (arith, e, legal.1)
latest_is l (entry.Tick m ∷ past) legal =
    let e = latest_is l past legal.3 in omega (arith, e, legal.2)
latest_is l (entry.Take id most ∷ past) legal = latest_is l past legal.2
latest_is l (entry.Close id ∷ past) legal = latest_is l past legal.1
