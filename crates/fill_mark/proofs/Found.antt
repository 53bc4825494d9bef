-- Finding a mark by its number, and what stays when it goes.
use Rattle.std.proofs.Common.{◌≡◌, ◌+◌, ◌<◌, ◌++◌, ℕ, zero, suc, List, [], ◌∷◌, length, take, drop}
use Rattle.std.proofs.Common.{get_or, Bool, false, cond, Some, None, sym, ap, ◌∙◌, refl, eq-eqb}
use Rattle.std.proofs.Common.{Bor, Option, arith}
use Rattle.std.specs.List.{filter, slice_get}
use Rattle.std.specs.Option.{option_copied, IfNone}
use Rattle.std.proofs.lemmas.List.{at_drop_more}
use Rattle.std.proofs.lemmas.Grind.{common_steps}
use Rattle.fill_mark.specs.declared.marks.Mark.{Mark}
use Rattle.fill_mark.specs.Marks.{query_marked, without_number}

-- the mark at hand is the one that is looked for
pub found : (n : ℕ) (marks : List Mark) (i : ℕ) (m : Mark) → i < length marks → m ≡ get_or marks i m
    → m.number ≡ n
    → query_marked n (drop i marks) ≡ Some m.query
found n marks i m lt e is =
    at_drop_more (query_marked n) marks i m lt
    ∙ ap (λ x. query_marked n (x ∷ drop (i + 1) marks)) (sym e)
    ∙ ap (λ b. cond b (Some m.query) (query_marked n (drop (i + 1) marks))) (eq-eqb m.number n is)

-- where no mark has the number, none goes
pub none_goes : (n : ℕ) (marks : List Mark) → query_marked n marks ≡ None
    → marks ≡ without_number n marks
none_goes n [] h = refl
none_goes n (m ∷ marks) h = grind (arith, common_steps, none_goes n marks)

pub none_found : (n : ℕ) (marks : List Mark) (r : Option (Bor (List (List ℕ))))
    → option_copied r ≡ query_marked n marks → IfNone r (marks ≡ without_number n marks)
none_found n marks r e = grind (arith, none_goes)

-- what does not pass a filter may be removed before it
pub removed : {X : Type 0} → (p : X → Bool) (xs : List X) (i : ℕ) (x : X) → slice_get xs i ≡ Some x
    → p x ≡ false
    → filter p (take i xs ++ drop (suc i) xs) ≡ filter p xs
removed p [] i e h no_ = cc
removed p (y ∷ ys) zero e h no_ = grind arith
removed p (y ∷ ys) (suc i) x h no_ = ap (λ l. cond (p y) (y ∷ l) l) (removed p ys i x h no_)
