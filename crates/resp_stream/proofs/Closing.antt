-- The steps over a stack whose newest frame is last.
use Rattle.std.proofs.Common.{◌≡◌, ℕ, suc, ◌+◌, List, [], ◌∷◌, ◌++◌, refl, sym, ap, subst, ◌∙◌}
use Rattle.std.proofs.Common.{length, reverse, add-one, arith}
use Rattle.std.proofs.lemmas.List.{reverse-append}
use Rattle.resp_value.specs.Tree.{Tree}
use Rattle.resp_stream.specs.declared.stack.Frame.{Frame}
use Rattle.resp_stream.specs.Value.{build}
use Rattle.resp_stream.specs.ValueSteps.{IsStack, HasRead}
use Rattle.resp_stream.proofs.StackSteps.{has_next, has_up}

pub pushed : (ys xs : List Frame) (f : Frame) → xs ≡ ys ++ f ∷ [] → reverse xs ≡ f ∷ reverse ys
pushed ys xs f e = ap (λ (q : List Frame). reverse q) e ∙ reverse-append ys (f ∷ [])

pub close_up : (whole : ℕ) (text : List ℕ) (at room : ℕ) (xs ys : List Frame) (f : Frame)
    (t u : Tree) (ds : List Tree) → xs ≡ ys ++ f ∷ [] → ds ≡ f.done ++ t ∷ [] → f.left ≡ 0
    → u ≡ build f.kind ds → HasRead whole text at room (reverse xs) t →
    HasRead whole text at (room + 1) (reverse ys) u
close_up whole text at room xs ys f t u ds e k z w h =
    subst (λ (q : Tree). HasRead whole text at (room + 1) (reverse ys) q)
    (sym (w ∙ ap (build f.kind) k))
    (subst (λ (n : ℕ). HasRead whole text at n (reverse ys) (build f.kind (f.done ++ t ∷ [])))
    (sym (add-one room))
    (has_up whole text at room f.kind f.done (reverse ys) t
    (grind (arith, reverse, pushed))))

pub close_next : (whole : ℕ) (text : List ℕ) (at room : ℕ) (xs ys zs : List Frame) (f g : Frame)
    (t : Tree) → xs ≡ ys ++ f ∷ [] → g.kind ≡ f.kind → g.done ≡ f.done ++ t ∷ []
    → f.left ≡ g.left + 1 → zs ≡ ys ++ g ∷ [] → HasRead whole text at room (reverse xs) t →
    IsStack whole text at room (reverse zs)
close_next whole text at room xs ys zs f g t e j k z w h =
    let one : f.left ≡ suc g.left = z ∙ add-one g.left in
    subst (λ (fs : List Frame). IsStack whole text at room fs)
    (sym (pushed ys zs g w
    ∙ (λ i. (record { kind = j i; left = g.left; done = k i }) ∷ reverse ys)))
    (has_next whole text at room g.left f.kind f.done (reverse ys) t
    (grind (arith, reverse, pushed)))

pub no_length : {A : Type 0} (xs : List A) → length xs ≡ 0 → xs ≡ []
no_length [] e = refl
no_length (x ∷ xs) e = absurd (omega arith)

pub close_all : (whole : ℕ) (text : List ℕ) (at room : ℕ) (xs : List Frame) (t : Tree) → xs ≡ []
    → HasRead whole text at room (reverse xs) t → HasRead whole text at room [] t
close_all whole text at room xs t e h = grind (arith, reverse)

pub ruleset closing = (close_up, close_next)
