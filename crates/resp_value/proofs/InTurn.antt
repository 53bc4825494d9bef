-- Keys and values in turn.
use Rattle.std.proofs.Common.{◌≡◌, List, [], ◌∷◌, ◌++◌, refl, sym, ap, ◌∙◌, append_assoc, length}
use Rattle.std.proofs.Common.{arith, Option, Some, None}
use Rattle.resp_value.specs.Tree.{in_turn}
use Rattle.resp_value.proofs.Prefixes.{append_nil}

abbrev pub turns : {A : Type 0} → List (A × A) → Option A → List A
turns [] None = []
turns [] (Some k) = k ∷ []
turns (p ∷ ps) k = p.0 ∷ p.1 ∷ turns ps k

module _ {A : Type 0} where
  pub with_key : (ps : List (A × A)) (k : A) → turns ps None ++ k ∷ [] ≡ turns ps (Some k)
  with_key [] k = refl
  with_key (p ∷ ps) k = ap (λ (r : List A). p.0 ∷ p.1 ∷ r) (with_key ps k)

  pub with_pair : (ps : List (A × A)) (k v : A)
      → turns ps (Some k) ++ v ∷ [] ≡ turns (ps ++ (k, v) ∷ []) None
  with_pair [] k v = refl
  with_pair (p ∷ ps) k v = ap (λ (r : List A). p.0 ∷ p.1 ∷ r) (with_pair ps k v)

  pub back_in_turn : (ps : List (A × A)) (k : Option A) → in_turn (turns ps k) ≡ ps
  back_in_turn [] None = refl
  back_in_turn [] (Some k) = refl
  back_in_turn (p ∷ ps) k = ap (λ (r : List (A × A)). (p.0, p.1) ∷ r) (back_in_turn ps k)

  pub next_key : (ps : List (A × A)) (k : A) (rest vs : List A) → turns ps None ++ k ∷ rest ≡ vs
      → turns ps (Some k) ++ rest ≡ vs
  next_key ps k rest vs e = ap (λ (q : List A). q ++ rest) (sym (with_key ps k))
      ∙ append_assoc (turns ps None) (k ∷ []) rest ∙ e

  pub next_pair : (ps qs : List (A × A)) (k v : A) (rest vs : List A) → qs ≡ ps ++ (k, v) ∷ []
      → turns ps (Some k) ++ v ∷ rest ≡ vs → turns qs None ++ rest ≡ vs
  next_pair ps qs k v rest vs n e =
      ap (λ (q : List (A × A)). turns q None ++ rest) n
      ∙ ap (λ (q : List A). q ++ rest) (sym (with_pair ps k v))
      ∙ append_assoc (turns ps (Some k)) (v ∷ []) rest ∙ e

  pub all_turns : (ps : List (A × A)) (k : Option A) (vs : List A) → turns ps k ++ [] ≡ vs
      → ps ≡ in_turn vs
  all_turns ps k vs e = sym (back_in_turn ps k) ∙ ap in_turn (sym (append_nil (turns ps k)) ∙ e)

  pub none_left : (xs : List A) → length xs ≡ 0 → xs ≡ []
  none_left [] e = refl
  none_left (x ∷ xs) e = absurd (omega arith)
