-- The entries of a seat's own, as its history grows and as seats are joined.
use Rattle.std.proofs.Common.{◌≡◌, ℕ, suc, ◌+◌, ◌<◌, ◌≤◌, Bool, true, false, cond, List}
use Rattle.std.proofs.Common.{[], ◌∷◌, ◌++◌, length, sym, refl, ap, ◌∙◌, subst, arith, eq-eqb}
use Rattle.std.proofs.Common.{ne_eqb, length-append, append_assoc}
use Rattle.std.specs.Prelude.{nat_lt, ◌==◌}
use Rattle.std.proofs.lemmas.Bool.Decides.{nat_tests}
use mathlib.Core.Logic.{dite}
use native.Mathlib.Decide.{ℕ_discrete}
use Rattle.turn_lock.specs.Counts.{times, total}
use Rattle.turn_lock.specs.History.{entries, IsPrefix, made_by, Owns}
use Rattle.turn_lock.proofs.Counting.{times-append}
use Rattle.turn_lock.specs.Own.{entry_at, own_list, with_pasts, Within}

-- how often the place stands there, weighed
abbrev weight : ℕ → ℕ → List ℕ → ℕ
weight x q [] = 0
weight x q (p ∷ own) = cond (p == q) x 0 + weight x q own

weight_none : (x q : ℕ) (own : List ℕ) → times q own ≡ 0 → weight x q own ≡ 0
weight_none x q [] z = refl
weight_none x q (p ∷ own) z = dite (ℕ_discrete p q)
    (grind (arith, eq-eqb))
    (λ ne. let r = weight_none x q own (omega arith) in grind (arith, ne_eqb))

weight_once : (x q : ℕ) (own : List ℕ) → times q own ≡ 1 → weight x q own ≡ x
weight_once x q [] z = absurd (omega arith)
weight_once x q (p ∷ own) z = dite (ℕ_discrete p q)
    (grind (arith, eq-eqb, weight_none))
    (λ ne.
    let d : cond {A = ℕ} (q == p) 1 0 ≡ 0 = grind (arith, ne_eqb) in
    let r = weight_once x q own (omega arith) in
    let c : cond (p == q) x 0 ≡ 0 = ap (λ b. cond b x 0) (ne_eqb p q ne) in omega arith)

module _ {E : Type 0} where
  made_by_beyond : (ns : List ℕ) (h : List (ℕ × E)) (p : ℕ) → length h ≤ p → made_by ns h p ≡ 0
  made_by_beyond ns [] p le = refl
  made_by_beyond ns (e ∷ h) p le = let r = made_by_beyond ns h p (omega arith) in
      grind (arith, ne_eqb)

  pub within_owns : (ns : List ℕ) (h : List (ℕ × E)) (own : List ℕ) → Owns ns h own → Within h own
  within_owns ns h own is p le = is p ∙ made_by_beyond ns h p le

  first_within : (h : List (ℕ × E)) (p : ℕ) (own : List ℕ) → Within h (p ∷ own) → p < length h
  first_within h p own is = by_case (nat_lt p (length h)) refl
    where
      by_case : (b : Bool) → nat_lt p (length h) ≡ b → p < length h
      by_case true e = grind (arith, nat_tests)
      by_case false e =
          let z = is p (grind (arith, nat_tests)) in
          let one : cond {A = ℕ} (p == p) 1 0 ≡ 1 = ap (λ b. cond {A =
          ℕ} b 1 0) (eq-eqb p p refl) in absurd (omega arith)

  rest_within : (h : List (ℕ × E)) (p : ℕ) (own : List ℕ) → Within h (p ∷ own) → Within h own
  rest_within h p own is q le = let z = is q le in omega arith

  at_more : (more h : List (ℕ × E)) (p : ℕ) → p < length h → entry_at (more ++ h) p ≡ entry_at h p
  at_more [] h p lt = refl
  at_more (e ∷ more) h p lt =
      let n = length-append more h in
      ap (λ b. cond b (e.1 ∷ []) (entry_at (more ++ h) p)) (ne_eqb p (length (more
      ++ h)) (λ is. omega arith)) ∙ at_more more h p lt

  own_more : (more h : List (ℕ × E)) (own : List ℕ) → Within h own → own_list (more
      ++ h) own ≡ own_list h own
  own_more more h [] is = refl
  own_more more h (p ∷ own) is =
      ap (λ z. z ++ own_list (more ++ h) own) (at_more more h p (first_within h p own is))
      ∙ ap (λ z. entry_at h p ++ z) (own_more more h own (rest_within h p own is))

  -- the entries of one's own stay, whatever is added
  pub own_begins : (a b : List (ℕ × E)) (own : List ℕ) → IsPrefix a b → Within a own
      → own_list b own ≡ own_list a own
  own_begins a b own more is = grind (arith, own_more)

  pub own_append : (h : List (ℕ × E)) (xs ys : List ℕ) → own_list h (xs ++ ys) ≡ own_list h xs
      ++ own_list h ys
  own_append h [] ys = refl
  own_append h (x ∷ xs) ys = ap (λ z. entry_at h x ++ z) (own_append h xs ys)
      ∙ sym (append_assoc (entry_at h x) (own_list h xs) (own_list h ys))

  pub within_begins : (a b : List (ℕ × E)) (own : List ℕ) → IsPrefix a b → Within a own
      → Within b own
  within_begins a b own more is p le = grind (arith, length-append)

  pub within_append : (h : List (ℕ × E)) (xs ys : List ℕ) → Within h xs → Within h ys
      → Within h (xs ++ ys)
  within_append h xs ys x y p le = grind (arith, times-append)

  -- two seats that were joined have the entries of both
  pub own_joined : (a b h : List (ℕ × E)) (xs ys : List ℕ) → IsPrefix a h → IsPrefix b h
      → Within a xs → Within b ys → own_list h (xs ++ ys) ≡ own_list a xs ++ own_list b ys
  own_joined a b h xs ys ah bh x y = grind (arith, own_append, own_begins)

  -- a turn adds its entry
  pub own_turn : (n : ℕ) (a h : List (ℕ × E)) (own : List ℕ) (e : E) → IsPrefix a h
      → Within a own → own_list ((n, e) ∷ h) (length h ∷ own) ≡ e ∷ own_list a own
  own_turn n a h own e more is =
      let w = within_begins a h own more is in
      ap (λ b. cond b (e ∷ []) (entry_at h (length h))
      ++ own_list ((n, e) ∷ h) own) (eq-eqb (length h) (length h) refl)
      ∙ ap (λ z. e ∷ z) (own_more ((n, e) ∷ []) h own w ∙ own_begins a h own more is)

  module _ (f : E → ℕ) where
    pub total-append : (xs ys : List E) → total f (xs ++ ys) ≡ total f xs + total f ys
    total-append [] ys = omega arith
    total-append (x ∷ xs) ys = let h = total-append xs ys in omega arith

    at_beyond : (h : List (ℕ × E)) (p : ℕ) → length h ≤ p → entry_at h p ≡ []
    at_beyond [] p le = refl
    at_beyond (e ∷ h) p le = ap (λ b. cond b (e.1 ∷ []) (entry_at h p)) (ne_eqb p (length h) (λ is.
        omega arith)) ∙ at_beyond h p (omega arith)

    at_total : (e : ℕ × E) (h : List (ℕ × E)) (p : ℕ)
        → total f (entry_at (e ∷ h) p) ≡ cond (p == length h) (f e.1) 0 + total f (entry_at h p)
    at_total e h p = grind (arith, at_beyond, eq-eqb, ne_eqb)

    own_first : (e : ℕ × E) (h : List (ℕ × E)) (own : List ℕ)
        → total f (own_list (e ∷ h) own) ≡ weight (f e.1) (length h) own + total f (own_list h own)
    own_first e h [] = refl
    own_first e h (p ∷ own) =
        let a = total-append (entry_at (e ∷ h) p) (own_list (e ∷ h) own) in
        let b = total-append (entry_at h p) (own_list h own) in
        let c = at_total e h p in
        let r = own_first e h own in omega arith

    -- where each place is one's own once, one's own are all
    pub own_all : (h : List (ℕ × E)) (own : List ℕ) → ((p : ℕ) → p < length h → times p own ≡ 1)
        → total f (own_list h own) ≡ total f (entries h)
    own_all [] own is = none own
      where
        none : (own : List ℕ) → total f (own_list [] own) ≡ 0
        none [] = refl
        none (p ∷ own) = none own
    own_all (e ∷ h) own is =
        let a = own_first e h own in
        let w = weight_once (f e.1) (length h) own (is (length h) (omega arith)) in
        let r = own_all h own (λ p lt. is p (omega arith)) in omega arith

  -- ---- each with the entries before it

  pub pasts_length : (h : List (ℕ × E)) → length (with_pasts h) ≡ length h
  pasts_length [] = refl
  pasts_length (e ∷ h) = ap suc (pasts_length h)

  pasts_more : (more h : List (ℕ × E)) → IsPrefix (with_pasts h) (with_pasts (more ++ h))
  pasts_more [] h = ([], refl)
  pasts_more (e ∷ more) h =
      let r = pasts_more more h in
      let top : ℕ × (E × List E) = (e.0, (e.1, entries (more ++ h))) in
      (top ∷ r.0, ap (λ z. top ∷ z) r.1)

  pub pasts_begins : (a b : List (ℕ × E)) → IsPrefix a b → IsPrefix (with_pasts a) (with_pasts b)
  pasts_begins a b more =
      subst (λ z. IsPrefix (with_pasts a) (with_pasts z)) more.1 (pasts_more more.0 a)

  pub pasts_within : (h : List (ℕ × E)) (own : List ℕ) → Within h own → Within (with_pasts h) own
  pasts_within h own is p le = is p (subst (λ n. n ≤ p) (pasts_length h) le)
