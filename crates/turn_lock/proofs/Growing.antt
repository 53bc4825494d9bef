-- What a seat adds, turn after turn, and where its turns stand.
use Rattle.std.proofs.Common.{◌∷◌, ◌++◌, ℕ, List, [], length, Bool, cond, ◌≡◌, refl, sym, ap, subst}
use Rattle.std.proofs.Common.{◌∙◌, arith, append_assoc, append-nil}
use Rattle.std.specs.Prelude.{◌==◌}
use Rattle.std.specs.List.{All}
use Rattle.std.proofs.lemmas.List.Elements.{All-nil, All-cons, All-append, All-head, All-tail}
use Rattle.turn_lock.specs.History.{entries, IsPrefix}
use Rattle.turn_lock.specs.Seats.{Known}
use Rattle.turn_lock.specs.Own.{entry_at, own_list, with_pasts, IsWithin, turns_of, past_of, Grows}
use Rattle.turn_lock.specs.Turns.{in_order}
use Rattle.turn_lock.proofs.Turning.{begins_trans, entries_begin}

pub order_append : {T A : Type 0} (part : T → List A) (xs ys : List T)
    → in_order part (xs ++ ys) ≡ in_order part ys ++ in_order part xs
order_append part [] ys = sym (append-nil (in_order part ys))
order_append part (x ∷ xs) ys =
    ap (λ z. z ++ part x) (order_append part xs ys)
    ∙ append_assoc (in_order part ys) (in_order part xs) (part x)

-- each turn stands in the history right behind the entries that were before it
unfoldable Stands : {E : Type 0} → List (ℕ × E) → E × List E → Type 0
Stands h t = IsPrefix (t.0 ∷ t.1) (entries h)

stands_more : {E : Type 0} (e : ℕ × E) (h : List (ℕ × E)) (t : E × List E) → Stands h t
    → Stands (e ∷ h) t
unfolding Stands
stands_more e h t s = begins_trans (t.0 ∷ t.1) (entries h) (e.1 ∷ entries h) s (e.1 ∷ [], refl)

stands_here : {E : Type 0} (e : ℕ × E) (h : List (ℕ × E)) → Stands (e ∷ h) (e.1, entries h)
unfolding Stands
stands_here e h = ([], refl)

stands_by : {E : Type 0} (b : Bool) (e : ℕ × E) (h : List (ℕ × E)) (xs : List (E × List E))
    → All (Stands h) xs → All (Stands (e ∷ h)) (cond b ((e.1, entries h) ∷ []) xs)
stands_by b e h xs s = grind (arith, stands_here, stands_more)

at_stands : {E : Type 0} (h : List (ℕ × E)) (p : ℕ)
    → All (Stands h) (entry_at (with_pasts h) p)
at_stands {E = E} [] p = All-nil (Stands {E = E} [])
at_stands (e ∷ h) p = stands_by (p == length (with_pasts h)) e h (entry_at (with_pasts h) p)
    (at_stands h p)

own_stands : {E : Type 0} (h : List (ℕ × E)) (own : List ℕ)
    → All (Stands h) (own_list (with_pasts h) own)
own_stands h [] = All-nil (Stands h)
own_stands h (p ∷ own) = All-append (Stands h) (entry_at (with_pasts h) p)
    (own_list (with_pasts h) own) (at_stands h p) (own_stands h own)

front_of : {X : Type 0} (P : X → Type 0) (xs ys : List X) → All P (xs ++ ys) → All P xs
front_of P [] ys h = All-nil P
front_of P (x ∷ xs) ys h = All-cons P x xs (All-head P x (xs ++ ys) h)
    (front_of P xs ys (All-tail P x (xs ++ ys) h))

module _ {U E : Type 0} where
  pub grows_none : (k : Known U E) → IsWithin k → Grows k k []
  grows_none k is = record {
    lock = refl;
    setup = refl;
    parts = refl;
    tickets = omega arith;
    seen = ([], refl);
    within = is;
    own = refl;
  }

  pub grows_then : (a b c : Known U E) (xs ys : List (E × List E)) → Grows a b xs → Grows b c ys
      → Grows a c (ys ++ xs)
  grows_then a b c xs ys p q = record {
    lock = q.lock ∙ p.lock;
    setup = q.setup ∙ p.setup;
    parts = q.parts ∙ p.parts;
    tickets = omega (arith, p.tickets, q.tickets);
    seen = begins_trans a.seen b.seen c.seen p.seen q.seen;
    within = q.within;
    own = q.own ∙ ap (λ z. ys ++ z) p.own ∙ sym (append_assoc ys xs (turns_of a));
  }

  pub grows_past : (a b : Known U E) (xs : List (E × List E)) → Grows a b xs
      → IsPrefix (past_of a) (past_of b)
  grows_past a b xs p = entries_begin a.seen b.seen p.seen

  pub grows_stands : (a b : Known U E) (xs : List (E × List E)) → Grows a b xs
      → All (λ t. IsPrefix (t.0 ∷ t.1) (past_of b)) xs
  unfolding turns_of Stands
  grows_stands a b xs p =
      front_of (Stands b.seen) xs (turns_of a)
      (subst (All (Stands b.seen)) p.own (own_stands b.seen b.own))
