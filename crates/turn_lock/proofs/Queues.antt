-- The steps keep what is true of the tickets.
use Rattle.std.proofs.Common.{◌≡◌, ◌≢◌, ℕ, ◌+◌, ◌<◌, ◌≤◌, ◌⊎◌, inl, List, [], ◌∷◌, ◌++◌, set}
use Rattle.std.proofs.Common.{sym, ap, ◌∙◌, subst, arith, ⊎_elim}
use mathlib.Core.Option.{some}
use mathlib.Core.Logic.{dite}
use native.Mathlib.Decide.{ℕ_discrete}
use lib.ListN.{get_elem?}
use Rattle.atomic_table.proofs.Lists.{at_set, set_else, at_snoc}
use Rattle.turn_lock.specs.declared.rule.View.{View}
use Rattle.turn_lock.specs.declared.rule.Stage.{Stage}
use Rattle.turn_lock.specs.declared.rule.Stage.TheVariants.{New, Idle, Waits, Out, Spent}
use Rattle.turn_lock.specs.Rule.{HasTicket, tickets_of, next_stage, one_less, Queue, IsOut}
use Rattle.turn_lock.proofs.Counting.{total_set, total_snoc}
use Rattle.turn_lock.proofs.Rosters.{each_set, set_there, same_at}

abbrev pub number_of : Stage → ℕ
number_of New = 0
number_of Idle = 0
number_of (Waits t) = t
number_of (Out t) = t
number_of Spent = 0

has_next : (s more t : ℕ) → HasTicket (next_stage (s + 1) more) (one_less more) t
    → (s + 1 ≤ t) × (t ≤ s + more)
has_next s more t h = grind arith

module _ {U E : Type 0} where
  -- the ticket of the view that changes is one that it had, or one that no other has
  apart_set : (vs : List (View U E)) (id : ℕ) (v w : View U E) → get_elem? vs id ≡ some v
      → ((i j : ℕ) (v w : View U E) (t : ℕ) → get_elem? vs i ≡ some v → get_elem? vs j ≡ some w
      → HasTicket v.stage v.more t → HasTicket w.stage w.more t → i ≡ j)
      → ((t : ℕ) → HasTicket w.stage w.more t → HasTicket v.stage v.more t
      ⊎ ((j : ℕ) (u : View U E) → get_elem? vs j ≡ some u → HasTicket u.stage u.more t → ⊥))
      → (i j : ℕ) (a b : View U E) (t : ℕ) → get_elem? (set vs id w) i ≡ some a
      → get_elem? (set vs id w) j ≡ some b → HasTicket a.stage a.more t
      → HasTicket b.stage b.more t → i ≡ j
  apart_set vs id v w at old new i j a b t ea eb ha hb = grind (arith, at_set)

  -- one view changes, and keeps its ticket
  pub queue_set : (drawn served : ℕ) (h : List (ℕ × E)) (vs : List (View U E)) (id : ℕ)
      (v w : View U E) → Queue drawn served h vs → get_elem? vs id ≡ some v
      → tickets_of w.stage w.more ≡ tickets_of v.stage v.more
      → ((t : ℕ) → HasTicket w.stage w.more t → HasTicket v.stage v.more t)
      → ((t : ℕ) → w.stage ≡ Out t → (t ≡ served) × (w.seen ≡ h))
      → Queue drawn served h (set vs id w)
  queue_set drawn served h vs id v w q at same has out = record {
    counted = let s = total_set (λ (u : View U E). tickets_of u.stage u.more) vs id v w at in
        let c = q.counted in omega arith;
    between = λ j u t e. each_set
        (λ j u. HasTicket u.stage u.more t → (served ≤ t) × (t < drawn)) vs id w
        (λ hw. q.between id v t at (has t hw)) (λ j u ne e. q.between j u t e) j u e;
    apart = apart_set vs id v w at q.apart (λ t hw. inl (has t hw));
    outs = λ j u t e. each_set (λ j u. u.stage ≡ Out t → (t ≡ served) × (u.seen ≡ h)) vs id w
        (out t) (λ j u ne e. q.outs j u t e) j u e;
  }

  -- a view with no ticket draws the next, and so many more
  pub queue_draw : (drawn served more drawn' : ℕ) (h : List (ℕ × E)) (vs : List (View U E))
      (id : ℕ) (v w : View U E) → Queue drawn served h vs → get_elem? vs id ≡ some v
      → v.stage ≡ Idle → w.stage ≡ Waits drawn → w.more ≡ more → drawn' ≡ drawn + 1 + more
      → Queue drawn' served h (set vs id w)
  queue_draw drawn served more drawn' h vs id v w q at idle waits behind sum =
      let has : (t : ℕ) → HasTicket w.stage w.more t → (drawn ≤ t) × (t ≤ drawn + more)
      = λ t hw. subst (λ (z : Stage × ℕ). HasTicket z.0 z.1 t) (λ i. (waits i, behind i)) hw in
      record {
        counted = grind (arith, total_set);
        between = λ j u t e. each_set
            (λ j u. HasTicket u.stage u.more t → (served ≤ t) × (t < drawn')) vs id w
            (grind arith)
            (grind arith) j u e;
        apart = grind (arith, apart_set);
        outs = λ j u t e. each_set (λ j u. u.stage ≡ Out t → (t ≡ served) × (u.seen ≡ h)) vs id w
            (λ is. let bad : Waits drawn ≡ Out t = sym waits ∙ is in absurd cc)
            (λ j u ne e. q.outs j u t e) j u e;
      }

  -- the view that is out comes home, and the next is served
  pub queue_leave : (drawn served : ℕ) (h h' : List (ℕ × E)) (vs : List (View U E)) (id : ℕ)
      (v w : View U E) → Queue drawn served h vs → get_elem? vs id ≡ some v
      → v.stage ≡ Out served → w.stage ≡ next_stage (served + 1) v.more
      → w.more ≡ one_less v.more → Queue drawn (served + 1) h' (set vs id w)
  queue_leave drawn served h h' vs id v w q at out next less =
      let has : (t : ℕ) → (served ≤ t) → (t ≤ served + v.more) → HasTicket v.stage v.more t
      = λ t low high. subst (λ z. HasTicket z v.more t) (sym out) (low, high) in
      let mine : HasTicket v.stage v.more served = has served (omega arith) (omega arith) in
      let left : (t : ℕ) → HasTicket w.stage w.more t
      → (served + 1 ≤ t) × (t ≤ served + v.more)
      = grind (arith, has_next) in
      let old_one : (t : ℕ) → HasTicket w.stage w.more t → HasTicket v.stage v.more t
      = λ t hw. let is = left t hw in let low = is.0 in has t (omega arith) is.1 in
      record {
        counted = grind (arith, total_set);
        between = λ j u t e. each_set
            (λ j u. HasTicket u.stage u.more t → (served + 1 ≤ t) × (t < drawn)) vs id w
            (λ hw. ((left t hw).0, (q.between id v t at (old_one t hw)).1))
            (λ j u ne e hu. let old = q.between j u t e hu in
            let other : served ≢ t
            = grind arith in
            ((let a = old.0 in omega arith), old.1)) j u e;
        apart = apart_set vs id v w at q.apart (λ t hw. inl (old_one t hw));
        outs = λ j u t e. each_set
            (λ j u. u.stage ≡ Out t → (t ≡ served + 1) × (u.seen ≡ h')) vs id w
            (λ is. absurd (grind arith))
            (λ j u ne e is. let old = q.outs j u t e is in let same = old.0 in
            absurd (ne (q.apart j id u v served e at
            (subst (λ z. HasTicket z u.more served) (sym is) ((omega arith), (omega arith)))
            mine))) j u e;
      }

  -- a view with no ticket comes to the others
  pub queue_more : (drawn served : ℕ) (h : List (ℕ × E)) (vs : List (View U E)) (w : View U E)
      → Queue drawn served h vs → w.stage ≡ New → Queue drawn served h (vs ++ w ∷ [])
  queue_more drawn served h vs w q new = grind (arith, total_snoc, ⊎_elim, at_snoc)

  -- a view that is out stays out where another changes
  pub out_set : (vs : List (View U E)) (id : ℕ) (v w : View U E) (n : ℕ) → get_elem? vs id ≡ some v
      → (v.stage ≡ Out n → w.stage ≡ Out n) → IsOut n vs → IsOut n (set vs id w)
  out_set vs id v w n at same (i, u, e, o) = dite (ℕ_discrete i id)
      (λ is. (
        id,
        w,
        set_there vs id w v at,
        same (ap (λ (z : View U E). z.stage) (same_at vs id i v u (sym is) at e) ∙ o),
      ))
      (λ ne. (i, u, set_else vs id i w ne ∙ e, o))
