-- Turns one after another, with tickets that were drawn at once.
use Rattle.std.proofs.Common.{◌≡◌, ℕ, suc, ◌+◌, ◌≤◌, List, [], ◌∷◌, ◌++◌, length, sym, refl, ap}
use Rattle.std.proofs.Common.{◌∙◌, subst, arith, append_assoc}
use Rattle.std.specs.Prelude.{Option, Some, IfSome}
use Rattle.std.specs.List.{All}
use Rattle.atomic_table.specs.Table.{Me}
use Rattle.atomic_table.specs.Seated.{TableId}
use Rattle.turn_lock.specs.declared.rule.View.{View}
use Rattle.turn_lock.specs.declared.rule.Stage.TheVariants.{Idle}
use Rattle.turn_lock.specs.declared.rule.TheConstants.{LAST_TICKET}
use Rattle.turn_lock.specs.Seats.{Known, known, IsSameSeat, IsSoundView, Turned, TurnedAll}
use Rattle.turn_lock.specs.Rule.{next_stage, one_less, waiting_view, serving_view, view_after}
use Rattle.turn_lock.specs.Rule.{Enters, TurnEnds, IsReady, IsSameView}

module _ {U E C R : Type 0} (step : U → List E → C → R → Option E → Type 0) where
  -- after some turns comes one more
  turned_more : (calls : List C) (replies : List R) (call : C) (reply : R)
      (k l after : Known U E) → TurnedAll step calls replies k l → IsSameSeat l after
      → Turned step call reply l after
      → TurnedAll step (calls ++ call ∷ []) (replies ++ reply ∷ []) k after
  turned_more [] [] call reply k l after (same, seen, own) same'
      (u, h, e, has, begins, by, seen', own') = grind arith
  turned_more [] (r ∷ replies) call reply k l after bad same' turn = absurd bad
  turned_more (c ∷ calls) [] call reply k l after bad same' turn = absurd bad
  turned_more (c ∷ calls) (r ∷ replies) call reply k l after (next, same, one, rest) same' turn =
      (next, same, one, turned_more calls replies call reply next l after rest same' turn)

  -- the tickets were drawn before the first turn
  pub drawn_before : (calls : List C) (replies : List R) (k l : Known U E) (tickets turns : ℕ)
      → TurnedAll step calls replies (record k { tickets = tickets; turns = turns }) l
      → TurnedAll step calls replies k l
  drawn_before [] [] k l tickets turns is = is
  drawn_before [] (r ∷ replies) k l tickets turns bad = absurd bad
  drawn_before (c ∷ calls) [] k l tickets turns bad = absurd bad
  drawn_before (c ∷ calls) (r ∷ replies) k l tickets turns is = is

  pub all_turned : {S : Type 0} (calls : List C) (replies : List R) (lock lock' : TableId)
      (v : View U E) (m : Me (Option S) (View U E)) (held : List (ℕ × Option S))
      (k l : Known U E) (t more : ℕ) → m ≡ (waiting_view v t more, held) → lock' ≡ lock
      → known lock v ≡ k → TurnedAll step calls replies (known lock' m.0) l
      → TurnedAll step calls replies k l
  all_turned {S = S} calls replies lock lock' v m held k l t more is same view turned =
      let first = subst (λ (z : Me (Option S) (View U E)).
      TurnedAll step calls replies (known lock' z.0) l) is turned in
      let there = subst (λ z. TurnedAll step calls replies (known z (waiting_view v t more)) l)
      same first in
      subst (λ z. TurnedAll step calls replies z l) view
      (drawn_before calls replies (known lock v) l t (v.turns + 1 + more) there)

  pub none_turned : (calls : List C) (replies : List R) (k l : Known U E) → length calls ≡ 0
      → replies ≡ [] → l ≡ k → TurnedAll step calls replies k l
  none_turned [] replies k l none empty is = grind arith
  none_turned (c ∷ calls) replies k l none empty is = grind arith

ready_next : {U E : Type 0} (v : View U E) (t n : ℕ) → v.stage ≡ next_stage t n
    → v.more ≡ one_less n → IsReady v t n
ready_next v t n stage more = grind arith

module _ {S U E C R : Type 0} (setup : S → U) (stands : S → List E → Type 0)
    (step : U → List E → C → R → Option E → Type 0) (fits_call : U → C → Type 0)
    (calls : List C) (lock : TableId) where
  -- some turns are over, and the rest are to come
  pub record Turning (start : View U E) (at left : ℕ) (rest : List C) (replies : List R)
      (m : Me (Option S) (View U E)) : Type 0 where
    pub kept : IsSameView start m.0
    pub ready : IsReady m.0 at left
    pub small : at + left ≤ LAST_TICKET
    pub none_out : m.1 ≡ []
    pub sound : IsSoundView step m.0
    pub fits : (u : U) → m.0.setup ≡ Some u → All (fits_call u) rest
    pub long : length rest ≡ left
    pub over : List C
    pub all : over ++ rest ≡ calls
    pub turns : TurnedAll step over replies (known lock start) (known lock m.0)

  module _ (start : View U E) where
    turning_one : (at left : ℕ) (call : C) (rest : List C) (replies : List R) (reply : R)
        (m m' m'' : Me (Option S) (View U E))
        → Turning start at (suc left) (call ∷ rest) replies m → Enters setup stands m at m'
        → TurnEnds step (at + 1) call reply m' m'' → IsSoundView step m''.0
        → Turning start (at + 1) left rest (replies ++ reply ∷ []) m''
    turning_one at left call rest replies reply m m' m'' k (y, h, is, begins, about, st) turn
        sound =
        let (u, e, has, by, is') =
        subst (λ (z : Me (Option S) (View U E)). TurnEnds step (at + 1) call reply z m'') is turn in
        let w : View U E = view_after (serving_view m.0 at h) (at + 1) e in
        subst (λ z. Turning start (at + 1) left rest (replies ++ reply ∷ []) z) (sym is') record {
          kept = k.kept;
          ready = grind (arith, ready_next);
          small = let s = k.small in omega arith;
          none_out = refl;
          sound = subst (λ (z : Me (Option S) (View U E)). IsSoundView step z.0) is' sound;
          fits = λ u is j d lt. k.fits u is (suc j) d (omega arith);
          long = let l = k.long in omega arith;
          over = k.over ++ call ∷ [];
          all = append_assoc k.over (call ∷ []) rest ∙ k.all;
          turns = grind (arith, turned_more);
        }

    pub turning_more : (at left left' : ℕ) (call : C) (rest rest' : List C)
        (replies replies' : List R) (reply : R) (m m' m'' : Me (Option S) (View U E))
        → rest ≡ call ∷ rest' → left ≡ left' + 1 → replies' ≡ replies ++ reply ∷ []
        → Turning start at left rest replies m → Enters setup stands m at m'
        → TurnEnds step (at + 1) call reply m' m'' → IsSoundView step m''.0
        → Turning start (at + 1) left' rest' replies' m''
    turning_more at left left' call rest rest' replies replies' reply m m' m'' items len pushed k
        wait turn sound =
        let len' : left ≡ suc left' = omega arith in
        let k' : Turning start at (suc left') (call ∷ rest') replies m
        = grind arith in
        subst (λ z. Turning start (at + 1) left' rest' z m'') (sym pushed)
        (turning_one at left' call rest' replies reply m m' m'' k' wait turn sound)

    pub turning_fits : (at left : ℕ) (call : C) (rest rest' : List C) (replies : List R)
        (m m' : Me (Option S) (View U E)) → rest ≡ call ∷ rest'
        → Turning start at left rest replies m → Enters setup stands m at m'
        → IfSome m'.0.setup (λ u. fits_call u call)
    turning_fits at left call rest rest' replies m m' items k h = grind arith

    pub turning_ends : (at left : ℕ) (rest : List C) (replies : List R)
        (m : Me (Option S) (View U E)) → left ≡ 0 → Turning start at left rest replies m
        → TurnedAll step calls replies (known lock start) (known lock m.0) × (m.0.stage ≡ Idle)
    turning_ends at left [] replies m none k = (
      subst (λ z. TurnedAll step z replies (known lock start) (known lock m.0))
          (sym (nothing k.over) ∙ k.all) k.turns,
      subst (λ z. IsReady m.0 at z) none k.ready,
    )
      where
        nothing : (l : List C) → l ++ [] ≡ l
        nothing [] = refl
        nothing (x ∷ xs) = ap (λ z. x ∷ z) (nothing xs)
    turning_ends at left (x ∷ rest) replies m none k =
        let long : suc (length rest) ≡ left = k.long in absurd (omega arith)
