-- What the lock's rule says of its words, its slot and all views, and what each of its steps gives.
use Rattle.std.specs.Prelude.{◌≡◌, ◌≢◌, ℕ, zero, suc, ◌+◌, ◌-◌, ◌<◌, ◌≤◌, max, List, [], ◌∷◌}
use Rattle.std.specs.Prelude.{◌++◌, length, Option, Some, None, slice_index, ◌⊎◌, ⊤}
use mathlib.Core.Option.{some, none}
use lib.ListN.{get_elem?}
use Rattle.atomic_table.specs.Seated.{TableId}
use Rattle.atomic_table.specs.Table.{State, Me, Step, rest}
use Rattle.turn_lock.specs.Counts.{times, total}
use Rattle.turn_lock.specs.History.{entries, IsPrefix, past_after, history_after, own_after, Legal}
use Rattle.turn_lock.specs.History.{made_by, Owns}
use Rattle.turn_lock.specs.Seats.{IsSoundView, longer, shorter}
use Rattle.turn_lock.specs.declared.rule.View.{View}
use Rattle.turn_lock.specs.declared.rule.Stage.{Stage}
use Rattle.turn_lock.specs.declared.rule.Stage.TheVariants.{New, Idle, Waits, Out, Spent}
use Rattle.turn_lock.specs.declared.rule.TheConstants.{ALL_PARTS}

-- the seat is of this table, which has the lock's three words and one slot
abbrev pub IsSeatOf : TableId → TableId → Type 0
IsSeatOf seat table = (seat ≡ table) × (table.words ≡ 3) × (table.slots ≡ 1)

-- it has this ticket, where it has so many more behind the one of its stage
abbrev pub HasTicket : Stage → ℕ → ℕ → Type 0
HasTicket New more t = ⊥
HasTicket Idle more t = ⊥
HasTicket (Waits s) more t = (s ≤ t) × (t ≤ s + more)
HasTicket (Out s) more t = (s ≤ t) × (t ≤ s + more)
HasTicket Spent more t = ⊥

-- how many tickets it has that were not served
abbrev pub tickets_of : Stage → ℕ → ℕ
tickets_of New more = 0
tickets_of Idle more = 0
tickets_of (Waits s) more = more + 1
tickets_of (Out s) more = more + 1
tickets_of Spent more = 0

-- after a turn it waits with the next of its tickets, or has none
abbrev pub next_stage : ℕ → ℕ → Stage
next_stage t zero = Idle
next_stage t (suc more) = Waits t

abbrev pub one_less : ℕ → ℕ
one_less zero = zero
one_less (suc more) = more

-- it was not joined into another
abbrev pub Live : Stage → Type 0
Live New = ⊤
Live Idle = ⊤
Live (Waits s) = ⊤
Live (Out s) = ⊤
Live Spent = ⊥

-- it is live and knows its number
abbrev pub Seated : Stage → Type 0
Seated New = ⊥
Seated Idle = ⊤
Seated (Waits s) = ⊤
Seated (Out s) = ⊤
Seated Spent = ⊥

module _ {U E : Type 0} where
  abbrev pub newcomer : U → View U E
  newcomer u = record {
    setup = Some u;
    number = 0;
    numbers = 0 ∷ [];
    others = [];
    shares = ALL_PARTS;
    tickets = 0;
    turns = 0;
    seen = [];
    shorter = [];
    own = [];
    stage = Idle;
    more = 0;
  }

  -- a view is cut in two: the first stays, and the second finds its number by its first step
  abbrev pub kept_of : View U E → ℕ → View U E
  kept_of v n = record v { shares = v.shares - n }

  abbrev pub given_of : View U E → ℕ → View U E
  given_of v n = record {
    setup = v.setup;
    number = 0;
    numbers = [];
    others = v.numbers;
    shares = n;
    tickets = v.tickets;
    turns = 0;
    seen = v.seen;
    shorter = [];
    own = [];
    stage = New;
    more = 0;
  }

  abbrev pub both_of : View U E → View U E → View U E
  both_of v w = record v {
    numbers = v.numbers ++ w.numbers;
    shares = v.shares + w.shares;
    tickets = max v.tickets w.tickets;
    turns = v.turns + w.turns;
    seen = longer v.seen w.seen;
    shorter = shorter v.seen w.seen;
    own = v.own ++ w.own;
  }

  abbrev pub spent_view : View U E
  spent_view = record {
    setup = None;
    number = 0;
    numbers = [];
    others = [];
    shares = 0;
    tickets = 0;
    turns = 0;
    seen = [];
    shorter = [];
    own = [];
    stage = Spent;
    more = 0;
  }

  -- the view that has drawn this ticket, and so many more behind it
  abbrev pub waiting_view : View U E → ℕ → ℕ → View U E
  waiting_view v t more =
      record v { tickets = t; turns = v.turns + 1 + more; stage = Waits t; more = more }

  -- the view whose ticket is served, which has the state
  abbrev pub serving_view : View U E → ℕ → List (ℕ × E) → View U E
  serving_view v t h = record v { seen = h; stage = Out t }

  -- the view after its turn, which added this entry or none; this ticket is served next
  abbrev pub view_after : View U E → ℕ → Option E → View U E
  view_after v t e = record v {
    seen = history_after v.number v.seen e;
    own = own_after v.own (length v.seen) e;
    stage = next_stage t v.more;
    more = one_less v.more;
  }

  -- it has so many tickets, the first of them this one, and none is served yet
  abbrev pub IsReady : View U E → ℕ → ℕ → Type 0
  IsReady v t zero = v.stage ≡ Idle
  IsReady v t (suc more) = (v.stage ≡ Waits t) × (v.more ≡ more)

  -- what turns do not change, where no ticket is drawn
  abbrev pub IsSameView : View U E → View U E → Type 0
  IsSameView v w =
      (w.setup ≡ v.setup) × (w.number ≡ v.number) × (w.numbers ≡ v.numbers)
      × (w.shares ≡ v.shares) × (w.tickets ≡ v.tickets) × (w.turns ≡ v.turns)

  -- what is true of each view, where this many tickets were drawn
  pub record ViewRule (setup : U) (drawn : ℕ) (history : List (ℕ × E)) (v : View U E)
      : Type 0 where
    pub looked : v.tickets ≤ drawn
    pub begins : IsPrefix v.seen history
    pub less : IsPrefix v.shorter v.seen
    pub owns : Owns v.numbers history v.own
    pub owned : Owns v.numbers v.seen v.own
    pub about : Live v.stage → v.setup ≡ Some setup
    pub share : Live v.stage → 1 ≤ v.shares
    pub named : Seated v.stage → times v.number v.numbers ≡ 1
    pub gone : v.shares ≡ 0 → (v.numbers ≡ []) × (v.own ≡ []) × (v.turns ≡ 0)

  -- no seat has this number, and no entry
  abbrev pub Unused : ℕ → List (ℕ × E) → List (View U E) → Type 0
  Unused n history views =
      (total (λ v. times n v.numbers) views ≡ 0)
      × ((place : ℕ) → made_by (n ∷ []) history place ≡ 0)

  -- the shares, numbers, turns and entries of all seats, and what they have seen
  pub record Roster (setup : U) (drawn : ℕ) (history : List (ℕ × E)) (views : List (View U E))
      : Type 0 where
    pub fits : (j : ℕ) (v : View U E) → get_elem? views j ≡ some v
        → ViewRule setup drawn history v
    pub shares : total (λ v. v.shares) views ≡ ALL_PARTS
    pub turns : total (λ v. v.turns) views ≡ drawn
    pub once : (n : ℕ) → total (λ v. times n v.numbers) views ≤ 1
    pub unused : (n : ℕ) → length views ≤ n → Unused n history views
    pub unnamed : (j : ℕ) (v : View U E) → get_elem? views j ≡ some v → v.stage ≡ New
        → Unused j history views × (times j v.others ≡ 0) × (v.numbers ≡ [])
    pub covered : (place : ℕ) → place < length history
        → 1 ≤ total (λ v. made_by v.numbers history place) views
    pub owned : total (λ v. length v.own) views ≡ length history
    pub whole : (j : ℕ) × (v : View U E) × (get_elem? views j ≡ some v)
        × Live v.stage × (v.seen ≡ history)

  -- The tickets drawn are those served and those that views have. No two views have one ticket, and
  -- the view that is out has the one that is served and has seen the whole history.
  pub record Queue (drawn served : ℕ) (history : List (ℕ × E)) (views : List (View U E))
      : Type 0 where
    pub counted : drawn ≡ served + total (λ v. tickets_of v.stage v.more) views
    pub between : (j : ℕ) (v : View U E) (t : ℕ) → get_elem? views j ≡ some v
        → HasTicket v.stage v.more t → (served ≤ t) × (t < drawn)
    pub apart : (i j : ℕ) (v w : View U E) (t : ℕ) → get_elem? views i ≡ some v
        → get_elem? views j ≡ some w → HasTicket v.stage v.more t → HasTicket w.stage w.more t
        → i ≡ j
    pub outs : (j : ℕ) (v : View U E) (t : ℕ) → get_elem? views j ≡ some v → v.stage ≡ Out t
        → (t ≡ served) × (v.seen ≡ history)

  abbrev pub IsOut : ℕ → List (View U E) → Type 0
  IsOut served views =
      (i : ℕ) × (v : View U E) × (get_elem? views i ≡ some v) × (v.stage ≡ Out served)

module _ {S U E C R : Type 0} (setup : S → U) (stands : S → List E → Type 0)
    (step : U → List E → C → R → Option E → Type 0) where
  abbrev pub AtHome : U → List (ℕ × E) → List (mathlib.Core.Option.Option (Option S)) → Type 0
  AtHome about history homes =
      (y : S) × (get_elem? homes 0 ≡ some (some (Some y)))
      × (setup y ≡ about) × stands y (entries history)

  -- The words are the tickets drawn, the ticket served, and the number of sleepers, of which
  -- nothing is said. The state is in the slot and stands for the history, or it is out with the
  -- seat that is served.
  pub record LockRule (about : U) (s : State (Option S) (View U E)) : Type 0 where
    pub history : List (ℕ × E)
    pub legal : Legal step about history
    pub wide : length s.words ≡ 3
    pub slot : length s.homes ≡ 1
    pub roster : Roster about (slice_index s.words 0) history s.views
    pub queue : Queue (slice_index s.words 0) (slice_index s.words 1) history s.views
    pub place : AtHome about history s.homes ⊎ IsOut (slice_index s.words 1) s.views

module _ {S U E : Type 0} where
  -- a look at the ticket word notes it
  abbrev pub looked_at : Step (Option S) → Me (Option S) (View U E) → ℕ
      → Me (Option S) (View U E) → Type 0
  looked_at st m r m' = (m' ≡ (record m.0 { tickets = r }, m.1)) × (m.0.tickets ≤ r)

  -- tickets were drawn, or the exchange was lost; either notes the word that was found
  abbrev pub drew : Step (Option S) → Me (Option S) (View U E) → ℕ
      → Me (Option S) (View U E) → Type 0
  drew st m r m' =
      (m.0.tickets ≤ r)
      × (r ≡ st.first → (more : ℕ) → st.second ≡ st.first + 1 + more
      → m' ≡ (waiting_view m.0 r more, m.1))
      × (r ≢ st.first → m' ≡ (record m.0 { tickets = r }, m.1))

  -- a step on the number of sleepers tells nothing
  abbrev pub counted_at : Step (Option S) → Me (Option S) (View U E) → ℕ
      → Me (Option S) (View U E) → Type 0
  counted_at st m r m' = m' ≡ m

module _ {S U E : Type 0} (setup : S → U) (stands : S → List E → Type 0) where
  -- the seat has the state, and has seen all that this stands for
  abbrev pub HasState : Me (Option S) (View U E) → Type 0
  HasState m =
      (y : S) × (m.1 ≡ (0, Some y) ∷ []) × (m.0.setup ≡ Some (setup y))
      × stands y (entries m.0.seen)

  -- the seat whose ticket is served takes the state out, and sees the whole history
  abbrev pub Enters : Me (Option S) (View U E) → ℕ → Me (Option S) (View U E) → Type 0
  Enters m t m' =
      (y : S) × (h : List (ℕ × E)) × (m' ≡ (serving_view m.0 t h, (0, Some y) ∷ m.1))
      × IsPrefix m.0.seen h × (m.0.setup ≡ Some (setup y)) × stands y (entries h)

  abbrev pub entered : Step (Option S) → Me (Option S) (View U E) → ℕ
      → Me (Option S) (View U E) → Type 0
  entered st m r m' =
      (t : ℕ) → m.0.stage ≡ Waits t → (r ≡ t → Enters m t m') × (r ≢ t → m' ≡ m)

module _ {S U E C R : Type 0} (setup : S → U) (stands : S → List E → Type 0)
    (step : U → List E → C → R → Option E → Type 0) where
  -- the seat has the state after this call and reply, and has not seen the turn's entry yet
  abbrev pub HasPlayed : C → R → Me (Option S) (View U E) → Type 0
  HasPlayed call reply m =
      (y : S) × (e : Option E) × (m.1 ≡ (0, Some y) ∷ []) × (m.0.setup ≡ Some (setup y))
      × step (setup y) (entries m.0.seen) call reply e
      × stands y (past_after (entries m.0.seen) e)

module _ {S U E C R : Type 0} (step : U → List E → C → R → Option E → Type 0) where
  -- the turn is over: the state is back in the slot, the seat has seen the turn's entry, and this
  -- ticket is served next
  abbrev pub TurnEnds : ℕ → C → R → Me (Option S) (View U E) → Me (Option S) (View U E) → Type 0
  TurnEnds t call reply m m' =
      (u : U) × (e : Option E) × (m.0.setup ≡ Some u)
      × step u (entries m.0.seen) call reply e × (m' ≡ (view_after m.0 t e, []))

  -- the same step, for any fact `by` of the entry
  abbrev pub left_by : (U → List E → Option E → Type 0) → Step (Option S)
      → Me (Option S) (View U E) → ℕ → Me (Option S) (View U E) → Type 0
  left_by by st m r m' =
      (u : U) × (e : Option E) × (m.0.setup ≡ Some u) × by u (entries m.0.seen) e
      × (m' ≡ (view_after m.0 st.first e, rest m.1)) × IsSoundView step m'.0

  -- a seat that was split off finds its number, which the other does not have
  abbrev pub begun : Step (Option S) → Me (Option S) (View U E) → ℕ
      → Me (Option S) (View U E) → Type 0
  begun st m r m' =
      m.0.stage ≡ New
      → (n : ℕ) × (m' ≡ (record m.0 { number = n; numbers = n ∷ []; stage = Idle }, m.1))
      × (times n m.0.others ≡ 0) × IsSoundView step m'.0

  -- a seat that another was joined into finds that the shorter list seen is a prefix of the longer
  abbrev pub learned : Step (Option S) → Me (Option S) (View U E) → ℕ
      → Me (Option S) (View U E) → Type 0
  learned st m r m' =
      (m' ≡ m)
      × (m.0.stage ≡ Idle
      → IsPrefix m.0.shorter m.0.seen × (m.0.shares ≤ ALL_PARTS) × IsSoundView step m.0)
