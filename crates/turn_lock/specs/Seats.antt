-- What a seat knows, and what the calls of a lock say of it.
use Rattle.std.specs.Prelude.{◌≡◌, ℕ, ◌+◌, ◌≤◌, max, cond, nat_lt, List, [], ◌∷◌, ◌++◌}
use Rattle.std.specs.Prelude.{length, Option, Some, Bool, true, ⊤}
use Rattle.std.specs.List.{All}
use Rattle.atomic_table.specs.Seated.{TableId}
use Rattle.turn_lock.specs.Counts.{times}
use Rattle.turn_lock.specs.History.{entries, IsPrefix, history_after, own_after, Legal, Owns}
use Rattle.turn_lock.specs.declared.rule.View.{View}
use Rattle.turn_lock.specs.declared.rule.TheConstants.{ALL_PARTS}

-- What a seat knows of its lock.
-- `numbers` are those of the seat and of the seats joined into it. `tickets` is the greatest value
-- of the ticket word that these found, and `turns` is how many tickets they drew. `seen` is the
-- prefix of the history that they know, and `own` are the places of their entries.
pub record Known (U E : Type 0) : Type 0 where
  pub lock : TableId
  pub setup : Option U
  pub number : ℕ
  pub numbers : List ℕ
  pub parts : ℕ
  pub tickets : ℕ
  pub turns : ℕ
  pub seen : List (ℕ × E)
  pub own : List ℕ

-- what a lock that was closed hands back
pub record ClosedLock (S : Type 0) : Type 0 where
  pub state : S
  pub tickets : ℕ

abbrev pub known : {U E : Type 0} → TableId → View U E → Known U E
known lock v = record {
  lock = lock;
  setup = v.setup;
  number = v.number;
  numbers = v.numbers;
  parts = v.shares;
  tickets = v.tickets;
  turns = v.turns;
  seen = v.seen;
  own = v.own;
}

-- the first seat of a lock
abbrev pub first_seat : {U E : Type 0} → TableId → U → Known U E
first_seat lock setup = record {
  lock = lock;
  setup = Some setup;
  number = 0;
  numbers = 0 ∷ [];
  parts = ALL_PARTS;
  tickets = 0;
  turns = 0;
  seen = [];
  own = [];
}

-- the seat that is split off
abbrev pub split_seat : {U E : Type 0} → Known U E → ℕ → ℕ → Known U E
split_seat k number parts =
    record k { number = number; numbers = number ∷ []; parts = parts; turns = 0; own = [] }

abbrev pub longer : {A : Type 0} → List A → List A → List A
longer xs ys = cond (nat_lt (length xs) (length ys)) ys xs

abbrev pub shorter : {A : Type 0} → List A → List A → List A
shorter xs ys = cond (nat_lt (length xs) (length ys)) xs ys

-- a seat with another joined into it
abbrev pub joined_seat : {U E : Type 0} → Known U E → Known U E → Known U E
joined_seat k other = record k {
  numbers = k.numbers ++ other.numbers;
  parts = k.parts + other.parts;
  tickets = max k.tickets other.tickets;
  turns = k.turns + other.turns;
  seen = longer k.seen other.seen;
  own = k.own ++ other.own;
}

-- what no turn changes
abbrev pub IsSameSeat : {U E : Type 0} → Known U E → Known U E → Type 0
IsSameSeat k l =
    (l.lock ≡ k.lock) × (l.setup ≡ k.setup) × (l.number ≡ k.number) × (l.numbers ≡ k.numbers)
    × (l.parts ≡ k.parts)

module _ {U E C R : Type 0} (step : U → List E → C → R → Option E → Type 0) where
  -- what was seen is legal, the own places are exactly those of the entries that the numbers made,
  -- and no number is twice among them
  abbrev pub Sound : Option U → ℕ → List ℕ → List (ℕ × E) → List ℕ → Type 0
  Sound setup number numbers seen own =
      ((u : U) × (setup ≡ Some u) × Legal step u seen) × Owns numbers seen own
      × ((n : ℕ) → times n numbers ≤ 1) × (times number numbers ≡ 1)

  abbrev pub IsSound : Known U E → Type 0
  IsSound k = Sound k.setup k.number k.numbers k.seen k.own

  abbrev pub IsSoundView : View U E → Type 0
  IsSoundView v = Sound v.setup v.number v.numbers v.seen v.own

  -- What was seen before is a prefix of what the turn found, and the step gives the reply and the
  -- entry, or none, on what it found. The seat then has seen the turn's entry too, and owns it.
  abbrev pub Turned : C → R → Known U E → Known U E → Type 0
  Turned call reply before after =
      (u : U) × (h : List (ℕ × E)) × (e : Option E) × (before.setup ≡ Some u)
      × IsPrefix before.seen h × step u (entries h) call reply e
      × (after.seen ≡ history_after before.number h e)
      × (after.own ≡ own_after before.own (length h) e)

  -- One turn for each call, in their order, each with its reply. Between two of them others may
  -- have theirs.
  abbrev pub TurnedAll : List C → List R → Known U E → Known U E → Type 0
  TurnedAll [] [] before after =
      IsSameSeat before after × (after.seen ≡ before.seen) × (after.own ≡ before.own)
  TurnedAll [] (reply ∷ replies) before after = ⊥
  TurnedAll (call ∷ calls) [] before after = ⊥
  TurnedAll (call ∷ calls) (reply ∷ replies) before after =
      (next : Known U E) × IsSameSeat before next × Turned call reply before next
      × TurnedAll calls replies next after

-- behind a refusal there are only refusals
abbrev pub StopsAt : {R : Type 0} → (R → Bool) → List R → Type 0
StopsAt refuses [] = ⊤
StopsAt refuses (reply ∷ replies) =
    (refuses reply ≡ true → All (λ r. refuses r ≡ true) replies) × StopsAt refuses replies
