-- The ages of the rows that each connection holds, and the rows that they cover.
use Rattle.std.specs.Prelude.{◌≡◌, ◌==◌, ℕ, Bool, true, false, List, Option, Some, None}
use Rattle.std.specs.Option.{option_map_or}
use Rattle.std.specs.Global.{Vec}
use Rattle.std.specs.List.{list_any}
use Rattle.std.specs.Ordering.{nat_cmp}
use Rattle.std.specs.Map.{lookup}
use Rattle.std.specs.BTreeMap.{is_at}
use Rattle.std.specs.BTreeSet.{BTreeSet}
use Rattle.track_table.specs.declared.table.Held.{Held}
use Rattle.track_table.specs.Aged.{IsIndexed}

abbrev pub Sets : Type 0
Sets = List (ℕ × BTreeSet ℕ)

abbrev pub has_age : ℕ → List ℕ → Bool
has_age age ages = list_any (is_at (nat_cmp age)) ages

-- whether the age is among those of the connection
abbrev pub has : ℕ → ℕ → Sets → Bool
has id age sets = option_map_or (λ s. has_age age s.keys) (lookup (is_at (nat_cmp id)) sets) false

abbrev pub Keeps : Sets → Sets → Type 0
Keeps old new = (i a : ℕ) → has i a old ≡ true → has i a new ≡ true

-- all stay but one age of one connection
abbrev pub KeepsBut : ℕ → ℕ → Sets → Sets → Type 0
KeepsBut id age old new =
    (i a : ℕ) → (i ≡ id → a ≡ age → ⊥) → has i a old ≡ true → has i a new ≡ true

-- all stay but one age
abbrev pub KeepsOthers : ℕ → Sets → Sets → Type 0
KeepsOthers age old new = (i a : ℕ) → (a ≡ age → ⊥) → has i a old ≡ true → has i a new ≡ true

abbrev pub is_held_by : ℕ → Option Held → Bool
is_held_by id None = false
is_held_by id (Some r) = list_any (λ h. h == id) r.holders

-- whether the connection holds the row of this age
abbrev pub holds_at : ℕ → ℕ → List (ℕ × Held) → Bool
holds_at id age es = is_held_by id (lookup (is_at (nat_cmp age)) es)

-- a connection that holds a row has its age among its own
abbrev pub Covers : Sets → List (ℕ × Held) → Type 0
Covers sets es = (id age : ℕ) → holds_at id age es ≡ true → has id age sets ≡ true

-- what each connection holds was held before
abbrev pub HoldsLess : List (ℕ × Held) → List (ℕ × Held) → Type 0
HoldsLess old new = (id age : ℕ) → holds_at id age new ≡ true → holds_at id age old ≡ true

pub record IsKept (es : List (ℕ × Held)) (marks : List (ℕ × ℕ)) (others : List (Vec ℕ × ℕ))
    (sets : Sets) : Type 0 where
  pub indexed : IsIndexed es marks others
  pub covered : Covers sets es
