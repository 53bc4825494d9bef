-- Rows by their ages, the oldest first, and the ages of keys, which agree with them.
use Rattle.std.specs.Prelude.{◌≡◌, ◌<◌, Bool, ℕ, List, [], ◌∷◌, Option, Some, None, map}
use Rattle.std.specs.Prelude.{if◌then◌else◌}
use Rattle.std.specs.Global.{Vec}
use Rattle.std.specs.Str.{bytes_eq}
use Rattle.std.specs.Ordering.{nat_cmp}
use Rattle.std.specs.List.Sorted.{IsStrictlySortedBy}
use Rattle.std.specs.Map.{keys_of, lookup, set_value}
use Rattle.std.specs.BTreeMap.{is_at}
use Rattle.track_table.specs.declared.table.Held.{Held}
use Rattle.id_set.specs.Ids.{with_id}
use Rattle.track_table.specs.Marks.{age_at}
use Rattle.track_table.specs.Order.{IsTable}
use Rattle.track_table.specs.Table.{is_held}

abbrev pub rows_of : List (ℕ × Held) → List Held
rows_of es = map (λ e. e.1) es

-- the age of the row with the key
abbrev pub age_of : List ℕ → List (ℕ × Held) → Option ℕ
age_of key [] = None
age_of key (e ∷ es) = if bytes_eq key e.1.key then Some e.0 else age_of key es

pub record IsIndexed (es : List (ℕ × Held)) (marks : List (ℕ × ℕ)) (others : List (Vec ℕ × ℕ))
    : Type 0 where
  pub ordered : IsStrictlySortedBy nat_cmp (keys_of es)
  pub table : IsTable (rows_of es)
  pub found : (key : List ℕ) → age_at key es marks others ≡ age_of key es

abbrev pub AllBelow : ℕ → List (ℕ × Held) → Type 0
AllBelow n [] = Unit {0}
AllBelow n (e ∷ es) = (e.0 < n) × AllBelow n es

abbrev pub grown : ℕ → Held → Held
grown id r = record r { holders = with_id id r.holders }

-- the row of this age, if there is one, was changed
abbrev pub IsWritten : ℕ → (Held → Held) → List (ℕ × Held) → List (ℕ × Held) → Type 0
IsWritten age change old new =
    (r : Held) → lookup (is_at (nat_cmp age)) old ≡ Some r
    → new ≡ set_value (is_at (nat_cmp age)) old (change r)

-- whether the row of this age, if there is one, has a holder
abbrev pub IsHeldAt : ℕ → Bool → List (ℕ × Held) → Type 0
IsHeldAt age held rows =
    (r : Held) → lookup (is_at (nat_cmp age)) rows ≡ Some r → held ≡ is_held r
