-- Where a prefix is among the rows, or where it goes.
use Rattle.std.specs.Prelude.{◌≡◌, ◌<◌, ◌≤◌, ℕ, List, length, Result, Ok, Err}
use Rattle.std.specs.declared.cmp.Ordering.TheVariants.{Less, Equal, Greater}
use Rattle.prefix_table.specs.declared.table.Registration.{Registration}
use Rattle.prefix_table.specs.Table.{byte_order, prefix_at}

-- the prefixes before this place come before this one
abbrev pub AllBefore : List ℕ → List Registration → ℕ → Type 0
AllBefore prefix rs n = (i : ℕ) → i < n → byte_order (prefix_at rs i) prefix ≡ Less

abbrev pub IsPlace : List ℕ → List Registration → Result ℕ ℕ → Type 0
IsPlace prefix rs (Ok n) =
    (n < length rs) × AllBefore prefix rs n × (byte_order (prefix_at rs n) prefix ≡ Equal)
IsPlace prefix rs (Err n) =
    (n ≤ length rs) × AllBefore prefix rs n
    × (n < length rs → byte_order (prefix_at rs n) prefix ≡ Greater)
