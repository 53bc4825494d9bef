-- What a connection registered, taken back prefix by prefix.
use Rattle.std.specs.Prelude.{◌==◌, ℕ, List, [], ◌∷◌, Bool, false, if◌then◌else◌}
use Rattle.std.specs.List.{list_any}
use Rattle.std.specs.Ordering.{match_ordering}
use Rattle.prefix_table.specs.declared.table.Registration.{Registration}
use Rattle.prefix_table.specs.Table.{byte_order, is_held, left_by}

-- the connection is among those that registered the prefix
abbrev pub is_registered : ℕ → List ℕ → List Registration → Bool
is_registered id prefix [] = false
is_registered id prefix (r ∷ rs) =
    match_ordering (byte_order r.prefix prefix)
    (is_registered id prefix rs) (list_any (λ other. other == id) r.ids) false

-- the prefix has one connection less; one that no connection registered any more is gone
abbrev pub withdrawn : ℕ → List ℕ → List Registration → List Registration
withdrawn id prefix [] = []
withdrawn id prefix (r ∷ rs) =
    match_ordering (byte_order r.prefix prefix)
    (r ∷ withdrawn id prefix rs)
    (if is_held (left_by id r) then left_by id r ∷ rs else rs)
    (r ∷ rs)

-- the last of these prefixes goes first
abbrev pub all_withdrawn : ℕ → List (List ℕ) → List Registration → List Registration
all_withdrawn id [] rows = rows
all_withdrawn id (p ∷ ps) rows = withdrawn id p (all_withdrawn id ps rows)
