-- The registered prefixes in byte order, each with the connections that registered it (the page of
-- CLIENT TRACKING, BCAST and PREFIX).
use Rattle.std.specs.Prelude.{◌==◌, ℕ, List, [], ◌∷◌, Bool, not, nat_eq, length, map, filter}
use Rattle.std.specs.Prelude.{Option, option_map, slice_get, slice_index_or}
use Rattle.std.specs.List.{list_any, range_with_len, starts_with}
use Rattle.std.specs.Ordering.{match_ordering, nat_cmp}
use Rattle.std.specs.declared.cmp.Ordering.{Ordering}
use Rattle.std.specs.Cmp.Lexicographic.{slice_cmp}
use Rattle.id_set.specs.Ids.{with_id, without_id}
use Rattle.prefix_table.specs.declared.table.Registration.{Registration}

abbrev pub byte_order : List ℕ → List ℕ → Ordering
byte_order a b = slice_cmp nat_cmp a b

abbrev pub first_of : ℕ → List ℕ → Registration
first_of id prefix = record { prefix = prefix; ids = id ∷ [] }

abbrev pub joined_by : ℕ → Registration → Registration
joined_by id r = record r { ids = with_id id r.ids }

-- a new prefix goes to its place; another has one connection more
abbrev pub registered : ℕ → List ℕ → List Registration → List Registration
registered id prefix [] = first_of id prefix ∷ []
registered id prefix (r ∷ rs) =
    match_ordering (byte_order r.prefix prefix)
    (r ∷ registered id prefix rs) (joined_by id r ∷ rs) (first_of id prefix ∷ r ∷ rs)

-- a connection registers these prefixes too
abbrev pub with_prefixes : ℕ → List (List ℕ) → List Registration → List Registration
with_prefixes id [] rows = rows
with_prefixes id (p ∷ ps) rows = with_prefixes id ps (registered id p rows)

abbrev pub left_by : ℕ → Registration → Registration
left_by id r = record r { ids = without_id id r.ids }

abbrev pub is_held : Registration → Bool
is_held r = not (length r.ids == 0)

-- a prefix that no connection registered any more is gone
abbrev pub without_connection : ℕ → List Registration → List Registration
without_connection id rs = filter is_held (map (left_by id) rs)

abbrev pub nothing : Registration
nothing = record { prefix = []; ids = [] }

abbrev pub prefix_at : List Registration → ℕ → List ℕ
prefix_at rs n = (slice_index_or rs n nothing).prefix

abbrev pub starts_with_at : List ℕ → List Registration → ℕ → Bool
starts_with_at key rs n = starts_with nat_eq key (prefix_at rs n)

-- the places, ascending, of the prefixes that a key starts with
abbrev pub places_of : List ℕ → List Registration → List ℕ
places_of key rs = filter (starts_with_at key rs) (range_with_len 0 (length rs))

-- the places, ascending and each once, of the prefixes that one of the keys starts with
abbrev pub places_of_any : List (List ℕ) → List Registration → List ℕ
places_of_any keys rs =
    filter (λ n. list_any (λ key. starts_with_at key rs n) keys) (range_with_len 0 (length rs))

abbrev pub row_at : ℕ → List Registration → Option (List ℕ × List ℕ)
row_at n rs = option_map (λ r. (r.prefix, r.ids)) (slice_get rs n)
