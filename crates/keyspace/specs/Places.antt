-- Fields that were taken out of a hash, and how they come back to the places that they had.
use Rattle.std.specs.Prelude.{ℕ, List, [], ◌∷◌, insert, is_some, length, map, min}
use Rattle.std.specs.Prelude.{if◌then◌else◌}
use Rattle.command_words.specs.Hashes.{Pairs, field_get}
use Rattle.command_words.specs.Space.{Content, Text, Fields, Space, changed_at}
use Rattle.keyspace.specs.declared.placed.Placed as code

-- the place that a field had, its name and its value
abbrev pub Placed : Type 0
Placed = ℕ × List ℕ × List ℕ

abbrev pub placed_of : code.Placed → Placed
placed_of placed = (placed.place, placed.field.items, placed.value)

abbrev pub all_placed : List code.Placed → List Placed
all_placed all = map placed_of all

-- a field goes to its place, or last where there are fewer; one that is there stays as it is
abbrev pub field_put : Placed → Pairs → Pairs
field_put p fs =
    if is_some (field_get p.1 fs) then fs
    else insert fs (min p.0 (length fs)) (p.1, p.2)

-- from right to left: the field that was taken out last goes first
abbrev pub placed_back : List Placed → Pairs → Pairs
placed_back [] fs = fs
placed_back (p ∷ ps) fs = field_put p (placed_back ps fs)

-- the same of what a key holds; a string stays
abbrev pub with_placed : List Placed → Content → Content
with_placed ps (Text value) = Text value
with_placed ps (Fields fields) = Fields (placed_back ps fields)

abbrev pub with_placed_of : List ℕ → List Placed → Space → Space
with_placed_of key ps =
    changed_at key (λ held. record held { content = with_placed ps held.content })
