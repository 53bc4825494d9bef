-- The commands on hashes, a row each (the pages of these commands). A key that holds a string is
-- the wrong type, and then nothing changes.
use Rattle.std.specs.Prelude.{ℕ, ◌-◌, ◌==◌, List, [], ◌∷◌, map, length, is_some}
use Rattle.std.specs.Prelude.{Option, Some, None, Result, Ok, Err, ℤ, pos, if◌then◌else◌}
use Rattle.std.specs.Fmt.{signed_decimal}
use Rattle.std.specs.Str.{bytes_eq}
use Rattle.std.specs.FinMap.{insert, remove}
use Rattle.resp_value.specs.declared.value.Value.{Value}
use Rattle.resp_value.specs.declared.value.Value.TheVariants.{Number, Blob, Array, Map}
use Rattle.resp_value.specs.ValueTree.{tree_of}
use Rattle.resp_value.specs.Tree.{in_turn}
use Rattle.command_words.specs.Space.{Content, Text, Fields, Space, content_at, deadline_at}
use Rattle.command_words.specs.Effect.{Effect, replied, wrote, blob_or_null, wrong_type}
use Rattle.command_words.specs.Effect.{hash_not_integer, number_in, sum_in}

abbrev pub Pairs : Type 0
Pairs = List (List ℕ × List ℕ)

-- the value of a field
abbrev pub field_get : List ℕ → Pairs → Option (List ℕ)
field_get name [] = None
field_get name (f ∷ fs) = if bytes_eq name f.0 then Some f.1 else field_get name fs

-- a field keeps its place, and a new one goes last
abbrev pub field_set : List ℕ → List ℕ → Pairs → Pairs
field_set name value [] = (name, value) ∷ []
field_set name value (f ∷ fs) =
    if bytes_eq name f.0 then (f.0, value) ∷ fs else f ∷ field_set name value fs

-- the others keep their order
abbrev pub field_remove : List ℕ → Pairs → Pairs
field_remove name [] = []
field_remove name (f ∷ fs) = if bytes_eq name f.0 then fs else f ∷ field_remove name fs

-- fields set from left to right
abbrev pub set_all : Pairs → Pairs → Pairs
set_all [] fields = fields
set_all (p ∷ ps) fields = set_all ps (field_set p.0 p.1 fields)

abbrev pub remove_all : List (List ℕ) → Pairs → Pairs
remove_all [] fields = fields
remove_all (name ∷ names) fields = remove_all names (field_remove name fields)

-- what a row says of the fields under a key: a missing key has none, a string is the wrong type
abbrev pub on_fields : {A : Type 0} → A → (Pairs → A) → Option Content → A
on_fields wrong row None = row []
on_fields wrong row (Some (Text value)) = wrong
on_fields wrong row (Some (Fields fields)) = row fields

abbrev pub fields_reply : List ℕ → Space → (Pairs → Value) → Value
fields_reply key space row = on_fields wrong_type row (content_at key space)

abbrev pub fields_effect : List ℕ → Space → (Pairs → Effect) → Effect
fields_effect key space row = on_fields (replied wrong_type space) row (content_at key space)

-- the deadline of the key stays; a hash without fields goes
abbrev pub put_fields : List ℕ → Pairs → Space → Space
put_fields key [] space = remove space key
put_fields key (f ∷ fs) space =
    insert space key (record { content = Fields (f ∷ fs); deadline = deadline_at key space })

-- HGET k f
abbrev pub hget_reply : List ℕ → List ℕ → Space → Value
hget_reply key field space = fields_reply key space (λ fs. blob_or_null (field_get field fs))

-- HMGET k f ..
abbrev pub hmget_reply : List ℕ → List (List ℕ) → Space → Value
hmget_reply key fields space =
    fields_reply key space (λ fs. Array (map (λ f. tree_of (blob_or_null (field_get f fs))) fields))

-- HGETALL k: in order of first insertion
abbrev pub hgetall_reply : List ℕ → Space → Value
hgetall_reply key space =
    fields_reply key space (λ fs. Map (map (λ f. (tree_of (Blob f.0), tree_of (Blob f.1))) fs))

-- HLEN k
abbrev pub hlen_reply : List ℕ → Space → Value
hlen_reply key space = fields_reply key space (λ fs. Number (pos (length fs)))

-- HEXISTS k f
abbrev pub hexists_reply : List ℕ → List ℕ → Space → Value
hexists_reply key field space =
    fields_reply key space (λ fs. Number (pos (if is_some (field_get field fs) then 1 else 0)))

-- HKEYS k, HVALS k: in order of first insertion
abbrev pub hkeys_reply : List ℕ → Space → Value
hkeys_reply key space = fields_reply key space (λ fs. Array (map (λ f. tree_of (Blob f.0)) fs))

abbrev pub hvals_reply : List ℕ → Space → Value
hvals_reply key space = fields_reply key space (λ fs. Array (map (λ f. tree_of (Blob f.1)) fs))

-- HSET k f v ..: replies how many fields are new
abbrev pub hset_row : List ℕ → Pairs → Pairs → Space → Effect
hset_row key old new space =
    wrote (Number (pos (length new - length old))) (key ∷ []) (put_fields key new space)

abbrev pub hset_effect : List ℕ → List (List ℕ) → Space → Effect
hset_effect key words space =
    fields_effect key space (λ fs. hset_row key fs (set_all (in_turn words) fs) space)

-- HDEL k f ..: replies how many fields went
abbrev pub hdel_row : List ℕ → Pairs → Pairs → Space → Effect
hdel_row key old new space =
    if length old == length new
    then replied (Number (pos 0)) space
    else wrote (Number (pos (length old - length new))) (key ∷ []) (put_fields key new space)

abbrev pub hdel_effect : List ℕ → List (List ℕ) → Space → Effect
hdel_effect key names space =
    fields_effect key space (λ fs. hdel_row key fs (remove_all names fs) space)

-- HINCRBY k f n: a missing field is 0
abbrev pub hincrby_row : List ℕ → List ℕ → Result ℤ Value → Pairs → Space → Effect
hincrby_row key field (Ok n) fields space =
    wrote (Number n) (key ∷ []) (put_fields key (field_set field (signed_decimal n) fields) space)
hincrby_row key field (Err error) fields space = replied error space

abbrev pub field_sum : List ℕ → ℤ → Pairs → Result ℤ Value
field_sum field n fields = sum_in hash_not_integer (number_in (field_get field fields)) n

abbrev pub hincrby_effect : List ℕ → List ℕ → ℤ → Space → Effect
hincrby_effect key field n space =
    fields_effect key space (λ fs. hincrby_row key field (field_sum field n fs) fs space)
