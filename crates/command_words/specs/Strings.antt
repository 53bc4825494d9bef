-- The commands on strings, a row each (the pages of these commands). A key that holds a hash is
-- the wrong type, and then nothing changes.
use Rattle.std.specs.Prelude.{ℕ, ◌+◌, ◌-◌, ◌*◌, List, [], ◌∷◌, ◌++◌, Bool, true, not}
use Rattle.std.specs.Prelude.{◌&&◌, map, length, min}
use Rattle.std.specs.Prelude.{Option, Some, None, Result, Ok, Err, ℤ, pos, negsuc, neg_ℤ, int_lt}
use Rattle.std.specs.Prelude.{nat_lt, codes, if◌then◌else◌}
use Rattle.std.specs.Fmt.{signed_decimal}
use Rattle.std.specs.FinMap.{contains_key, insert, remove}
use Rattle.std.specs.Prelude.{unwrap_or, slice_range}
use Rattle.resp_value.specs.declared.value.Value.{Value}
use Rattle.resp_value.specs.declared.value.Value.TheVariants.{Simple, Number, Blob, Null, Array}
use Rattle.resp_value.specs.ValueTree.{tree_of}
use Rattle.resp_value.specs.Tree.{in_turn}
use Rattle.command_words.specs.declared.command.SetWhen.{SetWhen}
use Rattle.command_words.specs.declared.command.SetWhen.TheVariants.{Always, Nx, Xx}
use Rattle.command_words.specs.declared.command.SetLife.{SetLife}
use Rattle.command_words.specs.declared.command.SetLife.TheVariants.{Cleared, Seconds, Millis, Kept}
use Rattle.command_words.specs.Space.{Content, Text, Fields, Space, content_at, deadline_at}
use Rattle.command_words.specs.Effect.{Effect, replied, wrote, blob_or_null, wrong_type}
use Rattle.command_words.specs.Effect.{not_integer, overflow, too_long, number_in, sum_in}
use Rattle.command_words.specs.KeyLists.{each_once}

-- what a row says of the string under a key: a missing key has none, a hash is the wrong type
abbrev pub on_text : {A : Type 0} → A → (Option (List ℕ) → A) → Option Content → A
on_text wrong row None = row None
on_text wrong row (Some (Text value)) = row (Some value)
on_text wrong row (Some (Fields fields)) = wrong

abbrev pub text_reply : List ℕ → Space → (Option (List ℕ) → Value) → Value
text_reply key space row = on_text wrong_type row (content_at key space)

abbrev pub text_effect : List ℕ → Space → (Option (List ℕ) → Effect) → Effect
text_effect key space row = on_text (replied wrong_type space) row (content_at key space)

-- a missing string reads as the empty one
abbrev pub or_empty : Option (List ℕ) → List ℕ
or_empty value = unwrap_or value []

abbrev pub put_text : List ℕ → List ℕ → Option ℕ → Space → Space
put_text key value deadline space =
    insert space key (record { content = Text value; deadline = deadline })

-- GET k
abbrev pub get_reply : List ℕ → Space → Value
get_reply key space = text_reply key space blob_or_null

-- STRLEN k
abbrev pub strlen_reply : List ℕ → Space → Value
strlen_reply key space = text_reply key space (λ v. Number (pos (length (or_empty v))))

-- the place that a position names: a negative one counts from the end, and stops at the first
abbrev pub place_of : ℤ → ℕ → ℕ
place_of (pos n) len = n
place_of (negsuc n) len = len - (n + 1)

abbrev pub is_below_zero : ℤ → Bool
is_below_zero n = int_lt n (pos 0)

-- the bytes from one position to another, the last one within: none where the first is after the
-- last
abbrev pub range_of : ℤ → ℤ → List ℕ → List ℕ
range_of a b value =
    if is_below_zero a && (is_below_zero b && int_lt b a) then [] else
    slice_range value (place_of a (length value))
    (min (place_of b (length value) + 1) (length value))

-- GETRANGE k a b
abbrev pub getrange_reply : List ℕ → ℤ → ℤ → Space → Value
getrange_reply key a b space = text_reply key space (λ v. Blob (range_of a b (or_empty v)))

-- MGET k ..: null also for a hash
abbrev pub mget_reply : List (List ℕ) → Space → Value
mget_reply keys space =
    Array (map (λ key. tree_of (on_text Null blob_or_null (content_at key space))) keys)

-- NX sets only where the key is missing, XX only where it is there
abbrev pub sets : SetWhen → Bool → Bool
sets Always there = true
sets Nx there = not there
sets Xx there = there

-- so much after a moment, in units of so many milliseconds, and at most the last moment
abbrev pub moment_after : ℕ → ℕ → ℤ → ℕ
moment_after moment unit (pos n) = min (moment + n * unit) 18446744073709551615
moment_after moment unit (negsuc n) = moment - (n + 1) * unit

-- the deadline that SET leaves, from the one that the key had
abbrev pub set_deadline : SetLife → ℕ → Option ℕ → Option ℕ
set_deadline Cleared moment had = None
set_deadline (Seconds n) moment had = Some (moment_after moment 1000 n)
set_deadline (Millis n) moment had = Some (moment_after moment 1 n)
set_deadline Kept moment had = had

-- SET k v [NX or XX] [EX s or PX ms or KEEPTTL]: over any type
abbrev pub set_effect : List ℕ → List ℕ → SetWhen → SetLife → Space → ℕ → Effect
set_effect key value when life space moment =
    if sets when (contains_key space key)
    then wrote (Simple (codes "OK")) (key ∷ [])
    (put_text key value (set_deadline life moment (deadline_at key space)) space)
    else replied Null space

-- SETNX k v
abbrev pub setnx_effect : List ℕ → List ℕ → Space → Effect
setnx_effect key value space =
    if contains_key space key
    then replied (Number (pos 0)) space
    else wrote (Number (pos 1)) (key ∷ []) (put_text key value None space)

-- GETDEL k
abbrev pub getdel_row : List ℕ → Option (List ℕ) → Space → Effect
getdel_row key None space = replied Null space
getdel_row key (Some value) space = wrote (Blob value) (key ∷ []) (remove space key)

abbrev pub getdel_effect : List ℕ → Space → Effect
getdel_effect key space = text_effect key space (λ v. getdel_row key v space)

-- a string has at most 16,777,216 bytes
abbrev pub append_row : List ℕ → List ℕ → Space → Effect
append_row key value space =
    if nat_lt 16777216 (length value)
    then replied too_long space
    else wrote (Number (pos (length value))) (key ∷ [])
    (put_text key value (deadline_at key space) space)

-- APPEND k v: the deadline stays
abbrev pub append_effect : List ℕ → List ℕ → Space → Effect
append_effect key value space =
    text_effect key space (λ v. append_row key (or_empty v ++ value) space)

abbrev pub incrby_row : List ℕ → Result ℤ Value → Space → Effect
incrby_row key (Ok n) space =
    wrote (Number n) (key ∷ []) (put_text key (signed_decimal n) (deadline_at key space) space)
incrby_row key (Err error) space = replied error space

-- INCRBY k n, and INCR k with 1, DECR k with -1: a missing key is 0, and the deadline stays
abbrev pub incrby_effect : List ℕ → ℤ → Space → Effect
incrby_effect key n space =
    text_effect key space (λ v. incrby_row key (sum_in not_integer (number_in v) n) space)

-- -2^63, which has no opposite within 64 bits
abbrev pub is_least : ℤ → Bool
is_least n = int_lt n (negsuc 9223372036854775806)

-- DECRBY k n: the least number overflows whatever the key holds
abbrev pub decrby_effect : List ℕ → ℤ → Space → Effect
decrby_effect key n space =
    if is_least n then replied overflow space else incrby_effect key (neg_ℤ n) space

-- keys and values, set from left to right without deadlines
abbrev pub put_all : List (List ℕ × List ℕ) → Space → Space
put_all [] space = space
put_all (p ∷ ps) space = put_all ps (put_text p.0 p.1 None space)

-- MSET k v ..
abbrev pub mset_effect : List (List ℕ) → Space → Effect
mset_effect words space =
    wrote (Simple (codes "OK")) (each_once (map (λ p. p.0) (in_turn words)))
    (put_all (in_turn words) space)
