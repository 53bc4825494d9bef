-- The commands on keys of any type, a row each (the pages of these commands). Deadlines are moments
-- in milliseconds.
use Rattle.std.specs.Prelude.{ℕ, ◌+◌, ◌-◌, ◌*◌, ◌/◌, List, [], ◌∷◌, length, min, nat_lt, codes}
use Rattle.std.specs.Prelude.{Option, Some, None, is_some, ℤ, pos, negsuc, if◌then◌else◌}
use Rattle.std.specs.List.{filter}
use Rattle.std.specs.Option.{option_map, option_map_or}
use Rattle.std.specs.Str.{bytes_eq}
use Rattle.std.specs.FinMap.{contains_key, insert, remove, empty, len}
use Rattle.resp_value.specs.declared.value.Value.{Value}
use Rattle.resp_value.specs.declared.value.Value.TheVariants.{Simple, Number}
use Rattle.command_words.specs.declared.command.Signalled.TheVariants.{All}
use Rattle.command_words.specs.Space.{Content, Text, Fields, Space, held_at, content_at}
use Rattle.command_words.specs.Space.{deadline_at, with_deadline}
use Rattle.command_words.specs.Effect.{Effect, replied, wrote, no_such_key}
use Rattle.command_words.specs.KeyLists.{each_once}
use Rattle.command_words.specs.Strings.{moment_after}

-- those of the keys that are there, each once, in order
abbrev pub there : List (List ℕ) → Space → List (List ℕ)
there keys space = filter (contains_key space) (each_once keys)

abbrev pub remove_each : List (List ℕ) → Space → Space
remove_each [] space = space
remove_each (key ∷ keys) space = remove_each keys (remove space key)

-- DEL k ..
abbrev pub del_effect : List (List ℕ) → Space → Effect
del_effect keys space =
    wrote (Number (pos (length (there keys space)))) (there keys space) (remove_each keys space)

-- EXISTS k ..: a key that is named twice counts twice
abbrev pub exists_reply : List (List ℕ) → Space → Value
exists_reply keys space = Number (pos (length (filter (contains_key space) keys)))

abbrev pub type_name : Option Content → List ℕ
type_name None = codes "none"
type_name (Some (Text value)) = codes "string"
type_name (Some (Fields fields)) = codes "hash"

-- TYPE k
abbrev pub type_reply : List ℕ → Space → Value
type_reply key space = Simple (type_name (content_at key space))

-- what a key holds goes to another one with its deadline, and what that one held is gone
abbrev pub renamed : List ℕ → List ℕ → Space → Space
renamed a b space =
    option_map_or (λ held. insert (remove space a) b held) (held_at a space) space

-- RENAME a b
abbrev pub rename_effect : List ℕ → List ℕ → Space → Effect
rename_effect a b space =
    if contains_key space a
    then (if bytes_eq a b
    then replied (Simple (codes "OK")) space
    else wrote (Simple (codes "OK")) (a ∷ b ∷ []) (renamed a b space))
    else replied no_such_key space

-- the deadline so many units after a moment; none where it is past at once
abbrev pub expiry_after : ℕ → ℕ → ℤ → Option ℕ
expiry_after moment unit (pos n) =
    if nat_lt 0 n then Some (moment_after moment unit (pos n)) else None
expiry_after moment unit (negsuc n) = None

abbrev pub if_to_come : ℕ → ℕ → Option ℕ
if_to_come moment time = if nat_lt moment time then Some time else None

-- the deadline at a time of so many units, at most the last moment; none where it is past at once
abbrev pub expiry_at : ℕ → ℕ → ℤ → Option ℕ
expiry_at moment unit (pos n) = if_to_come moment (min (n * unit) 18446744073709551615)
expiry_at moment unit (negsuc n) = None

-- a key takes a deadline, or goes where it is past at once
abbrev pub expiring : List ℕ → Option ℕ → Space → Space
expiring key None space = remove space key
expiring key (Some deadline) space = with_deadline key (Some deadline) space

-- EXPIRE k s, PEXPIRE k ms, EXPIREAT k s, PEXPIREAT k ms
abbrev pub expire_effect : List ℕ → Option ℕ → Space → Effect
expire_effect key expiry space =
    if contains_key space key
    then wrote (Number (pos 1)) (key ∷ []) (expiring key expiry space)
    else replied (Number (pos 0)) space

-- to the nearest second
abbrev pub in_seconds : ℕ → ℕ
in_seconds ms = (ms + 500) / 1000

abbrev pub in_millis : ℕ → ℕ
in_millis ms = ms

-- how long a key has to live: -2 where it is missing, and -1 where it has no deadline; at most the
-- greatest number of a reply
abbrev pub life_left : (ℕ → ℕ) → ℕ → Option (Option ℕ) → ℤ
life_left units moment None = negsuc 1
life_left units moment (Some None) = negsuc 0
life_left units moment (Some (Some deadline)) =
    pos (units (min (deadline - moment) 9223372036854775807))

-- TTL k, PTTL k
abbrev pub ttl_reply : (ℕ → ℕ) → List ℕ → Space → ℕ → Value
ttl_reply units key space moment =
    Number (life_left units moment (option_map (λ held. held.deadline) (held_at key space)))

-- PERSIST k
abbrev pub persist_effect : List ℕ → Space → Effect
persist_effect key space =
    if is_some (deadline_at key space)
    then wrote (Number (pos 1)) (key ∷ []) (with_deadline key None space)
    else replied (Number (pos 0)) space

-- DBSIZE
abbrev pub dbsize_reply : Space → Value
dbsize_reply space = Number (pos (len space))

-- FLUSHALL, FLUSHDB
abbrev pub flush_effect : Effect
flush_effect = record { space = empty; reply = Simple (codes "OK"); signalled = All }
