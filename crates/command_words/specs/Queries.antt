-- Which words are a cacheable query, and what a command writes.
use Rattle.std.specs.Prelude.{ℕ, List, [], ◌∷◌, Bool, true, false, Option, Some, None}
use Rattle.std.specs.Prelude.{◌||◌, if◌then◌else◌, map, Ok, Err, Result}
use Rattle.std.specs.Cmp.Lexicographic.{pointwise}
use Rattle.std.specs.Str.{bytes_eq, str_to_ascii_uppercase}
use Rattle.std.specs.List.{list_any}
use Rattle.command_words.specs.declared.command.Command.{Command}
use Rattle.command_words.specs.declared.command.Command.TheVariants.{Get, Set, StrLen, GetRange}
use Rattle.command_words.specs.declared.command.Command.TheVariants.{HGet, HMGet, HGetAll, HLen}
use Rattle.command_words.specs.declared.command.Command.TheVariants.{HExists, HKeys, HVals}
use Rattle.command_words.specs.declared.command.Command.TheVariants.{SetNx, GetDel, Append, Incr}
use Rattle.command_words.specs.declared.command.Command.TheVariants.{Decr, IncrBy, DecrBy, MGet}
use Rattle.command_words.specs.declared.command.Command.TheVariants.{MSet, HSet, HDel, HIncrBy}
use Rattle.command_words.specs.declared.command.Command.TheVariants.{Del, Exists, KeyType, Rename}
use Rattle.command_words.specs.declared.command.Command.TheVariants.{Expire, PExpire, ExpireAt}
use Rattle.command_words.specs.declared.command.Command.TheVariants.{PExpireAt, Ttl, PTtl, Persist}
use Rattle.command_words.specs.declared.command.Command.TheVariants.{FlushAll, FlushDb}
use Rattle.command_words.specs.declared.command.WordFault.{WordFault}
use Rattle.command_words.specs.declared.written.Written.{Written}
use Rattle.command_words.specs.declared.written.Written.TheVariants.{Keys, All}
use Rattle.resp_value.specs.Tree.{in_turn}
use Rattle.command_words.specs.KeyLists.{each_once}
use Rattle.command_words.specs.Words.{reading}

-- reads whose reply depends on the content of one key alone (client-side caching reference); EXISTS
-- is one where it names one key
abbrev pub is_cacheable : Command → Bool
is_cacheable (Get key) = true
is_cacheable (StrLen key) = true
is_cacheable (GetRange key a b) = true
is_cacheable (HGet key field) = true
is_cacheable (HMGet key fields) = true
is_cacheable (HGetAll key) = true
is_cacheable (HLen key) = true
is_cacheable (HExists key field) = true
is_cacheable (HKeys key) = true
is_cacheable (HVals key) = true
is_cacheable (Exists (key ∷ [])) = true
is_cacheable (KeyType key) = true
is_cacheable _ = false

abbrev pub reads_as_cacheable : Result Command WordFault → Bool
reads_as_cacheable (Ok command) = is_cacheable command
reads_as_cacheable (Err fault) = false

abbrev pub with_upper_name : List (List ℕ) → List (List ℕ)
with_upper_name [] = []
with_upper_name (name ∷ words) = str_to_ascii_uppercase name ∷ words

-- the query that words are: themselves, with the name in upper case
abbrev pub query_of : List (List ℕ) → Option (List (List ℕ))
query_of words = if reads_as_cacheable (reading words) then Some (with_upper_name words) else None

-- the key of a query stands behind its name
abbrev pub key_of : List (List ℕ) → List ℕ
key_of [] = []
key_of (name ∷ []) = []
key_of (name ∷ key ∷ words) = key

-- two queries are one where their words are
abbrev pub same_query : List (List ℕ) → List (List ℕ) → Bool
same_query = pointwise bytes_eq

-- the keys among keys and values in turn
abbrev pub keys_in_turn : List (List ℕ) → List (List ℕ)
keys_in_turn words = map (λ p. p.0) (in_turn words)

-- the keys that a command can change; a flush changes all
abbrev pub written : Command → Written
written (Set key value when life) = Keys (key ∷ [])
written (SetNx key value) = Keys (key ∷ [])
written (GetDel key) = Keys (key ∷ [])
written (Append key value) = Keys (key ∷ [])
written (Incr key) = Keys (key ∷ [])
written (Decr key) = Keys (key ∷ [])
written (IncrBy key n) = Keys (key ∷ [])
written (DecrBy key n) = Keys (key ∷ [])
written (MSet words) = Keys (keys_in_turn words)
written (HSet key words) = Keys (key ∷ [])
written (HDel key fields) = Keys (key ∷ [])
written (HIncrBy key field n) = Keys (key ∷ [])
written (Del keys) = Keys keys
written (Rename a b) = Keys (a ∷ b ∷ [])
written (Expire key n) = Keys (key ∷ [])
written (PExpire key n) = Keys (key ∷ [])
written (ExpireAt key n) = Keys (key ∷ [])
written (PExpireAt key n) = Keys (key ∷ [])
written (Persist key) = Keys (key ∷ [])
written (FlushAll mode) = All
written (FlushDb mode) = All
written _ = Keys []

-- the keys that a read names, in order, each once; another command reads none
abbrev pub read : Command → List (List ℕ)
read (Get key) = key ∷ []
read (StrLen key) = key ∷ []
read (GetRange key a b) = key ∷ []
read (MGet keys) = each_once keys
read (HGet key field) = key ∷ []
read (HMGet key fields) = key ∷ []
read (HGetAll key) = key ∷ []
read (HLen key) = key ∷ []
read (HExists key field) = key ∷ []
read (HKeys key) = key ∷ []
read (HVals key) = key ∷ []
read (Exists keys) = each_once keys
read (KeyType key) = key ∷ []
read (Ttl key) = key ∷ []
read (PTtl key) = key ∷ []
read _ = []

-- words that read as no command change no key
abbrev pub written_as : Result Command WordFault → Written
written_as (Ok command) = written command
written_as (Err fault) = Keys []

unfoldable pub written_by : List (List ℕ) → Written
written_by words = written_as (reading words)

abbrev pub names : Written → List ℕ → Bool
names (Keys keys) key = list_any (bytes_eq key) keys
names All key = true

-- a command of these words can change the key
abbrev pub writes : List (List ℕ) → List ℕ → Bool
writes words key = names (written_by words) key

abbrev pub reads_key : Result Command WordFault → List ℕ → Bool
reads_key (Ok command) key = list_any (bytes_eq key) (read command)
reads_key (Err fault) key = false

-- a command names a key: it reads it or can change it
abbrev pub names_key : List (List ℕ) → List ℕ → Bool
names_key words key = reads_key (reading words) key || names (written_by words) key
