-- The names of the commands on keys of any type, and the words of each (the pages of these
-- commands).
use Rattle.std.specs.Prelude.{ℕ, if◌then◌else◌, ◌*◌, ◌+◌, ◌^◌, nat_lt, nat_le, Bool}
use Rattle.std.specs.Prelude.{List, [], ◌∷◌, Ok, Err, ℤ, pos, negsuc, codes}
use Rattle.std.specs.Str.{bytes_eq}
use Rattle.command_words.specs.declared.command.Command.{Command}
use Rattle.command_words.specs.declared.command.Command.TheVariants.{Del, Exists, KeyType, Rename}
use Rattle.command_words.specs.declared.command.Command.TheVariants.{Expire, PExpire, ExpireAt}
use Rattle.command_words.specs.declared.command.Command.TheVariants.{PExpireAt, Ttl, PTtl, Persist}
use Rattle.command_words.specs.declared.command.Command.TheVariants.{DbSize, FlushAll, FlushDb}
use Rattle.command_words.specs.declared.command.FlushMode.{FlushMode}
use Rattle.command_words.specs.declared.command.FlushMode.TheVariants.{Plain, Async, Sync}
use Rattle.command_words.specs.declared.key_words.KeyName.{KeyName}
use Rattle.command_words.specs.declared.key_words.KeyName.TheVariants as name
use Rattle.command_words.specs.declared.command.WordFault.TheVariants.{Unknown}
use Rattle.command_words.specs.declared.command.WordFault.TheVariants.{Syntax, BadExpire}
use Rattle.command_words.specs.Names.{is_name}
use Rattle.command_words.specs.Reading.{Read, read_as, read_then}
use Rattle.command_words.specs.WordCounts.{no_word, one, two}
use Rattle.command_words.specs.WordCounts.{at_least_one, one_and_number}

-- a number of seconds that is within 64 bits with a sign in milliseconds
abbrev pub fits_in_millis : ℤ → Bool
fits_in_millis (pos n) = nat_lt (n * 1000) (2 ^ 63)
fits_in_millis (negsuc n) = nat_le ((n + 1) * 1000) (2 ^ 63)

abbrev pub one_and_seconds : List (List ℕ) → Read (List ℕ × ℤ)
one_and_seconds words =
    read_then (one_and_number words) (λ p. if fits_in_millis p.1 then Ok p else Err BadExpire)

-- FLUSHALL, FLUSHDB: one of ASYNC and SYNC, or none
abbrev pub flush_mode : List (List ℕ) → Read FlushMode
flush_mode [] = Ok Plain
flush_mode (w ∷ []) =
    if is_name (codes "async") w then Ok Async else
    if is_name (codes "sync") w then Ok Sync else
    Err Syntax
flush_mode _ = Err Syntax

unfoldable pub key_reading : List ℕ → List (List ℕ) → Read Command
key_reading name words =
    if bytes_eq name (codes "del") then read_as Del (at_least_one words) else
    if bytes_eq name (codes "exists") then read_as Exists (at_least_one words) else
    if bytes_eq name (codes "type") then read_as KeyType (one words) else
    if bytes_eq name (codes "rename") then read_as (λ p. Rename p.0 p.1) (two words) else
    if bytes_eq name (codes "expire")
    then read_as (λ p. Expire p.0 p.1) (one_and_seconds words) else
    if bytes_eq name (codes "pexpire")
    then read_as (λ p. PExpire p.0 p.1) (one_and_number words) else
    if bytes_eq name (codes "expireat")
    then read_as (λ p. ExpireAt p.0 p.1) (one_and_seconds words) else
    if bytes_eq name (codes "pexpireat")
    then read_as (λ p. PExpireAt p.0 p.1) (one_and_number words) else
    if bytes_eq name (codes "ttl") then read_as Ttl (one words) else
    if bytes_eq name (codes "pttl") then read_as PTtl (one words) else
    if bytes_eq name (codes "persist") then read_as Persist (one words) else
    if bytes_eq name (codes "dbsize") then read_as (λ _. DbSize) (no_word words) else
    if bytes_eq name (codes "flushall") then read_as FlushAll (flush_mode words) else
    if bytes_eq name (codes "flushdb") then read_as FlushDb (flush_mode words) else
    Err Unknown

-- the names
abbrev pub key_name_text : KeyName → List ℕ
key_name_text name.Del = codes "del"
key_name_text name.Exists = codes "exists"
key_name_text name.KeyType = codes "type"
key_name_text name.Rename = codes "rename"
key_name_text name.Expire = codes "expire"
key_name_text name.PExpire = codes "pexpire"
key_name_text name.ExpireAt = codes "expireat"
key_name_text name.PExpireAt = codes "pexpireat"
key_name_text name.Ttl = codes "ttl"
key_name_text name.PTtl = codes "pttl"
key_name_text name.Persist = codes "persist"
key_name_text name.DbSize = codes "dbsize"
key_name_text name.FlushAll = codes "flushall"
key_name_text name.FlushDb = codes "flushdb"
