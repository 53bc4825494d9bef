-- The names of the commands on hashes, and the words of each (the pages of these commands).
use Rattle.std.specs.Prelude.{ℕ, if◌then◌else◌, List, [], ◌∷◌, Err, codes}
use Rattle.std.specs.Str.{bytes_eq}
use Rattle.command_words.specs.declared.command.Command.{Command}
use Rattle.command_words.specs.declared.command.Command.TheVariants.{HSet, HGet, HMGet, HGetAll}
use Rattle.command_words.specs.declared.command.Command.TheVariants.{HDel, HLen, HExists, HKeys}
use Rattle.command_words.specs.declared.command.Command.TheVariants.{HVals, HIncrBy}
use Rattle.command_words.specs.declared.hash_words.HashName.{HashName}
use Rattle.command_words.specs.declared.hash_words.HashName.TheVariants as name
use Rattle.command_words.specs.declared.command.WordFault.TheVariants.{Unknown, Arity}
use Rattle.command_words.specs.Reading.{Read, read_as}
use Rattle.command_words.specs.WordCounts.{one, two, one_and_more, one_and_pairs}
use Rattle.command_words.specs.WordCounts.{number}

-- HINCRBY: a key, a field and a number
abbrev pub hincrby_reading : List (List ℕ) → Read Command
hincrby_reading (key ∷ field ∷ n ∷ []) = read_as (λ i. HIncrBy key field i) (number n)
hincrby_reading _ = Err Arity

unfoldable pub hash_reading : List ℕ → List (List ℕ) → Read Command
hash_reading name words =
    if bytes_eq name (codes "hset") then read_as (λ p. HSet p.0 p.1) (one_and_pairs words) else
    if bytes_eq name (codes "hget") then read_as (λ p. HGet p.0 p.1) (two words) else
    if bytes_eq name (codes "hmget") then read_as (λ p. HMGet p.0 p.1) (one_and_more words) else
    if bytes_eq name (codes "hgetall") then read_as HGetAll (one words) else
    if bytes_eq name (codes "hdel") then read_as (λ p. HDel p.0 p.1) (one_and_more words) else
    if bytes_eq name (codes "hlen") then read_as HLen (one words) else
    if bytes_eq name (codes "hexists") then read_as (λ p. HExists p.0 p.1) (two words) else
    if bytes_eq name (codes "hkeys") then read_as HKeys (one words) else
    if bytes_eq name (codes "hvals") then read_as HVals (one words) else
    if bytes_eq name (codes "hincrby") then hincrby_reading words else
    Err Unknown

-- the names
abbrev pub hash_name_text : HashName → List ℕ
hash_name_text name.HSet = codes "hset"
hash_name_text name.HGet = codes "hget"
hash_name_text name.HMGet = codes "hmget"
hash_name_text name.HGetAll = codes "hgetall"
hash_name_text name.HDel = codes "hdel"
hash_name_text name.HLen = codes "hlen"
hash_name_text name.HExists = codes "hexists"
hash_name_text name.HKeys = codes "hkeys"
hash_name_text name.HVals = codes "hvals"
hash_name_text name.HIncrBy = codes "hincrby"
