-- The names of the commands on strings, and the words of each (the pages of these commands).
use Rattle.std.specs.Prelude.{ℕ, if◌then◌else◌, List, [], ◌∷◌, Err, codes}
use Rattle.std.specs.Str.{bytes_eq}
use Rattle.command_words.specs.declared.command.Command.{Command}
use Rattle.command_words.specs.declared.command.Command.TheVariants.{Get, SetNx, GetDel, Append}
use Rattle.command_words.specs.declared.command.Command.TheVariants.{StrLen, GetRange, Incr, Decr}
use Rattle.command_words.specs.declared.command.Command.TheVariants.{IncrBy, DecrBy, MGet, MSet}
use Rattle.command_words.specs.declared.string_words.StringName.{StringName}
use Rattle.command_words.specs.declared.string_words.StringName.TheVariants as name
use Rattle.command_words.specs.declared.command.WordFault.TheVariants.{Unknown, Arity}
use Rattle.command_words.specs.SetOptions.{set_reading}
use Rattle.command_words.specs.Reading.{Read, read_as, read_then}
use Rattle.command_words.specs.WordCounts.{one, two, at_least_one}
use Rattle.command_words.specs.WordCounts.{in_pairs, number, one_and_number}

-- GETRANGE: a key and two positions
abbrev pub range_reading : List (List ℕ) → Read Command
range_reading (key ∷ a ∷ b ∷ []) =
    read_then (number a) (λ i. read_as (λ j. GetRange key i j) (number b))
range_reading _ = Err Arity

unfoldable pub string_reading : List ℕ → List (List ℕ) → Read Command
string_reading name words =
    if bytes_eq name (codes "get") then read_as Get (one words) else
    if bytes_eq name (codes "set") then set_reading words else
    if bytes_eq name (codes "setnx") then read_as (λ p. SetNx p.0 p.1) (two words) else
    if bytes_eq name (codes "getdel") then read_as GetDel (one words) else
    if bytes_eq name (codes "append") then read_as (λ p. Append p.0 p.1) (two words) else
    if bytes_eq name (codes "strlen") then read_as StrLen (one words) else
    if bytes_eq name (codes "getrange") then range_reading words else
    if bytes_eq name (codes "incr") then read_as Incr (one words) else
    if bytes_eq name (codes "decr") then read_as Decr (one words) else
    if bytes_eq name (codes "incrby") then read_as (λ p. IncrBy p.0 p.1) (one_and_number words) else
    if bytes_eq name (codes "decrby") then read_as (λ p. DecrBy p.0 p.1) (one_and_number words) else
    if bytes_eq name (codes "mget") then read_as MGet (at_least_one words) else
    if bytes_eq name (codes "mset") then read_as MSet (in_pairs words) else
    Err Unknown

-- the names
abbrev pub string_name_text : StringName → List ℕ
string_name_text name.Get = codes "get"
string_name_text name.Set = codes "set"
string_name_text name.SetNx = codes "setnx"
string_name_text name.GetDel = codes "getdel"
string_name_text name.Append = codes "append"
string_name_text name.StrLen = codes "strlen"
string_name_text name.GetRange = codes "getrange"
string_name_text name.Incr = codes "incr"
string_name_text name.Decr = codes "decr"
string_name_text name.IncrBy = codes "incrby"
string_name_text name.DecrBy = codes "decrby"
string_name_text name.MGet = codes "mget"
string_name_text name.MSet = codes "mset"
