-- Each command's reply is well-formed, row by row.
use Rattle.std.proofs.Common.{ℕ, List, [], ◌∷◌, Bool, cond, refl, map, Option, Result, Ok, Err, ℤ}
use Rattle.std.proofs.Common.{pos, negsuc, arith}
use Rattle.std.specs.Prelude.{codes}
use Rattle.resp_value.specs.declared.value.Proto.{Proto}
use Rattle.resp_value.specs.declared.value.Value.{Value}
use Rattle.resp_value.specs.declared.value.Value.TheVariants.{Simple}
use Rattle.resp_value.specs.Tree.{Tree, trees_of, rows_of}
use Rattle.resp_value.specs.ValueTree.{tree_of}
use Rattle.command_words.specs.declared.command.Command.{Command}
use Rattle.command_words.specs.declared.command.Command.TheVariants.{Get, Set, SetNx, GetDel}
use Rattle.command_words.specs.declared.command.Command.TheVariants.{Append, StrLen, GetRange, Incr}
use Rattle.command_words.specs.declared.command.Command.TheVariants.{Decr, IncrBy, DecrBy, MGet}
use Rattle.command_words.specs.declared.command.Command.TheVariants.{MSet}
use Rattle.command_words.specs.Space.{Content, Space}
use Rattle.command_words.specs.Effect.{Effect, blob_or_null, wrong_type, sum_in}
use Rattle.command_words.specs.Strings.{on_text}
use Rattle.command_words.specs.Hashes.{Pairs, fields_reply, fields_effect, hdel_row}
use Rattle.command_words.specs.Effects.{effect, string_effect, hash_effect, key_effect}
use Rattle.resp_laws.specs.Fronts.{IsWellFormed, AreWellFormed, RowsWellFormed}
use Rattle.link_laws.proofs.Plain.{plain_text}

-- well-formed on every protocol
abbrev pub IsGood : Value → Type 0
IsGood v = (p : Proto) → IsWellFormed p (tree_of v)

abbrev pub Replies : Effect → Type 0
Replies e = IsGood e.reply

either : {A : Type 0} (P : A → Type 0) (t : Bool) (x y : A) → P x → P y → P (cond t x y)
either P t e y h k = grind arith

pub are_mapped : {A : Type 0} (f : A → Tree) (p : Proto) → ((x : A) → IsWellFormed p (f x))
    → (xs : List A) → AreWellFormed p (trees_of (map f xs))
are_mapped f p h [] = tt
are_mapped f p h (x ∷ xs) = (h x, are_mapped f p h xs)

rows_mapped : {A : Type 0} (f : A → Tree × Tree) (p : Proto) → ((x : A) → IsWellFormed p (f x).0
    × IsWellFormed p (f x).1) → (xs : List A) → RowsWellFormed p (rows_of (map f xs))
rows_mapped f p h [] = tt
rows_mapped f p h (x ∷ xs) = ((h x).0, (h x).1, rows_mapped f p h xs)

blob_good : (o : Option (List ℕ)) → IsGood (blob_or_null o)
blob_good o p = grind arith

wrong_good : IsGood wrong_type
wrong_good p = grind (arith, plain_text)

ok_good : IsGood (Simple (codes "OK"))
ok_good p = plain_text (codes "OK") refl

on_text_good : {A : Type 0} (P : A → Type 0) (wrong : A) (row : Option (List ℕ) → A)
    (o : Option Content) → P wrong → ((v : Option (List ℕ)) → P (row v)) → P (on_text wrong row o)
on_text_good P wrong row o h k = grind arith

-- ---- a sum, or the error that there is none

sum_good : {A : Type 0} (P : A → Type 0) (row : Result ℤ Value → A) (none : Value)
    (o : Option ℤ) (n : ℤ) → IsGood none → ((i : ℤ) → P (row (Ok i)))
    → ((e : Value) → IsGood e → P (row (Err e))) → P (row (sum_in none o n))
sum_good P row none o n g h k = grind (arith, either, plain_text)

-- ---- strings

string_good : (command : Command) (space : Space) (moment : ℕ)
    → Replies (string_effect command space moment)
unfolding string_effect
string_good (Get key) space m = grind (arith, on_text_good, wrong_good, blob_good)
string_good (Set key value when life) space m = grind (arith, either, ok_good)
string_good (SetNx key value) space m = grind (arith, either, pos)
string_good (GetDel key) space m = grind (arith, on_text_good, wrong_good)
string_good (Append key value) space m = grind (arith, on_text_good, wrong_good, pos, plain_text)
string_good (StrLen key) space m = grind (arith, pos, on_text_good, wrong_good)
string_good (GetRange key a b) space m = grind (arith, on_text_good, wrong_good)
string_good (Incr key) space m = grind (arith, on_text_good, wrong_good, sum_good, plain_text, pos)
string_good (Decr key) space m =
    grind (arith, on_text_good, wrong_good, sum_good, plain_text, negsuc)
string_good (IncrBy key n) space m = grind (arith, on_text_good, wrong_good, sum_good, plain_text)
string_good (DecrBy key n) space m =
    grind (arith, either, plain_text, on_text_good, wrong_good, sum_good)
string_good (MGet keys) space m = grind (arith, are_mapped, on_text_good, blob_good)
string_good (MSet words) space m = ok_good
string_good _ space m = λ p. tt

-- ---- hashes

hdel_good : (key : List ℕ) (old new : Pairs) (space : Space) → Replies (hdel_row key old new space)
hdel_good key old new space = grind (arith, either, pos)

fields_good : (key : List ℕ) (space : Space) (row : Pairs → Value)
    → ((fs : Pairs) → IsGood (row fs)) → IsGood (fields_reply key space row)
fields_good key space row h = grind (arith, wrong_good)

changed_good : (key : List ℕ) (space : Space) (row : Pairs → Effect)
    → ((fs : Pairs) → Replies (row fs)) → Replies (fields_effect key space row)
changed_good key space row h = grind (arith, wrong_good)

hash_good : (command : Command) (space : Space) → Replies (hash_effect command space)
unfolding hash_effect
hash_good command space = grind (
  arith,
  changed_good,
  fields_good,
  blob_good,
  are_mapped,
  rows_mapped,
  hdel_good,
  pos,
  sum_good,
  plain_text,
)

-- ---- keys

key_good : (command : Command) (space : Space) (moment : ℕ)
    → Replies (key_effect command space moment)
unfolding key_effect
key_good command space m = grind (arith, ok_good, plain_text, either, pos)

pub effect_good : (command : Command) (space : Space) (moment : ℕ)
    → Replies (effect command space moment)
unfolding effect
effect_good command space m = grind (arith, either, hash_good, key_good, string_good)
