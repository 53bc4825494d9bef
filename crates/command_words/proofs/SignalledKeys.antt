-- What each row signals is among the keys that its command writes.
use Rattle.std.proofs.Common.{◌≡◌, ◌∙◌, sym, ℕ, List, [], ◌∷◌, Bool, true, Option, Result, length}
use Rattle.std.proofs.Common.{ℤ, arith}
use Rattle.std.specs.Prelude.{pos, negsuc, neg_ℤ, if◌then◌else◌, nat_lt}
use Rattle.std.specs.FinMap.{contains_key}
use Rattle.std.specs.List.{filter, list_any}
use Rattle.std.specs.Option.{is_some}
use Rattle.std.specs.Str.{bytes_eq}
use Rattle.resp_value.specs.declared.value.Value.{Value}
use Rattle.command_words.specs.declared.command.Command.{Command}
use Rattle.command_words.specs.declared.command.Command.TheVariants as command
use Rattle.command_words.specs.declared.written.Written.{Written}
use Rattle.command_words.specs.declared.written.Written.TheVariants.{Keys}
use Rattle.command_words.specs.Space.{Content, Space, content_at, deadline_at}
use Rattle.command_words.specs.Effect.{Effect, replied, wrote, wrong_type}
use Rattle.command_words.specs.Effects.{effect, string_effect, hash_effect, key_effect}
use Rattle.command_words.specs.Hashes.{Pairs, on_fields, hincrby_row}
use Rattle.command_words.specs.Keys.{expiry_after, expiry_at, expire_effect}
use Rattle.command_words.specs.Laws.{signals}
use Rattle.command_words.specs.Queries.{written, names, keys_in_turn}
use Rattle.command_words.specs.Strings.{on_text, getdel_row, append_row, incrby_row, incrby_effect}
use Rattle.command_words.specs.Strings.{is_least, sets}
use Rattle.command_words.proofs.KeysOnce.{any_left, any_once}

pub record Only (written : Written) (e : Effect) : Type 0 where
  pub is : (k : List ℕ) → signals e.signalled k ≡ true → names written k ≡ true

module _ {w : Written} where
  none : {reply : Value} {space : Space} → Only w (replied reply space)
  none = record { is = λ k signalled. cc }

  either : (b : Bool) {x y : Effect} → Only w x → Only w y → Only w (if b then x else y)
  either b only rest = grind arith

  text : (content : Option Content) (space : Space) (row : Option (List ℕ) → Effect) →
      ((v : Option (List ℕ)) → Only w (row v)) →
      Only w (on_text (replied wrong_type space) row content)
  text content space row only = grind (arith, none)

  fields : (content : Option Content) (space : Space) (row : Pairs → Effect) →
      ((fs : Pairs) → Only w (row fs)) → Only w (on_fields (replied wrong_type space) row content)
  fields content space row only = grind (arith, none)

own : {keys : List (List ℕ)} {reply : Value} {space : Space} →
    Only (Keys keys) (wrote reply keys space)
own = record { is = λ k signalled. signalled }

getdel : (key : List ℕ) (v : Option (List ℕ)) (space : Space) →
    Only (Keys (key ∷ [])) (getdel_row key v space)
getdel key v space = grind (arith, none, own)

incr : (key : List ℕ) (sum : Result ℤ Value) (space : Space) →
    Only (Keys (key ∷ [])) (incrby_row key sum space)
incr key sum space = grind (arith, own, none)

append : (key value : List ℕ) (space : Space) →
    Only (Keys (key ∷ [])) (append_row key value space)
append key value space = either (nat_lt 16777216 (length value)) none own

incr_text : (key : List ℕ) (n : ℤ) (space : Space) →
    Only (Keys (key ∷ [])) (incrby_effect key n space)
incr_text key n space = grind (arith, text, incr)

hincr : (key field : List ℕ) (sum : Result ℤ Value) (fs : Pairs) (space : Space) →
    Only (Keys (key ∷ [])) (hincrby_row key field sum fs space)
hincr key field sum fs space = grind (arith, own, none)

expire : (key : List ℕ) (expiry : Option ℕ) (space : Space) →
    Only (Keys (key ∷ [])) (expire_effect key expiry space)
expire key expiry space = either (contains_key space key) own none

-- a key that is among some of the keys is among them
among : (p : List ℕ → Bool) (k : List ℕ) (keys : List (List ℕ)) →
    list_any (bytes_eq k) (filter p keys) ≡ true → list_any (bytes_eq k) keys ≡ true
among p k keys some = grind (arith, any_left)

pub signalled_only : (c : Command) (space : Space) (moment : ℕ) →
    Only (written c) (effect c space moment)
unfolding effect string_effect hash_effect key_effect
signalled_only (command.Set key value when life) space moment =
    either (sets when (contains_key space key)) own none
signalled_only (command.SetNx key value) space moment = either (contains_key space key) none own
signalled_only (command.GetDel key) space moment =
    text (content_at key space) space (λ v. getdel_row key v space) (λ v. getdel key v space)
signalled_only (command.Append key value) space moment = grind (arith, text)
signalled_only (command.Incr key) space moment = incr_text key (pos 1) space
signalled_only (command.Decr key) space moment = incr_text key (negsuc 0) space
signalled_only (command.IncrBy key n) space moment = incr_text key n space
signalled_only (command.DecrBy key n) space moment =
    either (is_least n) none (incr_text key (neg_ℤ n) space)
signalled_only (command.MSet words) space moment =
    record { is = λ k signalled. sym (any_once k (keys_in_turn words)) ∙ signalled }
signalled_only (command.HSet key words) space moment = grind (arith, fields, own)
signalled_only (command.HDel key names) space moment = grind (arith, fields, either, none, own)
signalled_only (command.HIncrBy key field n) space moment = grind (arith, fields, hincr)
signalled_only (command.Del keys) space moment =
    record {
      is = grind (arith, any_once, among);
    }
signalled_only (command.Rename a b) space moment =
    either (contains_key space a) (either (bytes_eq a b) none own) none
signalled_only (command.Expire key n) space moment = expire key (expiry_after moment 1000 n) space
signalled_only (command.PExpire key n) space moment = expire key (expiry_after moment 1 n) space
signalled_only (command.ExpireAt key n) space moment = expire key (expiry_at moment 1000 n) space
signalled_only (command.PExpireAt key n) space moment = expire key (expiry_at moment 1 n) space
signalled_only (command.Persist key) space moment =
    either (is_some (deadline_at key space)) own none
signalled_only (command.FlushAll mode) space moment = record { is = λ k signalled. signalled }
signalled_only (command.FlushDb mode) space moment = record { is = λ k signalled. signalled }
signalled_only _ space moment = none
