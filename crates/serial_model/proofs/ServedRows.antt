-- What is served, case by case, and what each row that is served does: it signals each key once,
-- and leaves each key that it does not signal.
use Rattle.std.proofs.Common.{◌≡◌, ◌∙◌, refl, sym, ap, ℕ, ℤ, List, [], ◌∷◌, Bool, true, false, cond}
use Rattle.std.proofs.Common.{Option, None, Some, Result, Ok, Err, length, map, ◌⊎◌, is_some, arith}
use Rattle.std.specs.Prelude.{pos, negsuc, neg_ℤ, nat_lt, ◌==◌, ◌++◌, ◌||◌, ◌&&◌, if◌then◌else◌}
use Rattle.std.specs.Prelude.{codes}
use Rattle.std.specs.FinMap.{get, insert, remove, contains_key, empty}
use Rattle.std.specs.Fmt.{signed_decimal}
use Rattle.std.specs.List.{filter, list_any}
use Rattle.std.specs.Option.{option_map_or}
use Rattle.std.specs.Str.{bytes_eq}
use Rattle.std.proofs.lemmas.Slice.Eq.{bytes_eq-Decides}
use Rattle.resp_value.specs.declared.value.Value.{Value}
use Rattle.resp_value.specs.declared.value.Value.TheVariants.{Error, Simple}
use Rattle.resp_value.specs.Tree.{in_turn}
use Rattle.command_words.specs.declared.command.Command.{Command}
use Rattle.command_words.specs.declared.command.Command.TheVariants as command
use Rattle.command_words.specs.declared.command.Signalled.{Signalled}
use Rattle.command_words.specs.declared.command.Signalled.TheVariants.{Keys, All}
use Rattle.command_words.specs.declared.command.WordFault.{WordFault}
use Rattle.command_words.specs.declared.command.WordFault.TheVariants.{Unknown}
use Rattle.command_words.specs.KeyLists.{each_once}
use Rattle.command_words.specs.Laws.{signals}
use Rattle.command_words.specs.Space.{Content, Text, Fields, Held, Space, content_at, held_at}
use Rattle.command_words.specs.Space.{deadline_at, changed_at}
use Rattle.command_words.specs.Effect.{Effect, replied, wrote, wrong_type, not_integer, number_in}
use Rattle.command_words.specs.Effect.{sum_in}
use Rattle.command_words.specs.Effects.{effect, string_effect, hash_effect, key_effect, read_reply}
use Rattle.command_words.specs.Effects.{answer_as, has_row}
use Rattle.command_words.specs.Words.{reading}
use Rattle.command_words.specs.Hashes.{Pairs, on_fields, put_fields, hset_row, hdel_row}
use Rattle.command_words.specs.Hashes.{hincrby_row, set_all, remove_all, field_sum, field_set}
use Rattle.command_words.specs.Keys.{there, remove_each, renamed, expiring, expire_effect}
use Rattle.command_words.specs.Keys.{expiry_after, expiry_at, rename_effect}
use Rattle.command_words.specs.Queries.{reads_as_cacheable, read}
use Rattle.command_words.specs.Strings.{on_text, getdel_row, append_row, incrby_row, put_all}
use Rattle.command_words.specs.Strings.{incrby_effect, is_least, or_empty, sets, put_text}
use Rattle.command_words.specs.Strings.{set_deadline}
use Rattle.command_words.proofs.HeldAt.{at_insert, at_remove, at_remove_each}
use Rattle.command_words.proofs.KeysOnce.{any_left, any_once, left_false, right_false}
use Rattle.track_modes.specs.ModeState.{ModeState, remembers_read}
use Rattle.track_modes.specs.Commands.{fault_at, spent_mode}
use Rattle.serial_model.specs.Modes.{Runner, Remembers, OwnEffect, own_effect, refused_effect}
use Rattle.serial_model.specs.Modes.{Stays, ending_of, is_barred, is_confined, is_quitting}
use Rattle.serial_model.specs.Modes.{is_stopping}
use Rattle.serial_model.specs.Tracking.{AreApart}
use Rattle.serial_model.specs.History.{served, served_reading, is_served, effect_of, made_of}
use Rattle.serial_model.specs.History.{ran_over, ending_in, is_quit}
use Rattle.serial_model.specs.Laws.{is_among, stops}

-- ---- what is served

-- what is served is a command of a connection alone, a data command, or a fault
module _ (P : Result Command WordFault → Type 0)
    (own_command : (c : Command) → is_served c ≡ true → has_row c ≡ false → P (Ok c))
    (data_command : (c : Command) → has_row c ≡ true → P (Ok c))
    (fault : (f : WordFault) → P (Err f)) where
  of_command : (c : Command) (row : Bool) → has_row c ≡ row → is_served c ≡ true → P (Ok c)
  of_command c true e is = data_command c e
  of_command c false e is = own_command c is e

  by_serving : (c : Command) (b : Bool) → is_served c ≡ b
      → P (if b then Ok c else Err Unknown)
  by_serving c true is = of_command c (has_row c) refl is
  by_serving c false is = fault Unknown

  pub served_cases : (r : Result Command WordFault) → P (served r)
  served_cases (Ok c) = by_serving c (is_served c) refl
  served_cases (Err f) = fault f

pub row_served : (c : Command) → has_row c ≡ true → is_served c ≡ true
row_served c h = grind arith

-- words that are served as a cacheable query are those that are read
pub served_is : (r : Result Command WordFault) → reads_as_cacheable (served r) ≡ true
    → served r ≡ r
served_is r h = grind arith

module _ (by : Runner) (words : List (List ℕ)) where
  pub data_effect : (c : Command) (s : Space) (moment : ℕ) → has_row c ≡ true
      → effect_of by words (Ok c) s moment ≡ effect c s moment
  data_effect c s moment h = grind arith

  -- a command of a connection alone is answered, and nothing changes
  pub own_replied : (c : Command) (s : Space) (moment : ℕ) → is_served c ≡ true
      → has_row c ≡ false
      → effect_of by words (Ok c) s moment
      ≡ replied (effect_of by words (Ok c) s moment).reply s
  own_replied c s moment is none = grind arith

  -- a cacheable query is answered, and nothing changes
  pub query_effect : (r : Result Command WordFault) (s : Space) (moment : ℕ)
      → reads_as_cacheable r ≡ true → effect_of by words r s moment ≡ replied (answer_as r s) s
  unfolding effect string_effect hash_effect key_effect read_reply
  query_effect r s moment h = grind arith

-- ---- what the mode allows

abbrev pub barred_error : Value
barred_error = Error (codes "ERR not allowed while subscribed")

module _ (by : Runner) (words : List (List ℕ)) where
  -- what words do and make is that of the command that is served, or the mode bars it
  pub ran_cases : (P : Effect → OwnEffect → Type 0) (s : Space) (moment : ℕ)
      → P (effect_of by words (served_reading words) s moment)
      (own_effect (served_reading words) by)
      → P (replied barred_error s) (refused_effect by.mode)
      → P (ran_over s by words moment) (made_of words by)
  unfolding ran_over made_of
  ran_cases P s moment allowed barred =
      elim (is_barred by.mode (served_reading words)) as (λ b. P
      (cond b (replied barred_error s) (effect_of by words (served_reading words) s moment))
      (cond b (refused_effect by.mode) (own_effect (served_reading words) by))) [
        | true ↦ barred
        | false ↦ allowed
      ]

-- a mode that is not confined bars nothing
pub none_barred : (m : ModeState) (r : Result Command WordFault) → is_confined m ≡ false
    → is_barred m r ≡ false
none_barred m r free = grind arith

-- data commands alone read keys
pub read_none : (c : Command) → has_row c ≡ false → read c ≡ []
read_none c none = grind arith

-- a data command ends what CLIENT CACHING said, and its connection remembers what it read
pub data_own : (c : Command) (by : Runner) → has_row c ≡ true
    → own_effect (Ok c) by
    ≡ record {
      mode = spent_mode by.mode;
      memory = Remembers (if remembers_read by.mode then read c else []);
    }
unfolding fault_at
data_own c by h = grind arith

-- ---- how connections end

quitting : (m : ModeState) (r : Result Command WordFault)
    → is_quitting (ending_in m r) ≡ is_quitting (ending_of r)
quitting m r = grind arith

stopping : (m : ModeState) (r : Result Command WordFault)
    → is_stopping (ending_in m (served r)) ≡ stops r m
stopping m r = grind arith

module _ (m : ModeState) (words : List (List ℕ)) where
  -- every mode allows QUIT
  pub quit_in : is_quitting (ending_in m (served_reading words)) ≡ is_quit words
  quit_in = quitting m (served_reading words)

  -- the words stop the server where they are a SHUTDOWN that the mode allows
  pub stop_in : is_stopping (ending_in m (served_reading words)) ≡ stops (reading words) m
  stop_in = stopping m (reading words)

-- a data command ends no connection
pub data_stays : (m : ModeState) (c : Command) → has_row c ≡ true → ending_in m (Ok c) ≡ Stays
data_stays m c row = grind arith

pub query_stays : (m : ModeState) (r : Result Command WordFault) → reads_as_cacheable r ≡ true
    → ending_in m r ≡ Stays
query_stays m r cacheable = grind arith

-- ---- what a row does

-- the keys that are signalled by name
abbrev pub signalled_keys : Signalled → List (List ℕ)
signalled_keys (Keys keys) = keys
signalled_keys All = []

pub record Row (s : Space) (e : Effect) : Type 0 where
  pub apart : AreApart (signalled_keys e.signalled)
  pub others_stay : (q : List ℕ) → signals e.signalled q ≡ false → held_at q e.space ≡ held_at q s

module _ {s : Space} where
  none : {reply : Value} → Row s (replied reply s)
  none = record { apart = tt; others_stay = λ q apart. refl }

  either : (b : Bool) {x y : Effect} → Row s x → Row s y → Row s (if b then x else y)
  either b one other = grind arith

  text : (content : Option Content) (rows : Option (List ℕ) → Effect)
      → ((v : Option (List ℕ)) → Row s (rows v))
      → Row s (on_text (replied wrong_type s) rows content)
  text content rows all = grind (arith, none)

  fields : (content : Option Content) (rows : Pairs → Effect)
      → ((fs : Pairs) → Row s (rows fs))
      → Row s (on_fields (replied wrong_type s) rows content)
  fields content rows all = grind (arith, none)

module _ (s : Space) (k : List ℕ) where
  put_other : (held : Held) (q : List ℕ) → bytes_eq q k ≡ false
      → held_at q (insert s k held) ≡ held_at q s
  put_other held q apart = grind (arith, at_insert)

  -- one key is put
  put : {reply : Value} (held : Held) → Row s (wrote reply (k ∷ []) (insert s k held))
  put held = grind (arith, put_other, left_false)

  -- one key goes
  gone : {reply : Value} → Row s (wrote reply (k ∷ []) (remove s k))
  gone = grind (arith, at_remove, left_false)

  -- what one key holds is changed, if it is there
  change : {reply : Value} (f : Held → Held) → Row s (wrote reply (k ∷ []) (changed_at k f s))
  change {reply} f =
      elim (get s k) as (λ h. Row s (wrote reply (k ∷ [])
      (option_map_or (λ held. insert s k (f held)) h s))) [
        | None ↦ record { apart = (refl, tt); others_stay = λ q apart. refl }
        | Some held ↦ put (f held)
      ]

  put_hash : {reply : Value} (fs : Pairs) → Row s (wrote reply (k ∷ []) (put_fields k fs s))
  put_hash [] = gone
  put_hash (f ∷ fs) = put (record { content = Fields (f ∷ fs); deadline = deadline_at k s })

-- a key that passes a test and is none of those that pass it is none of them all
passed : (p : List ℕ → Bool) (q : List ℕ) (keys : List (List ℕ)) → p q ≡ true
    → is_among (filter p keys) q ≡ false → is_among keys q ≡ false
passed p q keys is h = grind (arith, any_left)

module _ (q : List ℕ) where
  -- a key that is none of those met first is none of them
  none_of : (keys : List (List ℕ)) → is_among (each_once keys) q ≡ false → is_among keys q ≡ false
  none_of keys h = sym (any_once q keys) ∙ h

  puts_other : (ps : List (List ℕ × List ℕ)) (s : Space)
      → list_any (bytes_eq q) (map (λ p. p.0) ps) ≡ false
      → held_at q (put_all ps s) ≡ held_at q s
  puts_other [] s h = refl
  puts_other (p ∷ ps) s h =
      puts_other ps (put_text p.0 p.1 None s) (right_false (bytes_eq q p.0) _ h)
      ∙ put_other s p.0 (record { content = Text p.1; deadline = None }) q
      (left_false (bytes_eq q p.0) _ h)

-- and each of those met first is there once
and_false : (b : Bool) → (b && false) ≡ false
and_false b = grind arith

apart_still : (p : List ℕ → Bool) (keys : List (List ℕ)) → AreApart keys → AreApart (filter p keys)
apart_still p [] h = tt
apart_still p (x ∷ keys) h = grind (arith, any_left, and_false, apart_still p keys h.1)

once_apart : (keys : List (List ℕ)) → AreApart (each_once keys)
once_apart [] = tt
once_apart (k ∷ keys) = grind (arith, any_left, bytes_eq-Decides, apart_still, once_apart keys)

-- keys go
del : {reply : Value} (keys : List (List ℕ)) (s : Space)
    → Row s (wrote reply (there keys s) (remove_each keys s))
del keys s = record {
  apart = apart_still (contains_key s) (each_once keys) (once_apart keys);
  others_stay = λ q apart. at_remove_each keys s q ∙ others q apart (held_at q s) refl;
}
  where
    missing : (b : Bool) (h : Option Held) → h ≡ None → cond b None h ≡ h
    missing b h e = grind arith

    others : (q : List ℕ) → is_among (there keys s) q ≡ false → (h : Option Held)
        → held_at q s ≡ h → cond (is_among keys q) None h ≡ h
    others q apart h e = grind (arith, missing, none_of, passed, is_some)

rename : {reply : Value} (a b : List ℕ) (s : Space) → bytes_eq a b ≡ false
    → Row s (wrote reply (a ∷ b ∷ []) (renamed a b s))
rename {reply} a b s other = record {
  apart = (ap (λ x. x || false) other, (refl, tt));
  others_stay = λ q apart. moved q (left_false (bytes_eq q a) _ apart)
      (left_false (bytes_eq q b) false (right_false (bytes_eq q a) _ apart)) (held_at a s);
}
  where
    moved : (q : List ℕ) → bytes_eq q a ≡ false → bytes_eq q b ≡ false → (h : Option Held)
        → held_at q (option_map_or (λ held. insert (remove s a) b held) h s) ≡ held_at q s
    moved q not_a not_b h = grind (arith, put_other, at_remove)

renames : (a b : List ℕ) (s : Space) → Row s (rename_effect a b s)
renames a b s =
    either (contains_key s a)
    (elim (bytes_eq a b) as (λ x. bytes_eq a b ≡ x
    → Row s (cond x (replied (Simple (codes "OK")) s)
    (wrote (Simple (codes "OK")) (a ∷ b ∷ []) (renamed a b s)))) [
      | true ↦ λ e. none
      | false ↦ λ e. rename a b s e
    ] refl)
    none

expire_to : {reply : Value} (key : List ℕ) (expiry : Option ℕ) (s : Space)
    → Row s (wrote reply (key ∷ []) (expiring key expiry s))
expire_to key None s = gone s key
expire_to key (Some deadline) s =
    change s key (λ held. record held { deadline = Some deadline })

expires : (key : List ℕ) (expiry : Option ℕ) (s : Space) → Row s (expire_effect key expiry s)
expires key expiry s = either (contains_key s key) (expire_to key expiry s) none

-- all keys go
flushed : {reply : Value} (s : Space)
    → Row s (record { space = empty; reply = reply; signalled = All })
flushed s = record { apart = tt; others_stay = λ q apart. absurd (let no : ⊥ = cc in no) }

-- keys are put in turn
puts : {reply : Value} (ps : List (List ℕ × List ℕ)) (s : Space)
    → Row s (wrote reply (each_once (map (λ p. p.0) ps)) (put_all ps s))
puts ps s = record {
  apart = once_apart (map (λ p. p.0) ps);
  others_stay = λ q apart. puts_other q ps s (none_of q (map (λ p. p.0) ps) apart);
}

getdel : (key : List ℕ) (v : Option (List ℕ)) (s : Space) → Row s (getdel_row key v s)
getdel key None s = none
getdel key (Some v) s = gone s key

incr : (key : List ℕ) (sum : Result ℤ Value) (s : Space) → Row s (incrby_row key sum s)
incr key (Ok n) s =
    put s key (record { content = Text (signed_decimal n); deadline = deadline_at key s })
incr key (Err error) s = none

incr_text : (key : List ℕ) (n : ℤ) (s : Space) → Row s (incrby_effect key n s)
incr_text key n s =
    text (content_at key s) (λ v. incrby_row key (sum_in not_integer (number_in v) n) s)
    (λ v. incr key (sum_in not_integer (number_in v) n) s)

append : (key value : List ℕ) (s : Space) → Row s (append_row key value s)
append key value s =
    either (nat_lt 16777216 (length value)) none
    (put s key (record { content = Text value; deadline = deadline_at key s }))

hincr : (key field : List ℕ) (sum : Result ℤ Value) (fs : Pairs) (s : Space)
    → Row s (hincrby_row key field sum fs s)
hincr key field (Ok n) fs s = put_hash s key (field_set field (signed_decimal n) fs)
hincr key field (Err error) fs s = none

pub row_of : (c : Command) (s : Space) (moment : ℕ) → has_row c ≡ true → Row s (effect c s moment)
unfolding effect string_effect hash_effect key_effect
row_of (command.Get key) s moment h = none
row_of (command.Set key value when life) s moment h =
    either (sets when (contains_key s key))
    (put s key
    (record { content = Text value; deadline = set_deadline life moment (deadline_at key s) }))
    none
row_of (command.SetNx key value) s moment h =
    either (contains_key s key) none
    (put s key (record { content = Text value; deadline = None }))
row_of (command.GetDel key) s moment h =
    text (content_at key s) (λ v. getdel_row key v s) (λ v. getdel key v s)
row_of (command.Append key value) s moment h =
    text (content_at key s) (λ v. append_row key (or_empty v ++ value) s)
    (λ v. append key (or_empty v ++ value) s)
row_of (command.StrLen key) s moment h = none
row_of (command.GetRange key a b) s moment h = none
row_of (command.Incr key) s moment h = incr_text key (pos 1) s
row_of (command.Decr key) s moment h = incr_text key (negsuc 0) s
row_of (command.IncrBy key n) s moment h = incr_text key n s
row_of (command.DecrBy key n) s moment h =
    either (is_least n) none (incr_text key (neg_ℤ n) s)
row_of (command.MGet keys) s moment h = none
row_of (command.MSet words) s moment h = puts (in_turn words) s
row_of (command.HSet key words) s moment h =
    fields (content_at key s) (λ fs. hset_row key fs (set_all (in_turn words) fs) s)
    (λ fs. put_hash s key (set_all (in_turn words) fs))
row_of (command.HGet key field) s moment h = none
row_of (command.HMGet key names) s moment h = none
row_of (command.HGetAll key) s moment h = none
row_of (command.HDel key names) s moment h =
    fields (content_at key s) (λ fs. hdel_row key fs (remove_all names fs) s)
    (λ fs. either (length fs == length (remove_all names fs)) none
    (put_hash s key (remove_all names fs)))
row_of (command.HLen key) s moment h = none
row_of (command.HExists key field) s moment h = none
row_of (command.HKeys key) s moment h = none
row_of (command.HVals key) s moment h = none
row_of (command.HIncrBy key field n) s moment h =
    fields (content_at key s) (λ fs. hincrby_row key field (field_sum field n fs) fs s)
    (λ fs. hincr key field (field_sum field n fs) fs s)
row_of (command.Del keys) s moment h = del keys s
row_of (command.Exists keys) s moment h = none
row_of (command.KeyType key) s moment h = none
row_of (command.Rename a b) s moment h = renames a b s
row_of (command.Expire key n) s moment h = expires key (expiry_after moment 1000 n) s
row_of (command.PExpire key n) s moment h = expires key (expiry_after moment 1 n) s
row_of (command.ExpireAt key n) s moment h = expires key (expiry_at moment 1000 n) s
row_of (command.PExpireAt key n) s moment h = expires key (expiry_at moment 1 n) s
row_of (command.Ttl key) s moment h = none
row_of (command.PTtl key) s moment h = none
row_of (command.Persist key) s moment h =
    either (is_some (deadline_at key s))
    (change s key (λ held. record held { deadline = None })) none
row_of command.DbSize s moment h = none
row_of (command.FlushAll mode) s moment h = flushed s
row_of (command.FlushDb mode) s moment h = flushed s
row_of _ s moment h = absurd (let no : ⊥ = cc in no)

-- a command that signals keys reads none
pub reads_or_writes : (c : Command) (s : Space) (moment : ℕ) → has_row c ≡ true
    → ((effect c s moment).signalled ≡ Keys []) ⊎ (read c ≡ [])
unfolding effect string_effect hash_effect key_effect
reads_or_writes c s moment h = grind arith
