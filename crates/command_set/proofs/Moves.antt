-- What each row changes: the keys that its command writes alone, and a deadline is one that the key
-- had or the one that the command gives.
use Rattle.std.proofs.Common.{arith, ◌≡◌, ◌∙◌, refl, sym, ap, subst, ℕ, ℤ, List, [], ◌∷◌, Bool}
use Rattle.std.proofs.Common.{true, false, Option, None, Some, Result, Ok, Err, map, cond, inl, inr}
use Rattle.std.specs.Prelude.{pos, negsuc, neg_ℤ, is_some, ◌||◌, if◌then◌else◌}
use Rattle.std.specs.FinMap.{get, insert, remove, empty, contains_key}
use Rattle.std.specs.FinMap.{get-insert, get-remove, get-empty}
use Rattle.std.specs.Cmp.Lexicographic.{slice_cmp, nat_list_cmp_total, texts_ties}
use Rattle.std.specs.Ordering.{nat_cmp}
use Rattle.std.specs.Option.{option_and_then, option_map_or}
use Rattle.std.specs.Fmt.{signed_decimal}
use Rattle.std.specs.Str.{bytes_eq}
use Rattle.std.proofs.lemmas.Slice.Eq.{bytes_eq-Decides}
use Rattle.resp_value.specs.declared.value.Value.{Value}
use Rattle.resp_value.specs.Tree.{in_turn}
use Rattle.command_words.specs.declared.command.Command.{Command}
use Rattle.command_words.specs.declared.command.Command.TheVariants as command
use Rattle.command_words.specs.declared.written.Written.{Written}
use Rattle.command_words.specs.declared.written.Written.TheVariants.{Keys, All}
use Rattle.command_words.specs.Space.{Content, Text, Held, Space, content_at}
use Rattle.command_words.specs.Space.{deadline_at, with_deadline}
use Rattle.command_words.specs.Effect.{Effect, replied, wrong_type, not_integer, number_in, sum_in}
use Rattle.command_words.specs.Effects.{effect, string_effect, hash_effect, key_effect}
use Rattle.command_words.specs.Hashes.{Pairs, on_fields, put_fields, hset_row}
use Rattle.command_words.specs.Hashes.{hincrby_row, set_all, field_sum}
use Rattle.command_words.specs.Keys.{remove_each, renamed, expiring, expire_effect}
use Rattle.command_words.specs.Keys.{expiry_after, expiry_at}
use Rattle.command_words.specs.Queries.{written, names}
use Rattle.command_words.specs.Strings.{on_text, getdel_row, incrby_row, put_all}
use Rattle.command_words.specs.Strings.{incrby_effect, is_least, sets, put_text}
use Rattle.expiry.specs.declared.index.Deadline.{Deadline}
use Rattle.command_set.specs.Laws.{Moves, Source}
use Rattle.command_set.specs.NewDeadlines.{deadline, new_deadline}

abbrev life : Option Held → Option ℕ
life held = option_and_then (λ h. h.deadline) held

pub at_insert : (s : Space) (k : List ℕ) (held : Held) (q : List ℕ)
    → get (insert s k held) q ≡ cond (bytes_eq q k) (Some held) (get s q)
at_insert s k held q =
    get-insert nat_list_cmp_total s k held q
    ∙ ap (λ b. cond b (Some held) (get s q)) (sym (texts_ties q k))

pub at_remove : (s : Space) (k q : List ℕ)
    → get (remove s k) q ≡ cond (bytes_eq q k) None (get s q)
at_remove s k q =
    get-remove nat_list_cmp_total s k q
    ∙ ap (λ b. cond b None (get s q)) (sym (texts_ties q k))

pub left_false : (b c : Bool) → (b || c) ≡ false → b ≡ false
left_false b c e = grind arith

pub right_false : (b c : Bool) → (b || c) ≡ false → c ≡ false
right_false b c e = grind arith

pub same : {w : Written} {new : Option Deadline} {s : Space} → Moves w new s s
same = record { stays = λ q _. refl; from = λ q at e. inl e }

-- what a row leaves
pub record Row (w : Written) (new : Option Deadline) (s : Space) (e : Effect) : Type 0 where
  pub moves : Moves w new s e.space

row : {w : Written} {new : Option Deadline} {s : Space} {e : Effect} → Moves w new s e.space
    → Row w new s e
row m = record { moves = m }

module _ {w : Written} {new : Option Deadline} {s : Space} where
  either : (b : Bool) {x y : Effect} → Row w new s x → Row w new s y
      → Row w new s (if b then x else y)
  either b one other = grind arith

  text : (content : Option Content) (rows : Option (List ℕ) → Effect)
      → ((v : Option (List ℕ)) → Row w new s (rows v))
      → Row w new s (on_text (replied wrong_type s) rows content)
  text content rows all = grind (arith, row, same)

  fields : (content : Option Content) (rows : Pairs → Effect)
      → ((fs : Pairs) → Row w new s (rows fs))
      → Row w new s (on_fields (replied wrong_type s) rows content)
  fields content rows all = grind (arith, row, same)

module _ {new : Option Deadline} (s : Space) (k : List ℕ) where
  -- one key is put
  pub put : (held : Held) → ((at : ℕ) → held.deadline ≡ Some at → Source new s k at)
      → Moves (Keys (k ∷ [])) new s (insert s k held)
  put held source = record {
    stays = λ q other. at_insert s k held q
        ∙ ap (λ b. cond b (Some held) (get s q)) (left_false (bytes_eq q k) false other);
    from = λ q at e. by q at e (bytes_eq q k) refl;
  }
    where
      by : (q : List ℕ) (at : ℕ) → deadline_at q (insert s k held) ≡ Some at → (b : Bool)
          → bytes_eq q k ≡ b → Source new s q at
      by q at e true is =
          subst (λ z. Source new s z at) (sym ((bytes_eq-Decides q k).0 is))
          (source at (sym (ap life (at_insert s k held q
          ∙ ap (λ b. cond b (Some held) (get s q)) is)) ∙ e))
      by q at e false is =
          inl (sym (ap life (at_insert s k held q
          ∙ ap (λ b. cond b (Some held) (get s q)) is)) ∙ e)

  -- one key goes
  pub gone : Moves (Keys (k ∷ [])) new s (remove s k)
  gone = record {
    stays = λ q other. at_remove s k q
        ∙ ap (λ b. cond b None (get s q)) (left_false (bytes_eq q k) false other);
    from = λ q at e. by q at e (bytes_eq q k) refl;
  }
    where
      by : (q : List ℕ) (at : ℕ) → deadline_at q (remove s k) ≡ Some at → (b : Bool)
          → bytes_eq q k ≡ b → Source new s q at
      by q at e true is =
          absurd (let no : None ≡ Some at =
          sym (ap life (at_remove s k q ∙ ap (λ b. cond b None (get s q)) is)) ∙ e in cc)
      by q at e false is =
          inl (sym (ap life (at_remove s k q ∙ ap (λ b. cond b None (get s q)) is)) ∙ e)

  -- a key that keeps its deadline
  kept : (content : Content)
      → Moves (Keys (k ∷ [])) new s
      (insert s k (record { content = content; deadline = deadline_at k s }))
  kept content = put (record { content = content; deadline = deadline_at k s }) (λ at e. inl e)

  -- a key without a deadline
  plain : (content : Content)
      → Moves (Keys (k ∷ [])) new s (insert s k (record { content = content; deadline = None }))
  plain content = put (record { content = content; deadline = None }) (λ at e. absurd cc)

  put_hash : (fs : Pairs) → Moves (Keys (k ∷ [])) new s (put_fields k fs s)
  put_hash fs = grind (arith, gone, kept)

-- a key changes, and then others do
follows : {new : Option Deadline} {s t u : Space} {k : List ℕ} {ks : List (List ℕ)}
    → Moves (Keys (k ∷ [])) new s t → Moves (Keys ks) new t u → Moves (Keys (k ∷ ks)) new s u
follows {new = new} {s = s} {t = t} {k = k} first next = record {
  stays = λ q other.
      next.stays q (right_false (bytes_eq q k) _ other)
      ∙ first.stays q (ap (λ b. b || false) (left_false (bytes_eq q k) _ other));
  from = λ q at e. by q at (next.from q at e);
}
  where
    by : (q : List ℕ) (at : ℕ) → Source new t q at → Source new s q at
    by q at (inl e) = first.from q at e
    by q at (inr e) = inr e

put_each : {new : Option Deadline} (ps : List (List ℕ × List ℕ)) (s : Space)
    → Moves (Keys (map (λ p. p.0) ps)) new s (put_all ps s)
put_each [] s = same
put_each (p ∷ ps) s = follows (plain s p.0 (Text p.1)) (put_each ps (put_text p.0 p.1 None s))

gone_each : {new : Option Deadline} (ks : List (List ℕ)) (s : Space)
    → Moves (Keys ks) new s (remove_each ks s)
gone_each [] s = same
gone_each (k ∷ ks) s = follows (gone s k) (gone_each ks (remove s k))

getdel : {new : Option Deadline} (key : List ℕ) (v : Option (List ℕ)) (s : Space)
    → Row (Keys (key ∷ [])) new s (getdel_row key v s)
getdel key None s = row same
getdel key (Some v) s = row (gone s key)

incr : {new : Option Deadline} (key : List ℕ) (sum : Result ℤ Value) (s : Space)
    → Row (Keys (key ∷ [])) new s (incrby_row key sum s)
incr key (Ok n) s = row (kept s key (Text (signed_decimal n)))
incr key (Err error) s = row same

incr_text : {new : Option Deadline} (key : List ℕ) (n : ℤ) (s : Space)
    → Row (Keys (key ∷ [])) new s (incrby_effect key n s)
incr_text key n s =
    text (content_at key s) (λ v. incrby_row key (sum_in not_integer (number_in v) n) s)
    (λ v. incr key (sum_in not_integer (number_in v) n) s)

hincr : {new : Option Deadline} (key field : List ℕ) (sum : Result ℤ Value) (fs : Pairs)
    (s : Space) → Row (Keys (key ∷ [])) new s (hincrby_row key field sum fs s)
hincr key field sum fs s = grind (arith, row, put_hash, same)

-- a key takes a deadline, or loses it
lives : {new : Option Deadline} (key : List ℕ) (until : Option ℕ) (s : Space)
    → ((at : ℕ) → until ≡ Some at → Source new s key at)
    → Moves (Keys (key ∷ [])) new s (with_deadline key until s)
lives {new = new} key until s source = grind (arith, same, put)

expires : (key : List ℕ) (expiry : Option ℕ) (s : Space)
    → Moves (Keys (key ∷ [])) (deadline key expiry) s (expiring key expiry s)
expires key None s = gone s key
expires key (Some until) s = lives key (Some until) s (λ at e. inr (ap (deadline key) e))

expire : (key : List ℕ) (expiry : Option ℕ) (s : Space)
    → Row (Keys (key ∷ [])) (deadline key expiry) s (expire_effect key expiry s)
expire key expiry s = either (contains_key s key) (row (expires key expiry s)) (row same)

pub move : (a b : List ℕ) (s : Space)
    → Moves (Keys (a ∷ b ∷ [])) (deadline b (deadline_at a s)) s (renamed a b s)
move a b s = by (get s a) refl
  where
    by : (r : Option Held) → get s a ≡ r
        → Moves (Keys (a ∷ b ∷ [])) (deadline b (deadline_at a s)) s
        (option_map_or (λ held. insert (remove s a) b held) r s)
    by None is = same
    by (Some held) is =
        follows (gone s a)
        (put (remove s a) b held (λ at e. inr (ap (deadline b) (ap life is ∙ e))))

flushed : {new : Option Deadline} (s : Space) → Moves All new s empty
flushed {new = new} s = record {
  stays = λ q other. absurd (let no : true ≡ false = other in cc);
  from = λ q at e. absurd (let no : None ≡ Some at =
      sym (ap life (get-empty (slice_cmp nat_cmp) q)) ∙ e in cc);
}

row_of : (c : Command) (s : Space) (moment : ℕ)
    → Row (written c) (new_deadline c s moment) s (effect c s moment)
unfolding effect string_effect hash_effect key_effect new_deadline
row_of (command.Set key value when had) s moment =
    either (sets when (contains_key s key))
    (grind (arith, row, put)) (row same)
row_of (command.SetNx key value) s moment =
    either (contains_key s key) (row same) (row (plain s key (Text value)))
row_of (command.GetDel key) s moment =
    text (content_at key s) (λ v. getdel_row key v s) (λ v. getdel key v s)
row_of (command.Append key value) s moment = grind (arith, text, either, row, same, kept)
row_of (command.Incr key) s moment = incr_text key (pos 1) s
row_of (command.Decr key) s moment = incr_text key (negsuc 0) s
row_of (command.IncrBy key n) s moment = incr_text key n s
row_of (command.DecrBy key n) s moment =
    either (is_least n) (row same) (incr_text key (neg_ℤ n) s)
row_of (command.MSet words) s moment = row (put_each (in_turn words) s)
row_of (command.HSet key words) s moment =
    fields (content_at key s) (λ fs. hset_row key fs (set_all (in_turn words) fs) s)
    (λ fs. row (put_hash s key (set_all (in_turn words) fs)))
row_of (command.HDel key names) s moment = grind (arith, fields, either, row, same, put_hash)
row_of (command.HIncrBy key field n) s moment =
    fields (content_at key s) (λ fs. hincrby_row key field (field_sum field n fs) fs s)
    (λ fs. hincr key field (field_sum field n fs) fs s)
row_of (command.Del keys) s moment = row (gone_each keys s)
row_of (command.Rename a b) s moment =
    either (contains_key s a) (either (bytes_eq a b) (row same) (row (move a b s))) (row same)
row_of (command.Expire key n) s moment = expire key (expiry_after moment 1000 n) s
row_of (command.PExpire key n) s moment = expire key (expiry_after moment 1 n) s
row_of (command.ExpireAt key n) s moment = expire key (expiry_at moment 1000 n) s
row_of (command.PExpireAt key n) s moment = expire key (expiry_at moment 1 n) s
row_of (command.Persist key) s moment =
    either (is_some (deadline_at key s)) (row (lives key None s (λ at e. absurd cc))) (row same)
row_of (command.FlushAll mode) s moment = row (flushed s)
row_of (command.FlushDb mode) s moment = row (flushed s)
row_of _ s moment = row same

pub row_moves : (c : Command) (s : Space) (moment : ℕ)
    → Moves (written c) (new_deadline c s moment) s ((effect c s moment).space)
row_moves c s moment = (row_of c s moment).moves

-- a command that writes all keys leaves none
pub all_gone : (c : Command) (s : Space) (moment : ℕ) → written c ≡ All
    → (effect c s moment).space ≡ empty
unfolding effect string_effect hash_effect key_effect
all_gone c s moment e = grind arith

-- a flush looks at no key
pub same_flush : (c : Command) (s t : Space) (moment : ℕ) → written c ≡ All
    → effect c s moment ≡ effect c t moment
unfolding effect string_effect hash_effect key_effect
same_flush c s t moment e = grind arith
