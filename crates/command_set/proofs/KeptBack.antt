-- What a command kept leads back from the keyspace that it leaves.
use Rattle.std.proofs.Common.{◌≡◌, ◌∙◌, refl, sym, ap, ℕ, ℤ, List, [], ◌∷◌, ◌++◌, Bool}
use Rattle.std.proofs.Common.{true, false, cond, map, take, length}
use Rattle.std.proofs.Common.{Option, None, Some, Result, Ok, Err}
use Rattle.std.specs.Prelude.{◌||◌, ◌&&◌, is_some, nat_lt, not, pos, codes}
use Rattle.std.specs.FinMap.{get, insert, contains_key}
use Rattle.std.specs.Fmt.{signed_decimal}
use Rattle.std.specs.Option.{option_map, option_and_then}
use Rattle.std.specs.Str.{bytes_eq}
use Rattle.std.proofs.lemmas.Slice.Eq.{bytes_eq-Decides}
use Rattle.resp_value.specs.declared.value.Value.{Value}
use Rattle.resp_value.specs.declared.value.Value.TheVariants.{Number, Null, Simple}
use Rattle.resp_value.specs.Tree.{in_turn}
use Rattle.command_words.specs.declared.command.Command.{Command}
use Rattle.command_words.specs.declared.command.Command.TheVariants as command
use Rattle.command_words.specs.declared.command.SetWhen.TheVariants.{Always, Nx, Xx}
use Rattle.command_words.specs.declared.written.Written.TheVariants.{Keys}
use Rattle.command_words.specs.Effect.{Effect, replied, wrote, wrong_type, no_such_key}
use Rattle.command_words.specs.Effects.{effect, string_effect, hash_effect, key_effect}
use Rattle.command_words.specs.Hashes.{Pairs, field_get, field_set, on_fields}
use Rattle.command_words.specs.Hashes.{put_fields, hset_row, hincrby_row, field_sum}
use Rattle.command_words.specs.Hashes.{hincrby_effect, set_all}
use Rattle.command_words.specs.Keys.{expire_effect, expiry_after, expiry_at, persist_effect}
use Rattle.command_words.specs.Queries.{written, names}
use Rattle.command_words.specs.Space.{Content, Text, Fields, Held, Space, content_at, deadline_at}
use Rattle.command_words.specs.Space.{with_deadline}
use Rattle.command_words.specs.Strings.{on_text, append_row, or_empty, put_text}
use Rattle.hash_cmds.specs.declared.numbers.FieldChange.{FieldChange}
use Rattle.hash_cmds.specs.declared.numbers.FieldChange.TheVariants as change
use Rattle.hash_cmds.specs.Counted.{IsChange}
use Rattle.command_set.specs.Aside.{writes_over}
use Rattle.command_set.specs.Kept.{kept, new_kept, hash_kept, named_kept, text_kept, expiry_kept}
use Rattle.command_set.specs.Kept.{life_kept}
use Rattle.command_set.specs.Moving.{field_changed}
use Rattle.command_set.specs.Priors.{Kept, Priors, Whole, Life, Size, Field, again, field_back}
use Rattle.command_set.specs.Priors.{put_back, what_held}
use Rattle.command_set.proofs.FieldsBack.{named_back, fields_back, back_same}
use Rattle.command_set.proofs.Moves.{at_insert, row_moves}
use Rattle.command_set.proofs.TakenBack.{alike, get_again, get_changed, held_again, wholes_back}
use Rattle.command_set.proofs.TakenBack.{IsOwn}

its_own : (key : List ℕ) → bytes_eq key key ≡ true
its_own key = (bytes_eq-Decides key key).1 refl

-- from a keyspace where one key alone is other than it was
module _ (key : List ℕ) (s t : Space)
    (others : (q : List ℕ) → bytes_eq q key ≡ false → get t q ≡ get s q) where
  pub one_back : (k : Kept) → IsOwn k → held_again k (get t key) ≡ get s key
      → put_back ((key, k) ∷ []) t ≡ s
  one_back k own is =
      alike _ _ (λ q. get_again key k own t q
      ∙ (ap (λ r. cond (bytes_eq q key) r (get t q)) is ∙ by q (bytes_eq q key) refl))
    where
      by : (q : List ℕ) (b : Bool) → bytes_eq q key ≡ b → cond b (get s key) (get t q) ≡ get s q
      by q true e = ap (get s) (sym ((bytes_eq-Decides q key).0 e))
      by q false e = others q e

  pub whole_back : put_back (what_held (key ∷ []) s) t ≡ s
  whole_back = one_back (Whole (get s key)) tt refl

-- one of two rows
choose : (x y : Effect) (key : List ℕ) (k : Kept) (r : Option Held) (b : Bool)
    → held_again k (get x.space key) ≡ r → held_again k (get y.space key) ≡ r
    → held_again k (get ((cond b x y).space) key) ≡ r
choose x y key k r true one other = one
choose x y key k r false one other = other

-- ---- a hash

abbrev hash : Pairs → Option ℕ → Held
hash fs d = record { content = Fields fs; deadline = d }

-- the fields of these names are as they were
-- what a key holds that has this content
content_held : (r : Option Held) (c : Content) → option_map (λ h. h.content) r ≡ Some c
    → r ≡ Some (record { content = c; deadline = option_and_then (λ h. h.deadline) r })
content_held None c e = absurd cc
content_held (Some h) c e =
    ap (λ x. Some (record { content = x; deadline = h.deadline }))
    (let one : h.content ≡ c = cc in one)

once : (b : Bool) (x y z : Option Held) → cond b x (cond b y z) ≡ cond b x z
once true x y z = refl
once false x y z = refl

no_names : (key : List ℕ) (gs : Pairs) (d : Option ℕ) (t : Space)
    → get t key ≡ Some (hash gs d) → (q : List ℕ) (b : Bool) → bytes_eq q key ≡ b
    → get t q ≡ cond b (Some (hash gs d)) (get t q)
no_names key gs d t at q true e = ap (get t) ((bytes_eq-Decides q key).0 e) ∙ at
no_names key gs d t at q false e = refl

one_name : (key n : List ℕ) (o : Option (List ℕ)) (gs : Pairs) (d : Option ℕ) (t rest : Space)
    → ((q : List ℕ) → get rest q ≡ cond (bytes_eq q key) (Some (hash gs d)) (get t q))
    → (q : List ℕ) → get (again key (Field n o) rest) q
    ≡ cond (bytes_eq q key) (Some (hash (field_back n o gs) d)) (get t q)
one_name key n o gs d t rest all q =
    get_again key (Field n o) tt rest q
    ∙ (ap (λ r. cond (bytes_eq q key) (held_again (Field n o) r) (get rest q)) own
    ∙ (ap (cond (bytes_eq q key) (Some (hash (field_back n o gs) d))) (all q)
    ∙ once (bytes_eq q key) _ _ (get t q)))
  where
    own : get rest key ≡ Some (hash gs d)
    own = all key ∙ ap (λ b. cond b (Some (hash gs d)) (get t key)) (its_own key)

named_get : (key : List ℕ) (names : List (List ℕ)) (fs gs : Pairs) (d : Option ℕ) (t : Space)
    → get t key ≡ Some (hash gs d) → (q : List ℕ)
    → get (put_back (named_kept key names fs) t) q
    ≡ cond (bytes_eq q key) (Some (hash (named_back names fs gs) d)) (get t q)
named_get key [] fs gs d t at q = no_names key gs d t at q (bytes_eq q key) refl
named_get key (n ∷ ns) fs gs d t at q =
    one_name key n (field_get n fs) (named_back ns fs gs) d t
    (put_back (named_kept key ns fs) t) (λ x. named_get key ns fs gs d t at x) q

module _ (key : List ℕ) (names : List (List ℕ)) (fs : Pairs) (s : Space)
    (at : content_at key s ≡ Some (Fields fs)) where
  held : get s key ≡ Some (hash fs (deadline_at key s))
  held = content_held (get s key) (Fields fs) at

  -- a hash whose fields were changed
  named_hash : (gs : Pairs) (t : Space) → get t key ≡ Some (hash gs (deadline_at key s))
      → ((q : List ℕ) → bytes_eq q key ≡ false → get t q ≡ get s q)
      → named_back names fs gs ≡ fs
      → put_back (named_kept key names fs) t ≡ s
  named_hash gs t now others back =
      alike _ _ (λ q. named_get key names fs gs (deadline_at key s) t now q
      ∙ (ap (λ r. cond (bytes_eq q key) (Some (hash r (deadline_at key s))) (get t q)) back
      ∙ by q (bytes_eq q key) refl))
    where
      by : (q : List ℕ) (b : Bool) → bytes_eq q key ≡ b
          → cond b (Some (hash fs (deadline_at key s))) (get t q) ≡ get s q
      by q true e = sym held ∙ ap (get s) (sym ((bytes_eq-Decides q key).0 e))
      by q false e = others q e

  named_same : put_back (named_kept key names fs) s ≡ s
  named_same = named_hash fs s held (λ q e. refl) (back_same names fs)

  named_put : (g : List ℕ × List ℕ) (gs : Pairs) → named_back names fs (g ∷ gs) ≡ fs
      → put_back (named_kept key names fs) (put_fields key (g ∷ gs) s) ≡ s
  named_put g gs back =
      named_hash (g ∷ gs) (put_fields key (g ∷ gs) s)
      (at_insert s key (hash (g ∷ gs) (deadline_at key s)) key
      ∙ ap (λ b. cond b (Some (hash (g ∷ gs) (deadline_at key s))) (get s key)) (its_own key))
      (λ q e. at_insert s key (hash (g ∷ gs) (deadline_at key s)) q
      ∙ ap (λ b. cond b (Some (hash (g ∷ gs) (deadline_at key s))) (get s q)) e) back

-- a hash in which fields were set has some
abbrev IsSome : Pairs → Type 0
IsSome gs = (g : List ℕ × List ℕ) × (rest : Pairs) × (gs ≡ g ∷ rest)

set_some : (n v : List ℕ) (fs : Pairs) → IsSome (field_set n v fs)
set_some n v [] = ((n, v), [], refl)
set_some n v (f ∷ fs) = by (bytes_eq n f.0)
  where
    by : (b : Bool) → IsSome (cond b ((f.0, v) ∷ fs) (f ∷ field_set n v fs))
    by true = ((f.0, v), fs, refl)
    by false = (f, field_set n v fs, refl)

all_some : (ps : Pairs) (fs : Pairs) → IsSome fs → IsSome (set_all ps fs)
all_some [] fs some = some
all_some (p ∷ ps) fs some = all_some ps (field_set p.0 p.1 fs) (set_some p.0 p.1 fs)

hset_back : (key : List ℕ) (ps : Pairs) (s : Space) (content : Option Content)
    → content_at key s ≡ content
    → ((q : List ℕ) → bytes_eq q key ≡ false
    → get ((on_fields (replied wrong_type s) (λ fs. hset_row key fs (set_all ps fs) s)
    content).space) q ≡ get s q)
    → put_back (hash_kept key (map (λ p. p.0) ps) content s)
    ((on_fields (replied wrong_type s) (λ fs. hset_row key fs (set_all ps fs) s) content).space)
    ≡ s
hset_back key ps s None at others = whole_back key s _ others
hset_back key ps s (Some (Text value)) at others = refl
hset_back key ps s (Some (Fields [])) at others = whole_back key s _ others
hset_back key ps s (Some (Fields (f ∷ fs))) at others =
    let some = all_some ps (f ∷ fs) (f, fs, refl) in
    ap (λ gs. put_back (named_kept key (map (λ p. p.0) ps) (f ∷ fs)) (put_fields key gs s)) some.2
    ∙ named_put key (map (λ p. p.0) ps) (f ∷ fs) s at some.0 some.1
    (ap (named_back (map (λ p. p.0) ps) (f ∷ fs)) (sym some.2) ∙ fields_back ps (f ∷ fs))

-- a field to which a number was added, or a hash that is new
pub field_changed_back : (key field : List ℕ) (n : ℤ) (change : FieldChange) (s t : Space)
    (kept : Priors) → IsChange key field change s t → t ≡ (hincrby_effect key field n s).space
    → ((q : List ℕ) → bytes_eq q key ≡ false → get t q ≡ get s q)
    → kept ≡ field_changed key field change → put_back kept t ≡ s
field_changed_back key field n change.Nothing s t kept is now others so =
    ap (λ ps. put_back ps t) so ∙ is
field_changed_back key field n change.Hash s t kept is now others so =
    ap (λ ps. put_back ps t) so
    ∙ (ap (λ h. put_back ((key, Whole h) ∷ []) t) (sym is) ∙ whole_back key s t others)
field_changed_back key field n (change.Field had) s t kept is now others so =
    ap (λ ps. put_back ps t) so
    ∙ (ap (λ h. put_back ((key, Field field h) ∷ []) t) is.2
    ∙ (ap (put_back (named_kept key (field ∷ []) is.0))
    (now ∙ ap (λ c. (on_fields (replied wrong_type s)
    (λ fs. hincrby_row key field (field_sum field n fs) fs s) c).space) is.1)
    ∙ by (field_sum field n is.0)))
  where
    by : (sum : Result ℤ Value)
        → put_back (named_kept key (field ∷ []) is.0)
        ((hincrby_row key field sum is.0 s).space) ≡ s
    by (Err e) = named_same key (field ∷ []) is.0 s is.1
    by (Ok m) =
        let v = signed_decimal m in
        let some = set_some field v is.0 in
        ap (λ gs. put_back (named_kept key (field ∷ []) is.0) (put_fields key gs s)) some.2
        ∙ named_put key (field ∷ []) is.0 s is.1 some.0 some.1
        (ap (named_back (field ∷ []) is.0) (sym some.2)
        ∙ fields_back ((field, v) ∷ []) is.0)

-- ---- a string

take_front : (v w : List ℕ) → take (length v) (v ++ w) ≡ v
take_front [] w = refl
take_front (x ∷ v) w = ap (λ r. x ∷ r) (take_front v w)

take_all : (v : List ℕ) → take (length v) v ≡ v
take_all [] = refl
take_all (x ∷ v) = ap (λ r. x ∷ r) (take_all v)

-- ---- a deadline

life_kept_in : (r : Option Held) (until : Option ℕ)
    → held_again (Life (option_and_then (λ h. h.deadline) r))
    (option_map {T = Held} (λ h. record h { deadline = until }) r) ≡ r
life_kept_in None until = refl
life_kept_in (Some h) until = refl

life_back : (key : List ℕ) (s t : Space) (until : Option ℕ)
    → get t key ≡ option_map {T = Held} (λ h. record h { deadline = until }) (get s key)
    → held_again (Life (deadline_at key s)) (get t key) ≡ get s key
life_back key s t until is =
    ap (held_again (Life (deadline_at key s))) is ∙ life_kept_in (get s key) until

life_as_it_is : (r : Option Held) → held_again (Life (option_and_then (λ h. h.deadline) r)) r ≡ r
life_as_it_is None = refl
life_as_it_is (Some h) = refl

life_same : (key : List ℕ) (s : Space)
    → held_again (Life (deadline_at key s)) (get s key) ≡ get s key
life_same key s = life_as_it_is (get s key)

given : (key : List ℕ) (until : Option ℕ) (s : Space)
    → get (with_deadline key until s) key
    ≡ option_map {T = Held} (λ h. record h { deadline = until }) (get s key)
given key until s =
    get_changed key (λ h. record h { deadline = until }) s key
    ∙ ap (λ b. cond b (option_map {T = Held} (λ h. record h { deadline = until }) (get s key))
    (get s key))
    (its_own key)

expiry_back : (key : List ℕ) (expiry : Option ℕ) (s : Space)
    → ((q : List ℕ) → bytes_eq q key ≡ false
    → get ((expire_effect key expiry s).space) q ≡ get s q)
    → put_back (expiry_kept key expiry s) ((expire_effect key expiry s).space) ≡ s
expiry_back key None s others = whole_back key s _ others
expiry_back key (Some until) s others =
    one_back key s _ others (Life (deadline_at key s)) tt
    (choose _ _ key (Life (deadline_at key s)) (get s key) (contains_key s key)
    (life_back key s (with_deadline key (Some until) s) (Some until) (given key (Some until) s))
    (life_same key s))

persist_back : (key : List ℕ) (s : Space)
    → ((q : List ℕ) → bytes_eq q key ≡ false → get ((persist_effect key s).space) q ≡ get s q)
    → put_back (life_kept key s) ((persist_effect key s).space) ≡ s
persist_back key s others =
    one_back key s _ others (Life (deadline_at key s)) tt
    (choose _ _ key (Life (deadline_at key s)) (get s key) (is_some (deadline_at key s))
    (life_back key s (with_deadline key None s) None (given key None s))
    (life_same key s))

append_back : (key value : List ℕ) (s : Space) (content : Option Content)
    → content_at key s ≡ content
    → ((q : List ℕ) → bytes_eq q key ≡ false
    → get ((on_text (replied wrong_type s) (λ v. append_row key (or_empty v ++ value) s)
    content).space) q ≡ get s q)
    → put_back (text_kept key content s)
    ((on_text (replied wrong_type s) (λ v. append_row key (or_empty v ++ value) s) content).space)
    ≡ s
append_back key value s None at others = whole_back key s _ others
append_back key value s (Some (Fields fs)) at others = refl
append_back key value s (Some (Text v)) at others =
    one_back key s _ others (Size (length v)) tt
    (choose _ _ key (Size (length v)) (get s key) (nat_lt 16777216 (length (v ++ value))) long more)
  where
    text : List ℕ → Held
    text w = record { content = Text w; deadline = deadline_at key s }

    had : get s key ≡ Some (text v)
    had = content_held (get s key) (Text v) at

    long : held_again (Size (length v)) (get s key) ≡ get s key
    long =
        ap (held_again (Size (length v))) had
        ∙ (ap (λ w. Some (text w)) (take_all v) ∙ sym had)

    more : held_again (Size (length v)) (get (insert s key (text (v ++ value))) key) ≡ get s key
    more =
        ap (held_again (Size (length v))) (at_insert s key (text (v ++ value)) key
        ∙ ap (λ b. cond b (Some (text (v ++ value))) (get s key)) (its_own key))
        ∙ (ap (λ w. Some (text w)) (take_front v value) ∙ sym had)

-- ---- a key that is written only where it is missing

new_back : (key : List ℕ) (s t : Space) (r : Option Held) → get s key ≡ r
    → ((q : List ℕ) → bytes_eq q key ≡ false → get t q ≡ get s q)
    → (is_some (get s key) ≡ true → t ≡ s)
    → put_back (new_kept key r s) t ≡ s
new_back key s t None at others stays = whole_back key s t others
new_back key s t (Some h) at others stays = stays (ap is_some at)

-- where a key is not moved, all stays
stays_put : (has same : Bool) (s : Space) (moves : Effect) → (not same && has) ≡ false
    → (cond has (cond same (replied (Simple (codes "OK")) s) moves) (replied no_such_key s)).space
    ≡ s
stays_put true true s moves beside = refl
stays_put true false s moves beside = absurd cc
stays_put false same s moves beside = refl

-- ---- each command

apart : (b : Bool) → b ≡ false → (b || false) ≡ false
apart b e = ap (λ b. b || false) e

-- what a command kept of the keys that it writes leads back from its row
pub kept_back : (c : Command) (keys : List (List ℕ)) (s : Space) (m : ℕ) → written c ≡ Keys keys
    → writes_over c s m ≡ false → put_back (kept c keys s m) ((effect c s m).space) ≡ s
unfolding kept effect string_effect hash_effect key_effect writes_over
kept_back (command.Set key value Always life) keys s m is beside = absurd cc
kept_back (command.Set key value Xx life) keys s m is beside = absurd cc
kept_back (command.Set key value Nx life) keys s m is beside =
    new_back key s _ (get s key) refl
    (λ q e. (row_moves (command.Set key value Nx life) s m).stays q (apart (bytes_eq q key) e))
    (λ there. ap (λ b. (cond (not b) (effect (command.Set key value Always life) s m)
    (replied Null s)).space) there)
kept_back (command.SetNx key value) keys s m is beside =
    new_back key s _ (get s key) refl
    (λ q e. (row_moves (command.SetNx key value) s m).stays q (apart (bytes_eq q key) e))
    (λ there. ap (λ b. (cond b (replied (Number (pos 0)) s)
    (wrote (Number (pos 1)) (key ∷ []) (put_text key value None s))).space) there)
kept_back (command.Rename a b) keys s m is beside =
    stays_put (contains_key s a) (bytes_eq a b) s _ beside
kept_back (command.HSet key words) keys s m is beside =
    hset_back key (in_turn words) s (content_at key s) refl
    (λ q e. (row_moves (command.HSet key words) s m).stays q (apart (bytes_eq q key) e))
kept_back (command.Append key value) keys s m is beside =
    append_back key value s (content_at key s) refl
    (λ q e. (row_moves (command.Append key value) s m).stays q (apart (bytes_eq q key) e))
kept_back (command.Persist key) keys s m is beside =
    persist_back key s
    (λ q e. (row_moves (command.Persist key) s m).stays q (apart (bytes_eq q key) e))
kept_back (command.Expire key n) keys s m is beside =
    expiry_back key (expiry_after m 1000 n) s
    (λ q e. (row_moves (command.Expire key n) s m).stays q (apart (bytes_eq q key) e))
kept_back (command.PExpire key n) keys s m is beside =
    expiry_back key (expiry_after m 1 n) s
    (λ q e. (row_moves (command.PExpire key n) s m).stays q (apart (bytes_eq q key) e))
kept_back (command.ExpireAt key n) keys s m is beside =
    expiry_back key (expiry_at m 1000 n) s
    (λ q e. (row_moves (command.ExpireAt key n) s m).stays q (apart (bytes_eq q key) e))
kept_back (command.PExpireAt key n) keys s m is beside =
    expiry_back key (expiry_at m 1 n) s
    (λ q e. (row_moves (command.PExpireAt key n) s m).stays q (apart (bytes_eq q key) e))
kept_back c keys s m is beside =
    wholes_back keys s _ (λ q out. (row_moves c s m).stays q (ap (λ w. names w q) is ∙ out))
