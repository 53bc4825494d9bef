-- What keys hold is moved aside, a command writes over it, and what was moved leads back.
use Rattle.std.proofs.Common.{arith, ◌≡◌, ◌∙◌, refl, sym, ap, ℕ, List, [], ◌∷◌, ◌++◌, Bool}
use Rattle.std.proofs.Common.{true, false, cond, map, length}
use Rattle.std.proofs.Common.{Option, None, Some}
use Rattle.std.specs.Prelude.{◌||◌, ◌&&◌, is_some, not, codes, pos}
use Rattle.std.specs.FinMap.{get, insert, remove, contains_key}
use Rattle.std.specs.List.{filter, list_any}
use Rattle.std.specs.Option.{option_map, option_map_or}
use Rattle.std.specs.Str.{bytes_eq}
use Rattle.std.proofs.lemmas.Slice.Eq.{bytes_eq-Decides}
use Rattle.resp_value.specs.declared.value.Value.TheVariants.{Simple, Number, Null}
use Rattle.resp_value.specs.Tree.{in_turn}
use Rattle.command_words.specs.declared.command.Command.{Command}
use Rattle.command_words.specs.declared.command.Command.TheVariants as command
use Rattle.command_words.specs.declared.command.SetLife.{SetLife}
use Rattle.command_words.specs.declared.command.SetWhen.TheVariants.{Always, Xx}
use Rattle.command_words.specs.declared.written.Written.{Written}
use Rattle.command_words.specs.declared.written.Written.TheVariants.{Keys, All}
use Rattle.command_words.specs.Effect.{Effect, replied, wrote, no_such_key}
use Rattle.command_words.specs.Effects.{effect, string_effect, hash_effect, key_effect}
use Rattle.command_words.specs.KeyLists.{each_once}
use Rattle.command_words.specs.Keys.{remove_each, del_effect, expire_effect, expiry_after}
use Rattle.command_words.specs.Keys.{expiry_at}
use Rattle.command_words.specs.Keys.{rename_effect, renamed}
use Rattle.command_words.specs.Queries.{written, names}
use Rattle.command_words.specs.Space.{Content, Text, Held, Space, deadline_at}
use Rattle.command_words.specs.Strings.{put_all, put_text, mset_effect, set_effect, set_deadline}
use Rattle.keyspace.specs.Lending.{with_content}
use Rattle.expiry.specs.declared.index.Deadline.{Deadline}
use Rattle.expiry.specs.Index.{is_at}
use Rattle.command_set.specs.Aside.{writes_over, hollow, hollowed, moved, filled_one, filled}
use Rattle.command_set.specs.Aside.{set_aside, left_beside}
use Rattle.command_set.specs.InStep.{InStep}
use Rattle.command_set.specs.Priors.{Kept, Whole, Moved, Priors, again, put_back, life_of}
use Rattle.command_set.specs.Priors.{kept_of, priors_of}
use Rattle.command_set.specs.declared.prior.Prior.{Prior}
use Rattle.command_set.proofs.Moves.{at_insert, at_remove, left_false, right_false, row_moves}
use Rattle.command_set.proofs.TakenBack.{alike, get_again, get_changed, with_last}

-- ---- an empty string in the place of what a key held

abbrev with_empty : Held → Held
with_empty held = record held { content = Text [] }

abbrev within : Content → Held → Held
within content held = record held { content = content }

get_hollow : (k : List ℕ) (s : Space) (q : List ℕ)
    → get (hollow k s) q ≡ cond (bytes_eq q k) (option_map with_empty (get s k)) (get s q)
get_hollow k s q = get_changed k with_empty s q

-- a key that is missing stays missing
none_hollow : (k : List ℕ) (s : Space) (content : Content) → get s k ≡ None
    → with_content k content s ≡ s
none_hollow k s content is = ap (λ r. option_map_or (λ h. insert s k (within content h)) r s) is

-- what an empty string does not change of what a key holds
module _ {X : Type 0} (g : Option Held → X)
    (same : (r : Option Held) → g (option_map with_empty r) ≡ g r) where
  one_same : (k q : List ℕ) (s : Space) → g (get (hollow k s) q) ≡ g (get s q)
  one_same k q s = ap g (get_hollow k s q) ∙ by (bytes_eq q k) refl
    where
      by : (b : Bool) → bytes_eq q k ≡ b
          → g (cond b (option_map with_empty (get s k)) (get s q)) ≡ g (get s q)
      by true e = same (get s k) ∙ ap (λ z. g (get s z)) (sym ((bytes_eq-Decides q k).0 e))
      by false e = refl

  each_same : (ks : List (List ℕ)) (q : List ℕ) (s : Space)
      → g (get (hollowed ks s) q) ≡ g (get s q)
  each_same [] q s = refl
  each_same (k ∷ ks) q s = each_same ks q (hollow k s) ∙ one_same k q s

there_same : (r : Option Held) → is_some (option_map with_empty r) ≡ is_some r
there_same None = refl
there_same (Some h) = refl

life_same : (r : Option Held) → life_of (option_map with_empty r) ≡ life_of r
life_same None = refl
life_same (Some h) = refl

pub same_keys : (ks : List (List ℕ)) (s : Space) (q : List ℕ)
    → contains_key (hollowed ks s) q ≡ contains_key s q
same_keys ks s q = each_same is_some there_same ks q s

pub same_lives : (ks : List (List ℕ)) (s : Space) (q : List ℕ)
    → deadline_at q (hollowed ks s) ≡ deadline_at q s
same_lives ks s q = each_same life_of life_same ks q s

-- the same outside of some keys
abbrev Agree : List (List ℕ) → Space → Space → Type 0
Agree ks s t = (q : List ℕ) → list_any (bytes_eq q) ks ≡ false → get s q ≡ get t q

pub others_same : (ks : List (List ℕ)) (s : Space) → Agree ks (hollowed ks s) s
others_same [] s q out = refl
others_same (k ∷ ks) s q out =
    others_same ks (hollow k s) q (right_false (bytes_eq q k) _ out)
    ∙ (get_hollow k s q
    ∙ ap (λ b. cond b (option_map with_empty (get s k)) (get s q))
    (left_false (bytes_eq q k) _ out))

pub hollow_in_step : (ks : List (List ℕ)) (s : Space) (index : List Deadline) → InStep index s
    → InStep index (hollowed ks s)
hollow_in_step ks s index step = record {
  ordered = step.ordered;
  each = λ d. step.each d ∙ ap (is_at d.at) (sym (same_lives ks s d.key));
}

-- ---- what is written over makes no difference

under : (b : Bool) (x r : Option Held) {t : Option Held} → (b ≡ false → r ≡ t)
    → cond b x r ≡ cond b x t
under true x r e = refl
under false x r e = e refl

put_same : (k : List ℕ) (h : Held) (s t : Space) → Agree (k ∷ []) s t
    → insert s k h ≡ insert t k h
put_same k h s t agree =
    alike _ _ (λ q. at_insert s k h q
    ∙ (under (bytes_eq q k) (Some h) (get s q) (λ e. agree q (ap (λ b. b || false) e))
    ∙ sym (at_insert t k h q)))

gone_same : (k : List ℕ) (s t : Space) → Agree (k ∷ []) s t → remove s k ≡ remove t k
gone_same k s t agree =
    alike _ _ (λ q. at_remove s k q
    ∙ (under (bytes_eq q k) None (get s q) (λ e. agree q (ap (λ b. b || false) e))
    ∙ sym (at_remove t k q)))

-- a key more is the same
next_put : (k : List ℕ) (ks : List (List ℕ)) (h : Held) (s t : Space) → Agree (k ∷ ks) s t
    → Agree ks (insert s k h) (insert t k h)
next_put k ks h s t agree q out =
    at_insert s k h q
    ∙ (under (bytes_eq q k) (Some h) (get s q) (λ e. agree q (λ i. e i || out i))
    ∙ sym (at_insert t k h q))

next_gone : (k : List ℕ) (ks : List (List ℕ)) (s t : Space) → Agree (k ∷ ks) s t
    → Agree ks (remove s k) (remove t k)
next_gone k ks s t agree q out =
    at_remove s k q
    ∙ (under (bytes_eq q k) None (get s q) (λ e. agree q (λ i. e i || out i))
    ∙ sym (at_remove t k q))

put_all_same : (ps : List (List ℕ × List ℕ)) (s t : Space) → Agree (map (λ p. p.0) ps) s t
    → put_all ps s ≡ put_all ps t
put_all_same [] s t agree = alike s t (λ q. agree q refl)
put_all_same (p ∷ ps) s t agree =
    let h : Held = record { content = Text p.1; deadline = None } in
    put_all_same ps (put_text p.0 p.1 None s) (put_text p.0 p.1 None t)
    (next_put p.0 (map (λ p. p.0) ps) h s t agree)

remove_each_same : (ks : List (List ℕ)) (s t : Space) → Agree ks s t
    → remove_each ks s ≡ remove_each ks t
remove_each_same [] s t agree = alike s t (λ q. agree q refl)
remove_each_same (k ∷ ks) s t agree =
    remove_each_same ks (remove s k) (remove t k) (next_gone k ks s t agree)

-- ---- each command over keys whose contents are aside

set_over : (key value : List ℕ) (life : SetLife) (s : Space) (m : ℕ)
    → set_effect key value Always life (hollow key s) m ≡ set_effect key value Always life s m
set_over key value life s m =
    ap (λ d. wrote (Simple (codes "OK")) (key ∷ [])
    (put_text key value (set_deadline life m d) (hollow key s)))
    (same_lives (key ∷ []) s key)
    ∙ ap (wrote (Simple (codes "OK")) (key ∷ []))
    (put_same key (record {
      content = Text value;
      deadline = set_deadline life m (deadline_at key s);
    }) (hollow key s) s (others_same (key ∷ []) s))

-- where a key is missing, nothing is moved
if_missing : (key : List ℕ) (s : Space) → contains_key s key ≡ false → hollow key s ≡ s
if_missing key s is = by (get s key) refl is
  where
    by : (r : Option Held) → get s key ≡ r → is_some r ≡ false → hollow key s ≡ s
    by None e missing = none_hollow key s (Text []) e
    by (Some h) e missing = absurd cc

set_there : (key value : List ℕ) (life : SetLife) (s : Space) (m : ℕ)
    → set_effect key value Xx life (hollow key s) m ≡ set_effect key value Xx life s m
set_there key value life s m =
    ap (λ b. cond b (set_effect key value Always life (hollow key s) m)
    (replied Null (hollow key s)))
    (same_keys (key ∷ []) s key)
    ∙ by (contains_key s key) refl
  where
    by : (b : Bool) → contains_key s key ≡ b
        → cond b (set_effect key value Always life (hollow key s) m)
        (replied Null (hollow key s))
        ≡ cond b (set_effect key value Always life s m) (replied Null s)
    by true is = set_over key value life s m
    by false is = ap (replied Null) (if_missing key s is)

mset_over : (words : List (List ℕ)) (s : Space)
    → mset_effect words (hollowed (map (λ p. p.0) (in_turn words)) s) ≡ mset_effect words s
mset_over words s =
    let keys : List (List ℕ) = map (λ p. p.0) (in_turn words) in
    ap (wrote (Simple (codes "OK")) (each_once keys))
    (put_all_same (in_turn words) (hollowed keys s) s (others_same keys s))

del_over : (keys : List (List ℕ)) (s : Space)
    → del_effect keys (hollowed keys s) ≡ del_effect keys s
del_over keys s =
    let is_there : contains_key (hollowed keys s) ≡ contains_key s =
    (λ i q. same_keys keys s q i) in
    ap (λ f. wrote (Number (pos (length (filter f (each_once keys))))) (filter f (each_once keys))
    (remove_each keys (hollowed keys s))) is_there
    ∙ ap (wrote (Number (pos (length (filter (contains_key s) (each_once keys)))))
    (filter (contains_key s) (each_once keys)))
    (remove_each_same keys (hollowed keys s) s (others_same keys s))

expire_over : (key : List ℕ) (expiry : Option ℕ) (s : Space) → not (is_some expiry) ≡ true
    → expire_effect key expiry (hollow key s) ≡ expire_effect key expiry s
expire_over key (Some until) s past = absurd cc
expire_over key None s past =
    ap (λ b. cond b (wrote (Number (pos 1)) (key ∷ []) (remove (hollow key s) key))
    (replied (Number (pos 0)) (hollow key s)))
    (same_keys (key ∷ []) s key)
    ∙ by (contains_key s key) refl
  where
    by : (b : Bool) → contains_key s key ≡ b
        → cond b (wrote (Number (pos 1)) (key ∷ []) (remove (hollow key s) key))
        (replied (Number (pos 0)) (hollow key s))
        ≡ cond b (wrote (Number (pos 1)) (key ∷ []) (remove s key)) (replied (Number (pos 0)) s)
    by true is =
        ap (wrote (Number (pos 1)) (key ∷ []))
        (gone_same key (hollow key s) s (others_same (key ∷ []) s))
    by false is = ap (replied (Number (pos 0))) (if_missing key s is)

-- RENAME where it moves a key, over any keyspace in which the first one is there
module _ (a b : List ℕ) (apart : bytes_eq a b ≡ false) where
  abbrev moves : Space → Effect
  moves t = wrote (Simple (codes "OK")) (a ∷ b ∷ []) (renamed a b t)

  row_moving : (t : Space) → contains_key t a ≡ true → rename_effect a b t ≡ moves t
  row_moving t has =
      (λ i. cond (has i) (cond (apart i) (replied (Simple (codes "OK")) t) (moves t))
      (replied no_such_key t))

  as_held : (t : Space) (h : Held) → get t a ≡ Some h → renamed a b t ≡ insert (remove t a) b h
  as_held t h at = ap (λ r. option_map_or (λ held. insert (remove t a) b held) r t) at

  module _ (s : Space) (h : Held) (at : get s a ≡ Some h) where
    at_hollow : get (hollow b s) a ≡ Some h
    at_hollow = others_same (b ∷ []) s a (ap (λ c. c || false) apart) ∙ at

    gone_agree : Agree (b ∷ []) (remove (hollow b s) a) (remove s a)
    gone_agree q out =
        at_remove (hollow b s) a q
        ∙ (ap (cond (bytes_eq q a) None) (others_same (b ∷ []) s q out) ∙ sym (at_remove s a q))

    rename_same : renamed a b (hollow b s) ≡ renamed a b s
    rename_same =
        as_held (hollow b s) h at_hollow
        ∙ (put_same b h (remove (hollow b s) a) (remove s a) gone_agree ∙ sym (as_held s h at))

has_held : (r : Option Held) → is_some r ≡ true → (h : Held) × (r ≡ Some h)
has_held None is = absurd cc
has_held (Some h) is = (h, refl)

is_apart : (x y : Bool) → (not x && y) ≡ true → x ≡ false
is_apart x y e = grind arith

is_there : (x y : Bool) → (not x && y) ≡ true → y ≡ true
is_there x y e = grind arith

rename_over : (a b : List ℕ) (s : Space) → (not (bytes_eq a b) && contains_key s a) ≡ true
    → rename_effect a b (hollow b s) ≡ rename_effect a b s
rename_over a b s over =
    let apart = is_apart (bytes_eq a b) (contains_key s a) over in
    let has = is_there (bytes_eq a b) (contains_key s a) over in
    let held = has_held (get s a) has in
    row_moving a b apart (hollow b s) (same_keys (b ∷ []) s a ∙ has)
    ∙ (ap (wrote (Simple (codes "OK")) (a ∷ b ∷ [])) (rename_same a b apart s held.0 held.1)
    ∙ sym (row_moving a b apart s has))

abbrev listed : Written → List (List ℕ)
listed (Keys keys) = keys
listed All = []

row_over : (c : Command) (s : Space) (m : ℕ) → writes_over c s m ≡ true
    → effect c (left_beside c (listed (written c)) s) m ≡ effect c s m
unfolding writes_over left_beside effect string_effect hash_effect key_effect
row_over (command.Set key value Always life) s m over = set_over key value life s m
row_over (command.Set key value Xx life) s m over = set_there key value life s m
row_over (command.MSet words) s m over = mset_over words s
row_over (command.Del keys) s m over = del_over keys s
row_over (command.Rename a b) s m over = rename_over a b s over
row_over (command.Expire key n) s m over = expire_over key (expiry_after m 1000 n) s over
row_over (command.PExpire key n) s m over = expire_over key (expiry_after m 1 n) s over
row_over (command.ExpireAt key n) s m over = expire_over key (expiry_at m 1000 n) s over
row_over (command.PExpireAt key n) s m over = expire_over key (expiry_at m 1 n) s over
row_over c s m over = absurd cc

-- a command that writes over what its keys hold does the same where that is aside
pub over_same : (c : Command) (keys : List (List ℕ)) (s : Space) (m : ℕ)
    → writes_over c s m ≡ true → written c ≡ Keys keys
    → effect c (left_beside c keys s) m ≡ effect c s m
over_same c keys s m over is =
    ap (λ w. effect c (left_beside c (listed w) s) m) (sym is) ∙ row_over c s m over

pub aside_in_step : (c : Command) (keys : List (List ℕ)) (s : Space) (index : List Deadline)
    → InStep index s → InStep index (left_beside c keys s)
unfolding left_beside
aside_in_step (command.Rename a b) keys s index step = hollow_in_step (b ∷ []) s index step
aside_in_step c keys s index step = hollow_in_step keys s index step

-- ---- what was moved aside leads back

get_moved : (ks : List (List ℕ)) (s t : Space) (q : List ℕ)
    → get (put_back (moved ks s) t) q
    ≡ cond (list_any (bytes_eq q) ks) (get s q) (get t q)
get_moved [] s t q = refl
get_moved (k ∷ ks) s t q =
    get_again k (Whole (get s k)) tt (put_back (moved ks (hollow k s)) t) q
    ∙ (ap (cond (bytes_eq q k) (get s k)) (get_moved ks (hollow k s) t q)
    ∙ by (bytes_eq q k) refl (list_any (bytes_eq q) ks))
  where
    by : (b : Bool) → bytes_eq q k ≡ b → (c : Bool)
        → cond b (get s k) (cond c (get (hollow k s) q) (get t q))
        ≡ cond (b || c) (get s q) (get t q)
    by true is c = ap (get s) (sym ((bytes_eq-Decides q k).0 is))
    by false is c =
        ap (λ r. cond c r (get t q)) (get_hollow k s q
        ∙ ap (λ b. cond b (option_map with_empty (get s k)) (get s q)) is)

pub moved_back : (ks : List (List ℕ)) (s t : Space) → Agree ks t s
    → put_back (moved ks s) t ≡ s
moved_back ks s t others =
    alike _ _ (λ q. get_moved ks s t q ∙ by q (list_any (bytes_eq q) ks) refl)
  where
    by : (q : List ℕ) (b : Bool) → list_any (bytes_eq q) ks ≡ b
        → cond b (get s q) (get t q) ≡ get s q
    by q true is = refl
    by q false is = others q is

-- a key that was moved goes back, and then the other one holds what it held
module _ (a b : List ℕ) (apart : bytes_eq a b ≡ false) (s : Space) (h : Held)
    (at : get s a ≡ Some h) where
  abbrev after : Space
  after = insert (remove s a) b h

  at_target : get after b ≡ Some h
  at_target =
      at_insert (remove s a) b h b
      ∙ ap (λ c. cond c (Some h) (get (remove s a) b)) ((bytes_eq-Decides b b).1 refl)

  was : (q : List ℕ) (x y : Bool) → bytes_eq q b ≡ x → bytes_eq q a ≡ y
      → cond x (get s b) (cond y (Some h) (cond x None (cond x (Some h) (cond y None (get s q)))))
      ≡ get s q
  was q true y is e = ap (get s) (sym ((bytes_eq-Decides q b).0 is))
  was q false true is e = sym at ∙ ap (get s) (sym ((bytes_eq-Decides q a).0 e))
  was q false false is e = refl

  rename_back : again b (Whole (get s b)) (renamed b a after) ≡ s
  rename_back =
      alike _ _ (λ q. get_again b (Whole (get s b)) tt (renamed b a after) q
      ∙ (ap (λ u. cond (bytes_eq q b) (get s b) (get u q))
      (ap (λ r. option_map_or (λ held. insert (remove after b) a held) r after) at_target)
      ∙ (ap (cond (bytes_eq q b) (get s b)) (at_insert (remove after b) a h q
      ∙ ap (cond (bytes_eq q a) (Some h)) (at_remove after b q
      ∙ ap (cond (bytes_eq q b) None) (at_insert (remove s a) b h q
      ∙ ap (cond (bytes_eq q b) (Some h)) (at_remove s a q))))
      ∙ was q (bytes_eq q b) (bytes_eq q a) refl refl)))

renamed_back : (a b : List ℕ) (s : Space) → (not (bytes_eq a b) && contains_key s a) ≡ true
    → again b (Whole (get s b)) (renamed b a ((rename_effect a b s).space)) ≡ s
renamed_back a b s over =
    let apart = is_apart (bytes_eq a b) (contains_key s a) over in
    let has = is_there (bytes_eq a b) (contains_key s a) over in
    let held = has_held (get s a) has in
    ap (λ t. again b (Whole (get s b)) (renamed b a t))
    (ap (λ e. e.space) (row_moving a b apart s has) ∙ as_held a b apart s held.0 held.1)
    ∙ rename_back a b apart s held.0 held.1

-- what was set aside leads back from the keyspace that the command leaves
pub over_back : (c : Command) (keys : List (List ℕ)) (s : Space) (m : ℕ)
    → writes_over c s m ≡ true → written c ≡ Keys keys
    → put_back (set_aside c keys s) ((effect c s m).space) ≡ s
unfolding set_aside writes_over effect string_effect hash_effect key_effect
over_back (command.Rename a b) keys s m over is = renamed_back a b s over
over_back c keys s m over is =
    moved_back keys s _ (λ q out. (row_moves c s m).stays q (ap (λ w. names w q) is ∙ out))

-- ---- what was moved aside is in its place again

-- a key that takes what it held, over the empty string
module _ (k : List ℕ) (s : Space) (h : Held) (is : get s k ≡ Some h) where
  own : get (hollow k s) k ≡ Some (with_empty h)
  own =
      get_hollow k s k
      ∙ (ap (λ b. cond b (option_map with_empty (get s k)) (get s k))
      ((bytes_eq-Decides k k).1 refl)
      ∙ ap (option_map with_empty) is)

  held_in : (q : List ℕ) (b : Bool) → bytes_eq q k ≡ b
      → cond b (option_map (within h.content) (get (hollow k s) k)) (get (hollow k s) q)
      ≡ get s q
  held_in q true e =
      ap (option_map (within h.content)) own
      ∙ (sym is ∙ ap (get s) (sym ((bytes_eq-Decides q k).0 e)))
  held_in q false e =
      get_hollow k s q ∙ ap (λ b. cond b (option_map with_empty (get s k)) (get s q)) e

  held_again : with_content k h.content (hollow k s) ≡ s
  held_again =
      alike _ _ (λ q. get_changed k (within h.content) (hollow k s) q
      ∙ held_in q (bytes_eq q k) refl)

refilled : (k : List ℕ) (s : Space) → filled_one k (Whole (get s k)) (hollow k s) ≡ s
refilled k s = by (get s k) refl
  where
    by : (r : Option Held) → get s k ≡ r → filled_one k (Whole r) (hollow k s) ≡ s
    by None is = none_hollow k s (Text []) is
    by (Some h) is = held_again k s h is

filled_last : (ps : Priors) (k : List ℕ) (kept : Kept) (s : Space)
    → filled (ps ++ (k, kept) ∷ []) s ≡ filled ps (filled_one k kept s)
filled_last [] k kept s = refl
filled_last (p ∷ ps) k kept s = ap (filled_one p.0 p.1) (filled_last ps k kept s)

pub one_aside : (old new : Priors) (k : List ℕ) (s t : Space)
    → new ≡ old ++ (k, Whole (get s k)) ∷ [] → t ≡ hollow k s → filled new t ≡ filled old s
one_aside old new k s t is now =
    (λ i. filled (is i) (now i))
    ∙ (filled_last old k (Whole (get s k)) (hollow k s) ∙ ap (filled old) (refilled k s))

pub one_renamed : (old new : Priors) (a b : List ℕ) (s : Space)
    → new ≡ old ++ (a, Moved b) ∷ [] → filled new s ≡ filled old s
one_renamed old new a b s is =
    ap (λ ps. filled ps s) is ∙ filled_last old a (Moved b) s

-- what was moved last is in its place again, and goes from the list
pub popped_in : (old new : List Prior) (p : Prior) (s t : Space) → old ≡ new ++ p ∷ []
    → t ≡ filled_one p.key (kept_of p.kept) s
    → filled (priors_of new) t ≡ filled (priors_of old) s
popped_in old new p s t at so =
    ap (filled (priors_of new)) so
    ∙ (sym (filled_last (priors_of new) p.key (kept_of p.kept) s)
    ∙ (ap (λ ps. filled ps s) (sym (with_last new p))
    ∙ ap (λ ps. filled (priors_of ps) s) (sym at)))
