-- What a parse of a command with only options makes of its words.
use Rattle.std.proofs.Common.{◌≡◌, ◌∙◌, ◌&&◌, ◌||◌, ◌==◌, ℕ, Bool, cond, codes, true, false}
use Rattle.std.proofs.Common.{refl, sym, ap, ap₂, List, [], ◌∷◌, ◌++◌, map, Option, Some}
use Rattle.std.proofs.Common.{None, is_some, true≢false, arith}
use Rattle.std.specs.List.{fold, list_any}
use Rattle.std.specs.Option.{option_map}
use Rattle.std.specs.Prelude.{option_and_then}
use Rattle.std.specs.Str.{bytes_eq}
use Rattle.std.proofs.lemmas.Slice.Eq.{bytes_eq-Decides}
use Rattle.clap.specs.Lexer.{long_of, short_of}
use Rattle.clap.specs.Kinds.{Kinds, or_else}
use Rattle.clap.specs.Walk.{Held, Row, Rule, Walk, Waiting, idle, option, arg_by_id, arg_by_long}
use Rattle.clap.specs.Walk.{at_row, has_row, reading_by, settled, walked, with_values, without}
use Rattle.clap.specs.Walk.{used, finished, with_default, walk_from, nothing_held, first_of}
use Rattle.clap.specs.Simple.{Shape, filled, new_shape}
use Rattle.clap.specs.Faults.{settle_fault, turn_fault, use_fault, walk_fault}
use Rattle.clap.specs.declared.parser.matches.ValueSource.TheVariants.{CommandLine}
use Rattle.clap.specs.declared.error.kind.ErrorKind.{ErrorKind}
use Rattle.clap.specs.declared.error.kind.ErrorKind.TheVariants as kind
use Rattle.command_line.specs.Clap.{raw_rule}
use Rattle.command_line.specs.Options.{Word, Known, Written, flag, is_required, name_of, valued}
use Rattle.command_line.specs.Options.{known_as, has, value_of, option_of, has_dash, is_stray}
use Rattle.command_line.specs.Options.{one_more, begun, at_word, options_from, has_required}
use Rattle.command_line.specs.Options.{options_of, if_all_there}

-- ---- the command, as `clap` sees it

abbrev pub rule_for : Known → Rule
rule_for k = filled (raw_rule k)

abbrev pub rules_for : List Known → List Rule
rules_for known = map rule_for known

-- once built
abbrev pub shape_for : Word → List Known → Shape
shape_for name known = record (new_shape name) {
  rules = rules_for known;
  no_binary_name = true;
  disable_help_flag = true;
  disable_help_subcommand = true;
  is_built = true;
}

abbrev pub row_for : Word × Word → Row
row_for o = record {
  id = o.0;
  values = o.1 ∷ [];
  count = None;
  source = Some CommandLine;
  reading =
      reading_by (rule_for (valued o.0 false));
}

abbrev pub rows_for : Written → List Row
rows_for seen = map row_for seen

-- ---- look-ups

pub by_long : (known : List Known) (name : Word)
    → arg_by_long (rules_for known) name ≡ option_map rule_for (known_as name known)
by_long [] name = refl
by_long (k ∷ ks) name = go (bytes_eq (name_of k) name) (by_long ks name)
  where
    go : (b : Bool) → arg_by_long (rules_for ks) name ≡ option_map rule_for (known_as name ks)
        → cond (b || false) (Some (rule_for k))
        (arg_by_long (rules_for ks) name) ≡ option_map rule_for (cond b (Some k) (known_as name ks))
    go b e = grind arith

pub by_id : (known : List Known) (name : Word)
    → arg_by_id (rules_for known) name ≡ option_map rule_for (known_as name known)
by_id [] name = refl
by_id (k ∷ ks) name = go (bytes_eq (name_of k) name) (by_id ks name)
  where
    go : (b : Bool) → arg_by_id (rules_for ks) name ≡ option_map rule_for (known_as name ks)
        → cond b (Some (rule_for k)) (arg_by_id (rules_for ks) name) ≡ option_map rule_for
        (cond b (Some k) (known_as name ks))
    go b e = grind arith

pub found_name : (known : List Known) (name : Word) (k : Known) → known_as name known ≡ Some k
    → (name_of k) ≡ name
found_name [] name k e = cc
found_name (x ∷ xs) name k e = go (bytes_eq (name_of x) name) refl e (found_name xs name k)
  where
    go : (b : Bool) → bytes_eq (name_of x) name ≡ b → cond b (Some x) (known_as name xs) ≡ Some k
        → (known_as name xs ≡ Some k → (name_of k) ≡ name) → (name_of k) ≡ name
    go b hit h next = grind (arith, bytes_eq-Decides)

pub found_id : (known : List Known) (name : Word) (k : Known) → known_as name known ≡ Some k
    → arg_by_id (rules_for known) (name_of k) ≡ Some (rule_for k)
found_id known name k e = grind (arith, by_id, found_name)

pub found_long : (known : List Known) (name : Word) (k : Known) → known_as name known ≡ Some k
    → arg_by_long (rules_for known) name ≡ Some (rule_for k)
found_long known name k e = by_long known name ∙ ap (option_map rule_for) e

pub no_long : (known : List Known) (name : Word) → known_as name known ≡ None
    → arg_by_long (rules_for known) name ≡ None
no_long known name e = by_long known name ∙ ap (option_map rule_for) e

-- ---- rows

pub same_has : (name : Word) (seen : Written) → has_row name (rows_for seen) ≡ has name seen
same_has name [] = refl
same_has name (o ∷ os) = ap (λ b. bytes_eq o.0 name || b) (same_has name os)

or_parts : (a b : Bool) → (a || b) ≡ false → (a ≡ false) × (b ≡ false)
or_parts a b e = grind arith

pub kept : (name : Word) (seen : Written) → has name seen ≡ false
    → without name (rows_for seen) ≡ rows_for seen
kept name [] e = refl
kept name (o ∷ os) e =
    let parts : (bytes_eq o.0 name ≡ false) × (has name os ≡ false) = or_parts _ _ e in
    rw (parts.0) (ap (λ (rs : List Row). row_for o ∷ rs) (kept name os parts.1))

pub added : (name value : Word) (seen : Written) → has name seen ≡ false
    → with_values name (row_for (name, value)).reading CommandLine (value ∷ [])
    (rows_for seen) ≡ rows_for (seen ++ (name, value) ∷ [])
added name value [] e = refl
added name value (o ∷ os) e =
    let parts : (bytes_eq o.0 name ≡ false) × (has name os ≡ false) = or_parts _ _ e in
    rw (parts.0) (ap (λ (rs : List Row). row_for o ∷ rs) (added name value os parts.1))

pub used_once : (m : Word) (r : Bool) (value : Word) (seen : Written) → has m seen ≡ false
    → used (rule_for (valued m r)) (value ∷ []) (rows_for seen) ≡ rows_for (seen ++ (m, value) ∷ [])
used_once m r value seen e = grind (arith, kept, added)

pub use_passes : (m : Word) (r : Bool) (value : Word) (seen : Written) → has m seen ≡ false
    → use_fault false (rule_for (valued m r)) (value ∷ []) (rows_for seen) ≡ []
use_passes m r value seen e = rw (same_has m seen, e) refl

pub use_fails : (m : Word) (r : Bool) (value : Word) (seen : Written) → has m seen ≡ true
    → use_fault false (rule_for (valued m r)) (value ∷ [])
    (rows_for seen) ≡ kind.ArgumentConflict ∷ []
use_fails m r value seen e = rw (same_has m seen, e) refl

pub use_empty : (m : Word) (r : Bool) (seen : Written)
    → use_fault false (rule_for (valued m r)) [] (rows_for seen) ≡ kind.InvalidValue ∷ []
use_empty m r seen = refl

pub flag_used : (m : Word) (seen : Written) → has m seen ≡ false
    → used (rule_for (flag m)) [] (rows_for seen) ≡ rows_for (seen ++ (m, codes "true") ∷ [])
flag_used m seen e = grind (arith, codes, kept, added)

pub flag_passes : (m : Word) (seen : Written) → has m seen ≡ false
    → use_fault false (rule_for (flag m)) [] (rows_for seen) ≡ []
flag_passes m seen e = rw (same_has m seen, e) refl

pub flag_fails : (m : Word) (seen : Written) → has m seen ≡ true
    → use_fault false (rule_for (flag m)) [] (rows_for seen) ≡ kind.ArgumentConflict ∷ []
flag_fails m seen e = rw (same_has m seen, e) refl

-- ---- words

pub long_is : (word : Word) → long_of word ≡ option_of word
long_is [] = refl
long_is (b ∷ text) = go (b == 45) refl text
  where
    rest : (t : Word)
        → option_and_then Rattle.clap.specs.Lexer.long_of_rest
        (Some t) ≡ Rattle.command_line.specs.Options.after_dashes t
    rest t = grind arith

    second : (c : ℕ) (t : Word) (y : Bool) → (c == 45) ≡ y
        → option_and_then Rattle.clap.specs.Lexer.long_of_rest
        (Rattle.clap.specs.Lexer.strip_byte 45
        (c ∷ t)) ≡ Rattle.command_line.specs.Options.after_dash (c ∷ t)
    second c t y e = grind (arith, rest)

    go : (x : Bool) → (b == 45) ≡ x → (t : Word) → long_of (b ∷ t) ≡ option_of (b ∷ t)
    go x e t = grind (arith, second)

-- a word that does not begin with `-` is no flag
pub plain_is : (word : Word) → has_dash word ≡ false → (option_of word ≡ None)
    × (short_of word ≡ None) × (bytes_eq word (45 ∷ 45 ∷ []) ≡ false)
plain_is word e = grind arith

-- a word of options alone: an option, or one that does not begin with `-`
pub sound_word : (word : Word) → is_stray word ≡ false → option_of word ≡ None
    → has_dash word ≡ false
sound_word word e none = grind (arith, go, is_some)
  where
    go : (x : Bool) → (x && true) ≡ false → x ≡ false
    go x h = grind arith

-- `--name` is not `--`
pub not_dashes : (word : Word) (p : Word × Option Word) → option_of word ≡ Some p
    → bytes_eq word (45 ∷ 45 ∷ []) ≡ false
not_dashes [] p e = refl
not_dashes (b ∷ []) p e = go (b == 45)
  where
    go : (x : Bool) → (x && false) ≡ false
    go x = grind arith
not_dashes (b ∷ c ∷ []) p e = absurd (go (b == 45) (c == 45) e)
  where
    go : (x y : Bool) → cond x (cond y None None) None ≡ Some p → ⊥
    go x y h = grind arith
not_dashes (b ∷ c ∷ d ∷ text) p e = go (b == 45) (c == 45)
  where
    go : (x y : Bool) → (x && (y && false)) ≡ false
    go x y = grind arith

-- ---- the walk

abbrev pub idle_at : Held → Walk
idle_at h = record { held = h; waiting = idle; position = 1; is_trailing = false; stopped = None }

abbrev pub waits_at : Word → Held → Walk
waits_at name h =
    record { held = h; waiting = option name; position = 1; is_trailing = false; stopped = None }

module _ (name : Word) (known : List Known) where
  abbrev pub turn : Walk → Word → Kinds
  turn w word = turn_fault (shape_for name known) [] w word

  abbrev pub after : Walk → Word → Walk
  after w word = walked (rules_for known) [] w word

  abbrev pub open_fault : Held → Kinds
  open_fault h = settle_fault (rules_for known) false h

  no_index : (ks : List Known) → Rattle.clap.specs.Walk.arg_by_index (rules_for ks) 1 ≡ None
  no_index [] = refl
  no_index (k ∷ ks) = no_index ks

  -- an option that the command lacks
  idle_unknown : (h : Held) (word n : Word) (v : Option Word) → option_of word ≡ Some (n, v)
      → known_as n known ≡ None
      → turn (idle_at h) word ≡ kind.UnknownArgument ∷ []
  idle_unknown h word n v e none = grind (arith, long_is, not_dashes, no_long)

  waits_unknown : (name' : Word) (h : Held) (word n : Word) (v : Option Word)
      → option_of word ≡ Some (n, v) → known_as n known ≡ None
      → turn (waits_at name' h) word ≡ kind.UnknownArgument ∷ []
  waits_unknown name' h word n v e none = grind (arith, long_is, not_dashes, no_long)

  -- `--name=value`
  idle_attached : (h : Held) (word n v : Word) (m : Word) (r : Bool)
      → option_of word ≡ Some (n, Some v) → known_as n known ≡ Some (valued m r)
      → turn (idle_at h) word ≡ or_else
      (or_else (open_fault h)
      (use_fault false (rule_for (valued m r)) (v ∷ []) (settled (rules_for known) h).rows)) []
  idle_attached h word n v m r e hit =
      let l : long_of word ≡ Some (n, Some v) = long_is word ∙ e in
      rw (not_dashes word (n, Some v) e, l, found_long known n (valued m r) hit) refl

  waits_attached : (name' : Word) (h : Held) (word n v : Word) (m : Word) (r : Bool)
      → option_of word ≡ Some (n, Some v) → known_as n known ≡ Some (valued m r)
      → turn (waits_at name' h) word ≡ or_else
      (or_else (open_fault h)
      (use_fault false (rule_for (valued m r)) (v ∷ []) (settled (rules_for known) h).rows)) []
  waits_attached name' h word n v m r e hit =
      let l : long_of word ≡ Some (n, Some v) = long_is word ∙ e in
      rw (not_dashes word (n, Some v) e, l, found_long known n (valued m r) hit) refl

  after_attached : (h : Held) (word n v : Word) (m : Word) (r : Bool)
      → option_of word ≡ Some (n, Some v) → known_as n known ≡ Some (valued m r)
      → after (idle_at h) word ≡ idle_at
      (record {
        rows = used (rule_for (valued m r)) (v ∷ []) (settled (rules_for known) h).rows;
        pending = None;
        skip = h.skip;
      })
  unfolding walked
  after_attached h word n v m r e hit = grind (arith, long_is, not_dashes, found_long)

  -- `--name`
  idle_alone : (h : Held) (word n : Word) (m : Word) (r : Bool) → option_of word ≡ Some (n, None)
      → known_as n known ≡ Some (valued m r)
      → turn (idle_at h) word ≡ or_else (open_fault h) []
  idle_alone h word n m r e hit =
      let l : long_of word ≡ Some (n, None) = long_is word ∙ e in
      rw (not_dashes word (n, None) e, l, found_long known n (valued m r) hit) refl

  waits_alone : (name' : Word) (h : Held) (word n : Word) (m : Word) (r : Bool)
      → option_of word ≡ Some (n, None) → known_as n known ≡ Some (valued m r)
      → turn (waits_at name' h) word ≡ or_else (open_fault h) []
  waits_alone name' h word n m r e hit =
      let l : long_of word ≡ Some (n, None) = long_is word ∙ e in
      rw (not_dashes word (n, None) e, l, found_long known n (valued m r) hit) refl

  after_alone : (h : Held) (word n : Word) (m : Word) (r : Bool) → option_of word ≡ Some (n, None)
      → known_as n known ≡ Some (valued m r)
      → after (idle_at h) word ≡ waits_at m
      (record { rows = (settled (rules_for known) h).rows; pending = Some (m, []); skip = h.skip })
  unfolding walked
  after_alone h word n m r e hit = grind (arith, long_is, not_dashes, found_long)

  -- a flag
  idle_flag : (h : Held) (word n m : Word) → option_of word ≡ Some (n, None)
      → known_as n known ≡ Some (flag m)
      → turn (idle_at h) word ≡ or_else
      (or_else (open_fault h)
      (use_fault false (rule_for (flag m)) [] (settled (rules_for known) h).rows)) []
  idle_flag h word n m e hit =
      let l : long_of word ≡ Some (n, None) = long_is word ∙ e in
      rw (not_dashes word (n, None) e, l, found_long known n (flag m) hit) refl

  waits_flag : (name' : Word) (h : Held) (word n m : Word) → option_of word ≡ Some (n, None)
      → known_as n known ≡ Some (flag m)
      → turn (waits_at name' h) word ≡ or_else
      (or_else (open_fault h)
      (use_fault false (rule_for (flag m)) [] (settled (rules_for known) h).rows)) []
  waits_flag name' h word n m e hit =
      let l : long_of word ≡ Some (n, None) = long_is word ∙ e in
      rw (not_dashes word (n, None) e, l, found_long known n (flag m) hit) refl

  after_flag_word : (h : Held) (word n m : Word) → option_of word ≡ Some (n, None)
      → known_as n known ≡ Some (flag m)
      → after (idle_at h) word ≡ idle_at
      (record {
        rows = used (rule_for (flag m)) [] (settled (rules_for known) h).rows;
        pending =
            None;
        skip = h.skip;
      })
  unfolding walked
  after_flag_word h word n m e hit = grind (arith, long_is, not_dashes, found_long)

  idle_flag_value : (h : Held) (word n m t : Word) → option_of word ≡ Some (n, Some t)
      → known_as n known ≡ Some (flag m)
      → turn (idle_at h) word ≡ kind.TooManyValues ∷ []
  idle_flag_value h word n m t e hit =
      let l : long_of word ≡ Some (n, Some t) = long_is word ∙ e in
      rw (not_dashes word (n, Some t) e, l, found_long known n (flag m) hit) refl

  waits_flag_value : (name' : Word) (h : Held) (word n m t : Word)
      → option_of word ≡ Some (n, Some t) → known_as n known ≡ Some (flag m)
      → turn (waits_at name' h) word ≡ kind.TooManyValues ∷ []
  waits_flag_value name' h word n m t e hit =
      let l : long_of word ≡ Some (n, Some t) = long_is word ∙ e in
      rw (not_dashes word (n, Some t) e, l, found_long known n (flag m) hit) refl

  -- the value of the option before
  abbrev pub holds : Word → List Word → List Row → ℕ → Held
  holds n values rows skip = record { rows = rows; pending = Some (n, values); skip = skip }

  after_plain : (n : Word) (m : Word) (r : Bool) (rows : List Row) (skip : ℕ) (word : Word)
      → has_dash word ≡ false → known_as n known ≡ Some (valued m r)
      → after (waits_at m (holds m [] rows skip)) word ≡ idle_at (holds m (word ∷ []) rows skip)
  unfolding walked
  after_plain n m r rows skip word plain hit =
      let p = plain_is word plain in
      let l : long_of word ≡ None = long_is word ∙ p.0 in
      rw (p.2, l, p.1, found_id known n (valued m r) hit, (bytes_eq-Decides m m).1 refl) refl

  -- ---- all the words

  abbrev pub end : Walk → List Word → Walk
  end w words = fold (walked (rules_for known) []) w words

  abbrev pub part : Walk → List Word → Kinds
  part w words =
      or_else (walk_fault (shape_for name known) [] w words) (open_fault (end w words).held)

  abbrev pub Agrees : Option Written → Kinds → Held → Type 0
  Agrees None kinds h = kinds ≡ [] → ⊥
  Agrees (Some seen) kinds h = (kinds ≡ []) × ((settled (rules_for known) h).rows ≡ rows_for seen)

  moved : (o : Option Written) (w w2 : Walk) (word : Word) (words : List Word) → turn w word ≡ []
      → after w word ≡ w2
      → Agrees o (part w2 words) (end w2 words).held
      → Agrees o (part w (word ∷ words)) (end w (word ∷ words)).held
  unfolding walk_fault
  moved o w w2 word words none is h = grind (arith, part, after, end, shape_for, open_fault)

  stuck : (w : Walk) (word : Word) (words : List Word) (x : ErrorKind) (xs : Kinds)
      → turn w word ≡ x ∷ xs → part w (word ∷ words) ≡ [] → ⊥
  unfolding walk_fault
  stuck w word words x xs e h = grind (arith, shape_for, after, open_fault, end)

  -- what is open fails: so do the words
  open_holds : (k : Known) (n : Word) (values : List Word) (rows : List Row) (skip : ℕ)
      → known_as n known ≡ Some k
      → open_fault (holds (name_of k) values rows skip) ≡ use_fault false (rule_for k) values rows
  open_holds k n values rows skip hit = rw (found_id known n k hit) refl

  settled_holds : (k : Known) (n : Word) (values : List Word) (rows : List Row) (skip : ℕ)
      → known_as n known ≡ Some k
      → (settled (rules_for known) (holds (name_of k) values rows skip)).rows ≡ used
      (rule_for k) values rows
  settled_holds k n values rows skip hit = rw (found_id known n k hit) refl

  idle_long_stuck : (h : Held) (word : Word) (words : List Word) (n : Word) (v : Option Word)
      (x : ErrorKind) (xs : Kinds) → open_fault h ≡ x ∷ xs
      → option_of word ≡ Some (n, v) → part (idle_at h) (word ∷ words) ≡ [] → ⊥
  idle_long_stuck h word words n v x xs bad e = go v (known_as n known) e refl
    where
      go : (v' : Option Word) (ko : Option Known) → option_of word ≡ Some (n, v')
          → known_as n known ≡ ko → part (idle_at h) (word ∷ words) ≡ [] → ⊥
      go v' None e' hit =
          stuck (idle_at h) word words kind.UnknownArgument [] (idle_unknown h word n v' e' hit)
      go None (Some (valued m r)) e' hit =
          stuck (idle_at h) word words x xs
          (idle_alone h word n m r e' hit ∙ ap (λ (ks : Kinds). or_else ks []) bad)
      go (Some t) (Some (valued m r)) e' hit =
          stuck (idle_at h) word words x xs (idle_attached h word n t m r e' hit
          ∙ ap (λ (ks : Kinds). or_else
          (or_else ks (use_fault false (rule_for (valued m r)) (t ∷ [])
          (settled (rules_for known) h).rows)) []) bad)
      go None (Some (flag m)) e' hit =
          stuck (idle_at h) word words x xs (idle_flag h word n m e' hit
          ∙ ap (λ (ks : Kinds). or_else
          (or_else ks (use_fault false (rule_for (flag m)) [] (settled (rules_for known) h).rows))
          []) bad)
      go (Some t) (Some (flag m)) e' hit =
          stuck (idle_at h) word words kind.TooManyValues [] (idle_flag_value h word n m t e' hit)

  waits_long_stuck : (name' : Word) (h : Held) (word : Word) (words : List Word) (n : Word)
      (v : Option Word) (x : ErrorKind) (xs : Kinds) → open_fault h ≡ x ∷ xs
      → option_of word ≡ Some (n, v) → part (waits_at name' h) (word ∷ words) ≡ [] → ⊥
  waits_long_stuck name' h word words n v x xs bad e = go v (known_as n known) e refl
    where
      go : (v' : Option Word) (ko : Option Known) → option_of word ≡ Some (n, v')
          → known_as n known ≡ ko → part (waits_at name' h) (word ∷ words) ≡ [] → ⊥
      go v' None e' hit =
          stuck (waits_at name' h) word words kind.UnknownArgument []
          (waits_unknown name' h word n v' e' hit)
      go None (Some (valued m r)) e' hit =
          stuck (waits_at name' h) word words x xs
          (waits_alone name' h word n m r e' hit ∙ ap (λ (ks : Kinds). or_else ks []) bad)
      go (Some t) (Some (valued m r)) e' hit =
          stuck (waits_at name' h) word words x xs (waits_attached name' h word n t m r e' hit
          ∙ ap (λ (ks : Kinds). or_else
          (or_else ks (use_fault false (rule_for (valued m r)) (t ∷ [])
          (settled (rules_for known) h).rows)) []) bad)
      go None (Some (flag m)) e' hit =
          stuck (waits_at name' h) word words x xs (waits_flag name' h word n m e' hit
          ∙ ap (λ (ks : Kinds). or_else
          (or_else ks (use_fault false (rule_for (flag m)) [] (settled (rules_for known) h).rows))
          []) bad)
      go (Some t) (Some (flag m)) e' hit =
          stuck (waits_at name' h) word words kind.TooManyValues []
          (waits_flag_value name' h word n m t e' hit)

  -- an option was repeated: whatever follows, the words fail
  repeated : (words : List Word) (h : Held) (x : ErrorKind) (xs : Kinds)
      → list_any is_stray words ≡ false → open_fault h ≡ x ∷ xs → part (idle_at h) words ≡ [] → ⊥
  unfolding walk_fault
  repeated [] h x xs sound bad =
      λ none. let clash : (x ∷ xs) ≡ [] = sym bad ∙ none in cc
  repeated (word ∷ words) h x xs sound bad = go (option_of word) refl
    where
      go : (p : Option (Word × Option Word)) → option_of word ≡ p
          → part (idle_at h) (word ∷ words) ≡ [] → ⊥
      go None e = grind (arith, sound_word, or_parts, plain_is, long_is, no_index)
      go (Some p) e = idle_long_stuck h word words p.0 p.1 x xs bad e

  abbrev pub IdleReads : List Word → Type 0
  IdleReads words = (h : Held) (seen : Written) → open_fault h ≡ []
      → (settled (rules_for known) h).rows ≡ rows_for seen
      → Agrees (options_from known words seen None) (part (idle_at h) words)
      (end (idle_at h) words).held

  abbrev pub WaitsReads : List Word → Type 0
  WaitsReads words = (m : Word) (r : Bool) (n : Word) (skip : ℕ) (seen : Written)
      → known_as n known ≡ Some (valued m r)
      → Agrees (options_from known words seen (Some m))
      (part (waits_at m (holds m [] (rows_for seen) skip)) words)
      (end (waits_at m (holds m [] (rows_for seen) skip)) words).held

  idle_step : (word : Word) (words : List Word) → is_stray word ≡ false → IdleReads words
      → WaitsReads words → IdleReads (word ∷ words)
  unfolding options_from
  idle_step word words sound idles waits h seen none rows = go (option_of word) refl
    where
      w : Walk
      w = idle_at h

      once : (n v m : Word) (r : Bool) → option_of word ≡ Some (n, Some v)
          → known_as n known ≡ Some (valued m r) → (b : Bool) → has m seen ≡ b
          → Agrees (cond b None (options_from known words (seen ++ (m, v) ∷ []) None))
          (part (idle_at h) (word ∷ words)) (end (idle_at h) (word ∷ words)).held
      once n v m r e hit true twice =
          stuck (idle_at h) word words kind.ArgumentConflict [] (idle_attached h word n v m r e hit
          ∙ ap₂ (λ (a : Kinds) (rs : List Row). or_else
          (or_else a (use_fault false (rule_for (valued m r)) (v ∷ []) rs)) []) none rows
          ∙ ap (λ (a : Kinds). or_else a []) (use_fails m r v seen twice))
      once n v m r e hit false first =
          let held : Held
          = record {
            rows =
                used (rule_for (valued m r)) (v ∷ []) (settled (rules_for known) h).rows;
            pending = None;
            skip = h.skip;
          } in
          let passes : turn (idle_at h) word ≡ [] = idle_attached h word n v m r e hit
          ∙ ap₂ (λ (a : Kinds) (rs : List Row). or_else
          (or_else a (use_fault false (rule_for (valued m r)) (v ∷ []) rs)) []) none rows
          ∙ ap (λ (a : Kinds). or_else a []) (use_passes m r v seen first) in
          moved _ (idle_at h) (idle_at held) word words passes (after_attached h word n v m r e hit)
          (idles held (seen ++ (m, v) ∷ []) refl
          (ap (used (rule_for (valued m r)) (v ∷ [])) rows ∙ used_once m r v seen first))

      flagged : (n m : Word) → option_of word ≡ Some (n, None) → known_as n known ≡ Some (flag m)
          → (b : Bool) → has m seen ≡ b
          → Agrees (cond b None (options_from known words (seen ++ (m, codes "true") ∷ []) None))
          (part (idle_at h) (word ∷ words)) (end (idle_at h) (word ∷ words)).held
      flagged n m e hit true twice =
          stuck (idle_at h) word words kind.ArgumentConflict [] (idle_flag h word n m e hit
          ∙ ap₂ (λ (a : Kinds) (rs : List Row). or_else
          (or_else a (use_fault false (rule_for (flag m)) [] rs)) []) none rows
          ∙ ap (λ (a : Kinds). or_else a []) (flag_fails m seen twice))
      flagged n m e hit false first =
          let held : Held
          = record {
            rows = used (rule_for (flag m)) [] (settled (rules_for known) h).rows;
            pending = None;
            skip = h.skip;
          } in
          let passes : turn (idle_at h) word ≡ [] = idle_flag h word n m e hit
          ∙ ap₂ (λ (a : Kinds) (rs : List Row). or_else
          (or_else a (use_fault false (rule_for (flag m)) [] rs)) []) none rows
          ∙ ap (λ (a : Kinds). or_else a []) (flag_passes m seen first) in
          moved _ (idle_at h) (idle_at held) word words passes (after_flag_word h word n m e hit)
          (idles held (seen ++ (m, codes "true") ∷ []) refl
          (ap (used (rule_for (flag m)) []) rows ∙ flag_used m seen first))

      named : (n : Word) (v : Option Word) → option_of word ≡ Some (n, v) → (ko : Option Known)
          → known_as n known ≡ ko
          → Agrees (begun ko v seen (options_from known words)) (part (idle_at h) (word ∷ words))
          (end (idle_at h) (word ∷ words)).held
      named n v e None hit =
          stuck (idle_at h) word words kind.UnknownArgument [] (idle_unknown h word n v e hit)
      named n None e (Some (valued m r)) hit =
          let held : Held
          = record {
            rows = (settled (rules_for known) h).rows;
            pending = Some (m, []);
            skip =
                h.skip;
          } in
          let same : held ≡ holds m [] (rows_for seen) h.skip
          = ap (λ (rs : List Row). holds m [] rs h.skip) rows in
          moved _ (idle_at h) (waits_at m (holds m [] (rows_for seen) h.skip)) word words
          (idle_alone h word n m r e hit ∙ ap (λ (a : Kinds). or_else a []) none)
          (after_alone h word n m r e hit ∙ ap (waits_at m) same) (waits m r n h.skip seen hit)
      named n None e (Some (flag m)) hit = flagged n m e hit (has m seen) refl
      named n (Some v) e (Some (flag m)) hit =
          stuck (idle_at h) word words kind.TooManyValues [] (idle_flag_value h word n m v e hit)
      named n (Some v) e (Some (valued m r)) hit = once n v m r e hit (has m seen) refl

      go : (p : Option (Word × Option Word)) → option_of word ≡ p
          → Agrees (at_word known p seen (options_from known words))
          (part (idle_at h) (word ∷ words)) (end (idle_at h) (word ∷ words)).held
      go None e = stuck (idle_at h) word words kind.UnknownArgument []
          (grind (arith, plain_is, long_is, no_index, sound_word))
      go (Some p) e = named p.0 p.1 e (known_as p.0 known) refl

  waits_step : (word : Word) (words : List Word) → is_stray word ≡ false
      → list_any is_stray words ≡ false → IdleReads words → WaitsReads (word ∷ words)
  unfolding options_from
  waits_step word words sound others idles m r n skip seen hit = go (has_dash word) refl
    where
      dashed : (p : Option (Word × Option Word)) → option_of word ≡ p → has_dash word ≡ true
          → part (waits_at m (holds m [] (rows_for seen) skip)) (word ∷ words) ≡ [] → ⊥
      dashed None e dash = absurd (true≢false (sym dash ∙ sound_word word sound e))
      dashed (Some p) e dash =
          waits_long_stuck m
          (holds m [] (rows_for seen) skip) word words p.0 p.1 kind.InvalidValue []
          (open_holds (valued m r) n [] (rows_for seen) skip hit ∙ use_empty m r seen) e

      once : has_dash word ≡ false → (b : Bool) → has m seen ≡ b
          → Agrees (cond b None (options_from known words (seen ++ (m, word) ∷ []) None))
          (part (waits_at m (holds m [] (rows_for seen) skip)) (word ∷ words))
          (end (waits_at m (holds m [] (rows_for seen) skip)) (word ∷ words)).held
      once plain true twice =
          moved None (waits_at m (holds m [] (rows_for seen) skip))
          (idle_at (holds m (word ∷ []) (rows_for seen) skip)) word words
          (grind (arith, plain_is, long_is, holds))
          (after_plain n m r (rows_for seen) skip word plain hit)
          (repeated words (holds m (word ∷ []) (rows_for seen) skip) kind.ArgumentConflict [] others
          (open_holds (valued m r) n (word ∷ []) (rows_for seen) skip hit
          ∙ use_fails m r word seen twice))
      once plain false first =
          moved _ (waits_at m (holds m [] (rows_for seen) skip))
          (idle_at (holds m (word ∷ []) (rows_for seen) skip)) word words
          (grind (arith, plain_is, long_is, holds))
          (after_plain n m r (rows_for seen) skip word plain hit)
          (idles (holds m (word ∷ []) (rows_for seen) skip) (seen ++ (m, word) ∷ [])
          (open_holds (valued m r) n (word ∷ []) (rows_for seen) skip hit
          ∙ use_passes m r word seen first)
          (settled_holds (valued m r) n (word ∷ []) (rows_for seen) skip hit
          ∙ used_once m r word seen first))

      go : (d : Bool) → has_dash word ≡ d
          → Agrees (cond d None (one_more m word seen (options_from known words)))
          (part (waits_at m (holds m [] (rows_for seen) skip)) (word ∷ words))
          (end (waits_at m (holds m [] (rows_for seen) skip)) (word ∷ words)).held
      go d dash = grind (arith, dashed, once)

  pub reads : (words : List Word) → list_any is_stray words ≡ false → IdleReads words
      × WaitsReads words
  unfolding options_from walk_fault
  reads [] sound = (
    λ h seen none rows. (none, rows),
    λ m r n skip seen hit none.
        let clash : (kind.InvalidValue ∷ []) ≡ []
        = sym (open_holds (valued m r) n [] (rows_for seen) skip hit ∙ use_empty m r seen) ∙ none in
        cc,
  )
  reads (word ∷ words) sound =
      let parts : (is_stray word ≡ false) × (list_any is_stray words ≡ false)
      = or_parts _ _ sound in
      let next = reads words parts.1 in
      (idle_step word words parts.0 next.0 next.1, waits_step word words parts.0 parts.1 next.0)
