-- From the walk to what a parse answers.
use Rattle.std.proofs.Common.{◌≡◌, ◌∙◌, ◌⊎◌, inl, append_assoc, append-nil, ◌&&◌, ◌||◌, ℕ, Bool}
use Rattle.std.proofs.Common.{cond, codes, true, false, not, refl, sym, ap, ap₂, List, [], ◌∷◌}
use Rattle.std.proofs.Common.{◌++◌, map, Option, Some, None, is_some, arith}
use Rattle.std.specs.List.{find, fold, list_all, list_any}
use Rattle.std.specs.Option.{option_map, option_map_or}
use Rattle.std.specs.Prelude.{option_and_then, slice_get}
use Rattle.std.specs.Str.{bytes_eq}
use Rattle.clap.specs.Kinds.{Kinds, or_else}
use Rattle.clap.specs.Walk.{Held, Row, Rule, Walk, has_row, settled, finished, with_default, walk}
use Rattle.clap.specs.Walk.{nothing_held, rows_after, first_of, reading_by, with_values}
use Rattle.clap.specs.Simple.{filled_from, is_simple, matches_of}
use Rattle.clap.specs.Takes.{is_given}
use Rattle.clap.specs.Faults.{default_fault, defaults_fault, check_fault}
use Rattle.clap.specs.Faults.{level_fault, fault_of, is_simple_and_free}
use Rattle.std.proofs.lemmas.List.{map-append}
use Rattle.clap.specs.declared.parser.matches.ValueSource.TheVariants.{DefaultValue}
use Rattle.clap.proofs.FaultLemmas.{leaf_fault}
use Rattle.clap.specs.declared.error.kind.ErrorKind.TheVariants as kind
use Rattle.command_line.specs.Options.{Word, Known, Written, value_of, flag, flag_named}
use Rattle.command_line.specs.Options.{is_required, name_of, valued, has, is_stray, options_from}
use Rattle.command_line.specs.Options.{has_required, options_of, if_all_there}
use Rattle.command_line.specs.Clap.{app_for, raw_rule}
use Rattle.command_line.proofs.Walking.{Agrees, idle_at, part, reads, row_for, rows_for, rule_for}
use Rattle.command_line.proofs.Walking.{rules_for, shape_for}

-- ---- defaults: a flag that was not written gets `false`

abbrev pub flag_row : Word → Row
flag_row m =
    record {
      id = m;
      values = codes "false" ∷ [];
      count = None;
      source = Some DefaultValue;
      reading = reading_by (rule_for (flag m));
    }

abbrev pub in_names : Word → List Word → Bool
in_names name fs = list_any (λ f. bytes_eq f name) fs

abbrev pub rows_with : Written → List Word → List Row
rows_with seen fs = rows_for seen ++ map flag_row fs

default_passes : (rows : List Row) (k : Known) → default_fault rows (rule_for k) ≡ []
default_passes rows (valued m r) = grind (arith, rule_for)
default_passes rows (flag m) = grind (arith, rule_for, codes)

no_defaults : (ks : List Known) (rows : List Row) → defaults_fault rows (rules_for ks) ≡ []
unfolding defaults_fault
no_defaults [] rows = refl
no_defaults (k ∷ ks) rows =
    ap (λ (a : Kinds). or_else a (defaults_fault (with_default rows (rule_for k)) (rules_for ks)))
    (default_passes rows k) ∙ no_defaults ks (with_default rows (rule_for k))

or_parts : (a b : Bool) → (a || b) ≡ false → (a ≡ false) × (b ≡ false)
or_parts a b e = grind arith

flag_added : (m : Word) (rows : List Row) → has_row m rows ≡ false
    → with_values m (reading_by (rule_for (flag m))) DefaultValue
    (codes "false" ∷ []) rows ≡ rows ++ flag_row m ∷ []
flag_added m [] e = refl
flag_added m (o ∷ os) e =
    let parts : (bytes_eq o.id m ≡ false) × (has_row m os ≡ false) = or_parts _ _ e in
    rw (parts.0) (ap (λ (rs : List Row). o ∷ rs) (flag_added m os parts.1))

in_more : (name m : Word) (fs : List Word) (c : Bool) → (in_names name (fs ++ m ∷ []) || c) ≡ true
    → (in_names name fs || (bytes_eq m name || c)) ≡ true
in_more name m [] c e = grind arith
in_more name m (f ∷ fs) c e = go (bytes_eq f name) e (in_more name m fs c)
  where
    go : (b : Bool) → ((b || in_names name (fs ++ m ∷ [])) || c) ≡ true
        → ((in_names name (fs ++ m ∷ []) || c) ≡ true
        → (in_names name fs || (bytes_eq m name || c)) ≡ true)
        → ((b || in_names name fs) || (bytes_eq m name || c)) ≡ true
    go b h next = grind arith

abbrev Ends : Word → List Known → Written → List Word → List Row → Type 0
Ends name ks seen fs rows = (gs : List Word) × (rows ≡ rows_with seen gs)
    × (in_names name gs ≡ true → (in_names name fs || flag_named name ks) ≡ true)

ends : (name : Word) (ks : List Known) (seen : Written) (fs : List Word)
    → Ends name ks seen fs (fold with_default (rows_with seen fs) (rules_for ks))
ends name [] seen fs = (fs, refl, grind arith)
ends name (valued m r ∷ ks) seen fs = go (has_row m (rows_with seen fs)) (ends name ks seen fs)
  where
    go : (b : Bool) → Ends name ks seen fs (fold with_default (rows_with seen fs) (rules_for ks))
        → Ends name (valued m r ∷ ks) seen fs
        (fold with_default (cond b (rows_with seen fs) (rows_with seen fs)) (rules_for ks))
    go b h = grind arith
ends name (flag m ∷ ks) seen fs =
    go (has_row m (rows_with seen fs)) refl (ends name ks seen fs)
    (ends name ks seen (fs ++ m ∷ []))
  where
    go : (b : Bool) → has_row m (rows_with seen fs) ≡ b
        → Ends name ks seen fs (fold with_default (rows_with seen fs) (rules_for ks))
        → Ends name ks seen (fs ++ m ∷ [])
        (fold with_default (rows_with seen (fs ++ m ∷ [])) (rules_for ks))
        → Ends name (flag m ∷ ks) seen fs (fold with_default (cond b (rows_with seen fs)
        (with_values m (reading_by (rule_for (flag m))) DefaultValue (codes "false" ∷ [])
        (rows_with seen fs))) (rules_for ks))
    go true there h next = grind arith
    go false first h next =
        let longer : with_values m (reading_by (rule_for (flag m))) DefaultValue
        (codes "false" ∷ []) (rows_with seen fs) ≡ rows_with seen (fs ++ m ∷ []) =
        flag_added m (rows_with seen fs) first
        ∙ append_assoc (rows_for seen) (map flag_row fs) (flag_row m ∷ [])
        ∙ ap (λ (rs : List Row). rows_for seen ++ rs) (sym (map-append flag_row fs (m ∷ []))) in (
          next.0,
          ap (λ (rs : List Row). fold with_default rs (rules_for ks)) longer
              ∙ next.1,
          λ e. in_more name m fs (flag_named name ks) (next.2 e),
        )

-- ---- what is required

none_given : (name : Word) (gs : List Word) → is_given name (map flag_row gs) ≡ false
none_given name [] = refl
none_given name (g ∷ gs) = go (bytes_eq g name) (none_given name gs)
  where
    go : (b : Bool) → is_given name (map flag_row gs) ≡ false
        → option_map_or (λ r. Rattle.clap.specs.Facts.explicit_source r.source)
        (cond b (Some (flag_row g)) (find (λ r. bytes_eq r.id name) (map flag_row gs)))
        false ≡ false
    go b e = grind arith

given_is : (name : Word) (seen : Written) (gs : List Word)
    → is_given name (rows_with seen gs) ≡ has name seen
given_is name [] gs = none_given name gs
given_is name (o ∷ os) gs = go (bytes_eq o.0 name) (given_is name os gs)
  where
    go : (b : Bool) → is_given name (rows_with os gs) ≡ has name os
        → option_map_or (λ r. Rattle.clap.specs.Facts.explicit_source r.source)
        (cond b (Some (row_for o)) (find (λ r. bytes_eq r.id name) (rows_with os gs)))
        false ≡ (b || has name os)
    go b e = grind arith

missing_is : (ks : List Known) (seen : Written) (gs : List Word)
    → list_any (λ a. a.required && not (is_given a.id (rows_with seen gs))) (rules_for ks) ≡ not
    (has_required ks seen)
missing_is [] seen gs = refl
missing_is (k ∷ ks) seen gs =
    ap₂ (λ (g m : Bool). (is_required k && not g) || m) (given_is (name_of k) seen gs)
    (missing_is ks seen gs) ∙ go (is_required k) (has (name_of k) seen) (has_required ks seen)
  where
    go : (r g m : Bool) → ((r && not g) || not m) ≡ not ((not r || g) && m)
    go r g m = grind arith

-- ---- the whole level

abbrev pub Comes : List Known → Option Written → Kinds → List Row → Type 0
Comes known None kinds rows = kinds ≡ [] → ⊥
Comes known (Some seen) kinds rows = (kinds ≡ [])
    × ((name : Word) → (gs : List Word) × (rows ≡ rows_with seen gs)
    × (in_names name gs ≡ true → flag_named name known ≡ true))

module _ (name : Word) (known : List Known) where
  abbrev level : List Word → Kinds
  level words = level_fault (shape_for name known) [] nothing_held words false []

  abbrev last : List Word → Held
  last words = (walk (rules_for known) [] nothing_held words).held

  abbrev checks : Held → Kinds
  checks h = check_fault (shape_for name known) (finished (rules_for known) h) false

  joined : (a b c d : Kinds) → c ≡ []
      → or_else a (or_else [] (or_else b (or_else c d))) ≡ or_else (or_else a b) d
  joined a b c d e = grind arith

  level_is : (words : List Word)
      → level words ≡ or_else (part name known (idle_at nothing_held) words) (checks (last words))
  level_is words = grind (arith, joined, shape_for, idle_at, last, checks, no_defaults)

  last_rows : (wanted : Word) (h : Held) (seen : Written)
      → (settled (rules_for known) h).rows ≡ rows_for seen
      → (gs : List Word) × (finished (rules_for known) h ≡ rows_with seen gs)
      × (in_names wanted gs ≡ true → flag_named wanted known ≡ true)
  last_rows wanted h seen e =
      let all = ends wanted known seen [] in
      grind (arith, append-nil)

  checked : (h : Held) (seen : Written) → (settled (rules_for known) h).rows ≡ rows_for seen
      → checks h ≡ cond (not (has_required known seen)) (kind.MissingRequiredArgument ∷ []) []
  checked h seen e =
      let all = last_rows [] h seen e in
      ap (λ (rs : List Row). check_fault (shape_for name known) rs false) all.1
      ∙ ap (λ (b : Bool). cond b (kind.MissingRequiredArgument ∷ []) [])
      (missing_is known seen all.0)

  fails_first : (a b : Kinds) → (a ≡ [] → ⊥) → or_else a b ≡ [] → ⊥
  fails_first a b h e = grind arith

  level_reads : (words : List Word) → list_any is_stray words ≡ false
      → Comes known (options_of known words) (level words) (rows_after (rules_for known) [] words)
  level_reads words sound =
      rw sound (go (options_from known words [] None)
      ((reads name known words sound).0 nothing_held [] refl refl))
    where
      go : (o : Option Written)
          → Agrees name known o (part name known (idle_at nothing_held) words) (last words)
          → Comes known (option_and_then (if_all_there known) o) (level words)
          (rows_after (rules_for known) [] words)
      go None h = λ e. fails_first _ _ h (sym (level_is words) ∙ e)
      go (Some seen) h = there (has_required known seen) refl
        where
          is : level words ≡ cond (not (has_required known seen))
              (kind.MissingRequiredArgument ∷ []) []
          is = grind (arith, level_is, ap₂, checked)

          there : (b : Bool) → has_required known seen ≡ b
              → Comes known (cond b (Some seen) None) (level words)
              (rows_after (rules_for known) [] words)
          there b e = grind (arith, is, last_rows)

  -- ---- the command

  filled_is : (i : ℕ) (ks : List Known) → filled_from i (map raw_rule ks) ≡ rules_for ks
  filled_is i [] = refl
  filled_is i (k ∷ ks) = ap (λ (rs : List Rule). rule_for k ∷ rs) (filled_is i ks)

  all_simple : (ks : List Known) → list_all (λ a. a.is_simple) (map raw_rule ks) ≡ true
  all_simple [] = refl
  all_simple (k ∷ ks) = all_simple ks

  all_built : (ks : List Known) → list_all (λ a. a.is_simple) (rules_for ks) ≡ true
  all_built [] = refl
  all_built (k ∷ ks) = all_built ks

  all_free : (ks : List Known) → list_all (λ a. a.is_free) (rules_for ks) ≡ true
  all_free [] = refl
  all_free (k ∷ ks) = all_free ks

  in_order : (n : ℕ) (ks : List Known)
      → list_any (Rattle.clap.specs.Walk.is_early_multiple n) (rules_for ks) ≡ false
  in_order n [] = refl
  in_order n (k ∷ ks) = in_order n ks

  pub simple_is : is_simple (app_for name known) ≡ true
  simple_is = grind (arith, shape_for, all_simple, all_built, in_order, is_some, filled_is)

  pub free_is : is_simple_and_free (app_for name known) ≡ true
  free_is = grind (arith, ap₂, simple_is, all_free, shape_for, filled_is)

  pub clap_reads : (words : List Word) → list_any is_stray words ≡ false
      → Comes known (options_of known words) (fault_of (app_for name known) words)
      (matches_of (app_for name known) words)
  clap_reads words sound = grind (arith, leaf_fault, shape_for, rules_for, level_reads, filled_is)

-- ---- the values

-- the word that was found under a name is the one that was written, or `false` for a flag that was
-- not
abbrev pub Found : List Known → Written → Word → Option Word → Type 0
Found known seen name text = (text ≡ value_of name seen)
    ⊎ (text ≡ Some (codes "false")) × (value_of name seen ≡ None) × (flag_named name known ≡ true)

default_found : (known : List Known) (name : Word) (gs : List Word)
    → (in_names name gs ≡ true → flag_named name known ≡ true)
    → Found known [] name (first_of name (map flag_row gs))
default_found known name [] h = inl refl
default_found known name (g ∷ gs) h = go (bytes_eq g name) h (default_found known name gs)
  where
    go : (b : Bool) → ((b || in_names name gs) ≡ true → flag_named name known ≡ true)
        → ((in_names name gs ≡ true → flag_named name known ≡ true)
        → Found known [] name (first_of name (map flag_row gs)))
        → Found known [] name
        (option_and_then (λ (r : Row). slice_get r.values 0)
        (cond b (Some (flag_row g)) (find (λ r. bytes_eq r.id name) (map flag_row gs))))
    go b k next = grind arith

pub first_is : (known : List Known) (name : Word) (seen : Written) (gs : List Word)
    → (in_names name gs ≡ true → flag_named name known ≡ true)
    → Found known seen name (first_of name (rows_with seen gs))
first_is known name [] gs h = default_found known name gs h
first_is known name (o ∷ os) gs h = go (bytes_eq o.0 name) (first_is known name os gs h)
  where
    go : (b : Bool) → Found known os name (first_of name (rows_with os gs))
        → (option_and_then (λ (r : Row). slice_get r.values 0)
        (cond b (Some (row_for o)) (find (λ r. bytes_eq r.id name) (rows_with os gs)))
        ≡ option_map (λ o'. o'.1) (cond b (Some o) (find (λ o'. bytes_eq o'.0 name) os)))
        ⊎ (option_and_then (λ (r : Row). slice_get r.values 0)
        (cond b (Some (row_for o)) (find (λ r. bytes_eq r.id name) (rows_with os gs))) ≡ Some
        (codes "false"))
        × (option_map (λ o'. o'.1) (cond b (Some o) (find (λ o'. bytes_eq o'.0 name) os)) ≡ None)
        × (flag_named name known ≡ true)
    go b e = grind arith
