-- What a step of the table leaves of a key's holders, and that these are told of it.
use Rattle.std.proofs.Common.{◌≡◌, ℕ, List, [], ◌∷◌, Bool, true, false, cond}
use Rattle.std.proofs.Common.{length, take, drop, refl, ap, sym, ◌∙◌, arith, inl, inr, None, Some}
use Rattle.std.specs.Prelude.{◌==◌, ◌&&◌, ◌||◌, not, nat_lt}
use Prim.Native.Nat.{zero, suc}
use Rattle.std.specs.List.{list_any}
use Rattle.std.specs.Str.{bytes_eq}
use Rattle.std.proofs.lemmas.Slice.Eq.{bytes_eq-Decides}
use Rattle.std.proofs.lemmas.Bool.{eq-eqb, or_parts, or_left, or_right, or_cases, and_from}
use Rattle.std.proofs.lemmas.Bool.Decides.{nat_tests}
use Rattle.std.proofs.lemmas.List.Folds.{list_any-append}
use Rattle.std.proofs.lemmas.Map.Views.{any-filter_same}
use Rattle.command_words.specs.declared.command.Signalled.{Signalled}
use Rattle.command_words.specs.Laws.{signals}
use Rattle.track_table.specs.declared.table.Held.{Held}
use Rattle.id_set.specs.Ids.{with_id, without_id}
use Rattle.track_table.specs.Table.{holders_of, is_held, remembered, without_key, freed_of}
use Rattle.track_table.specs.Table.{without_connection, with_keys, without_keys}
use Rattle.track_table.proofs.Orders.{holders_remembered}
use Rattle.serial_model.specs.Modes.{Memory, Remembers, Registers, Forgets}
use Rattle.serial_model.specs.Tracking.{without_signalled, remembering, told_of}
use Rattle.serial_model.specs.Tracking.{group, drop_group, has_id, told_some, told_to, prefix_group}
use Rattle.serial_model.specs.Tracking.{tells, whole_group}
use Rattle.serial_model.specs.Laws.{is_among, is_forgets, has_prefix_of}
use Rattle.std.specs.List.{starts_with}
use Rattle.std.specs.Prelude.{filter, nat_eq}
use Rattle.std.proofs.lemmas.Bool.{and_parts}
use Rattle.prefix_table.specs.declared.table.Registration.{Registration}

same_bytes : (a b : List ℕ) → bytes_eq a b ≡ true → a ≡ b
same_bytes a b e = (bytes_eq-Decides a b).0 e

itself : (a : List ℕ) → bytes_eq a a ≡ true
itself a = (bytes_eq-Decides a a).1 refl

or_keeps : (a b d : Bool) → (b ≡ true → d ≡ true) → (a || b) ≡ true → (a || d) ≡ true
or_keeps a b d f h = grind (arith, nat_tests)

module _ (c : ℕ) where
  pub with_keeps : (id : ℕ) (ids : List ℕ) → has_id c ids ≡ true → has_id c (with_id id ids) ≡ true
  with_keeps id [] h = absurd (let no : ⊥ = cc in no)
  with_keeps id (x ∷ xs) h =
      elim (nat_lt x id) as (λ b. has_id c (cond b (x ∷ with_id id xs)
      (cond (x == id) (x ∷ xs) (id ∷ x ∷ xs))) ≡ true) [
        | true ↦ or_keeps (x == c) (has_id c xs) (has_id c (with_id id xs)) (with_keeps id xs) h
        | false ↦ grind (arith, or_right)
      ]

  pub with_itself : (ids : List ℕ) → has_id c (with_id c ids) ≡ true
  with_itself [] = or_left (c == c) false (eq-eqb c c refl)
  with_itself (x ∷ xs) = grind (arith, or_right, or_left, eq-eqb, with_itself xs)

  pub without_keeps : (id : ℕ) (ids : List ℕ) → (id == c) ≡ false → has_id c ids ≡ true
      → has_id c (without_id id ids) ≡ true
  without_keeps id ids other h =
      any-filter_same (λ x. x == c) (λ x. not (x == id)) true
      (λ x is. let apart : not (x == id) ≡ true = grind (arith, nat_tests) in apart) ids ∙ h

  pub some_held : (ids : List ℕ) → has_id c ids ≡ true → not (length ids == 0) ≡ true
  some_held [] h = absurd (let no : ⊥ = cc in no)
  some_held (x ∷ xs) h = grind (arith, nat_tests)

  module _ (key : List ℕ) where
    key_apart : (k : List ℕ) (rows : List Held) → bytes_eq key k ≡ false
        → holders_of key (without_key k rows) ≡ holders_of key rows
    key_apart k [] other = refl
    key_apart k (r ∷ rs) other =
        elim (bytes_eq k r.key) as (λ b. bytes_eq k r.key ≡ b
        → holders_of key (cond (not b) (r ∷ without_key k rs) (without_key k rs))
        ≡ holders_of key (r ∷ rs)) [
          | true ↦ λ e. key_apart k rs other
              ∙ sym (ap (λ b. cond b r.holders (holders_of key rs))
              (ap (bytes_eq key) (sym (same_bytes k r.key e)) ∙ other))
          | false ↦ λ e. ap (λ x. cond (bytes_eq key r.key) r.holders x) (key_apart k rs other)
        ] refl

    -- the keys of a group leave the holders of another key
    pub keys_apart : (keys : List (List ℕ)) (rows : List Held) → is_among keys key ≡ false
        → holders_of key (without_keys keys rows) ≡ holders_of key rows
    keys_apart [] rows h = refl
    keys_apart (k ∷ keys) rows h =
        let p = or_parts (bytes_eq key k) (is_among keys key) h in
        keys_apart keys (without_key k rows) p.1 ∙ key_apart k rows p.0

    -- and so do those that a command signals
    pub signalled_apart : (sig : Signalled) (rows : List Held) → signals sig key ≡ false
        → holders_of key (without_signalled sig rows) ≡ holders_of key rows
    signalled_apart sig rows h = grind (arith, keys_apart, nat_tests)

    remembered_keeps : (id : ℕ) (k : List ℕ) (rows : List Held)
        → has_id c (holders_of key rows) ≡ true
        → has_id c (holders_of key (remembered id k rows)) ≡ true
    remembered_keeps id k rows h =
        ap (has_id c) (holders_remembered key id k rows)
        ∙ elim (bytes_eq key k) as (λ b. bytes_eq key k ≡ b
        → has_id c (cond b (with_id id (holders_of k rows)) (holders_of key rows)) ≡ true) [
          | true ↦ λ e. with_keeps id (holders_of k rows)
              (ap (λ q. has_id c (holders_of q rows)) (sym (same_bytes key k e)) ∙ h)
          | false ↦ λ e. h
        ] refl

    pub remembered_own : (rows : List Held)
        → has_id c (holders_of key (remembered c key rows)) ≡ true
    remembered_own rows = grind (arith, holders_remembered, itself, with_itself)

    pub with_keys_keeps : (id : ℕ) (keys : List (List ℕ)) (rows : List Held)
        → has_id c (holders_of key rows) ≡ true
        → has_id c (holders_of key (with_keys id keys rows)) ≡ true
    with_keys_keeps id [] rows h = h
    with_keys_keeps id (k ∷ keys) rows h =
        with_keys_keeps id keys (remembered id k rows) (remembered_keeps id k rows h)

    later_stays : (id : ℕ) (r : Held) (rest : List Held) → bytes_eq key r.key ≡ false
        → has_id c (holders_of key rest) ≡ true
        → has_id c (holders_of key (cond (is_held (freed_of id r)) (freed_of id r ∷ rest) rest))
        ≡ true
    later_stays id r rest other h = grind arith

    -- another connection that is freed leaves the key to this one
    pub without_other : (id : ℕ) (rows : List Held) → (id == c) ≡ false
        → has_id c (holders_of key rows) ≡ true
        → has_id c (holders_of key (without_connection id rows)) ≡ true
    without_other id [] other h = h
    without_other id (r ∷ rs) other h =
        elim (bytes_eq key r.key) as (λ b. bytes_eq key r.key ≡ b
        → has_id c (cond b r.holders (holders_of key rs)) ≡ true
        → has_id c (holders_of key (without_connection id (r ∷ rs))) ≡ true) [
          | true ↦ grind (arith, without_keeps, some_held)
          | false ↦ λ e f. later_stays id r (without_connection id rs) e
              (without_other id rs other f)
        ] refl h

    -- the key stays the connection's, unless it is the one that forgets
    pub remembering_keeps : (id : ℕ) (memory : Memory) (rows : List Held)
        → ((id == c) && is_forgets memory) ≡ false → has_id c (holders_of key rows) ≡ true
        → has_id c (holders_of key (remembering id memory rows)) ≡ true
    remembering_keeps id (Remembers keys) rows other h = with_keys_keeps id keys rows h
    remembering_keeps id (Registers prefixes) rows other h = h
    remembering_keeps id Forgets rows other h = grind (arith, without_other, nat_tests)

    -- ---- of the keys past the limit, and those within

    -- a key is among those that are dropped, or its holders stay
    pub dropped_or_kept : (n : ℕ) (rows : List Held) → has_id c (holders_of key rows) ≡ true
        → (list_any (λ r. bytes_eq key r.key) (take n rows)
        || has_id c (holders_of key (drop n rows))) ≡ true
    dropped_or_kept zero rows h = h
    dropped_or_kept (suc n) [] h = absurd (let no : ⊥ = cc in no)
    dropped_or_kept (suc n) (r ∷ rs) h =
        elim (bytes_eq key r.key) as (λ b. has_id c (cond b r.holders (holders_of key rs)) ≡ true
        → ((b || list_any (λ r. bytes_eq key r.key) (take n rs))
        || has_id c (holders_of key (drop n rs))) ≡ true)
        [ true ↦ λ f. refl | false ↦ λ f. dropped_or_kept n rs f ] h

    -- ---- it is told of the key

    told_tells : (k : List ℕ) (ids : List ℕ) → bytes_eq key k ≡ true → has_id c ids ≡ true
        → list_any (tells c key) (told_of k ids) ≡ true
    told_tells k [] same h = absurd (let no : ⊥ = cc in no)
    told_tells k (x ∷ xs) same h = elim (or_cases (x == c) (has_id c xs) h) [
      | inl e ↦ or_left ((x == c) && (bytes_eq key k || false))
          (list_any (tells c key) (told_of k xs))
          (and_from (x == c) (bytes_eq key k || false) e (or_left (bytes_eq key k) false same))
      | inr e ↦ or_right ((x == c) && (bytes_eq key k || false))
          (list_any (tells c key) (told_of k xs)) (told_tells k xs same e)
    ]

    pub drop_tells : (n : ℕ) (rows : List Held) → has_id c (holders_of key rows) ≡ true
        → list_any (λ r. bytes_eq key r.key) (take n rows) ≡ true
        → list_any (tells c key) (drop_group (take n rows)) ≡ true
    drop_tells zero rows h some = absurd (let no : ⊥ = cc in no)
    drop_tells (suc n) [] h some = absurd (let no : ⊥ = cc in no)
    drop_tells (suc n) (r ∷ rs) h some =
        let told = list_any (tells c key) (told_of r.key r.holders) in
        let rest = list_any (tells c key) (drop_group (take n rs)) in
        list_any-append (tells c key) (told_of r.key r.holders) (drop_group (take n rs))
        ∙ elim (bytes_eq key r.key) as (λ b. bytes_eq key r.key ≡ b
        → has_id c (cond b r.holders (holders_of key rs)) ≡ true
        → (b || list_any (λ r. bytes_eq key r.key) (take n rs)) ≡ true
        → (told || rest) ≡ true) [
          | true ↦ λ e f g. or_left told rest (told_tells r.key r.holders e f)
          | false ↦ λ e f g. or_right told rest (drop_tells n rs f g)
        ] refl h some

    pub group_tells : (keys : List (List ℕ)) (rows : List Held) → is_among keys key ≡ true
        → has_id c (holders_of key rows) ≡ true
        → list_any (tells c key) (group keys rows) ≡ true
    group_tells [] rows among h = absurd (let no : ⊥ = cc in no)
    group_tells (k ∷ keys) rows among h =
        let told = list_any (tells c key) (told_of k (holders_of k rows)) in
        let rest = list_any (tells c key) (group keys (without_key k rows)) in
        list_any-append (tells c key) (told_of k (holders_of k rows))
        (group keys (without_key k rows))
        ∙ elim (bytes_eq key k) as (λ b. bytes_eq key k ≡ b → (b || is_among keys key) ≡ true
        → (told || rest) ≡ true) [
          | true ↦ λ e g. or_left told rest (told_tells k (holders_of k rows) e
              (ap (λ q. has_id c (holders_of q rows)) (sym (same_bytes key k e)) ∙ h))
          | false ↦ λ e g. or_right told rest (group_tells keys (without_key k rows) g
              (ap (has_id c) (key_apart k rows e) ∙ h))
        ] refl among

    pub flush_tells : (ids : List ℕ) → has_id c ids ≡ true
        → list_any (tells c key) (told_to None ids) ≡ true
    flush_tells [] h = absurd (let no : ⊥ = cc in no)
    flush_tells (x ∷ xs) h = elim (or_cases (x == c) (has_id c xs) h) [
      | inl e ↦ or_left ((x == c) && true) (list_any (tells c key) (told_to None xs))
          (and_from (x == c) true e refl)
      | inr e ↦ or_right ((x == c) && true) (list_any (tells c key) (told_to None xs))
          (flush_tells xs e)
    ]

    -- ---- and by a prefix of the key

    filter_among : (p : List ℕ → Bool) (keys : List (List ℕ)) → p key ≡ true
        → is_among keys key ≡ true → is_among (filter p keys) key ≡ true
    filter_among p [] e h = h
    filter_among p (k ∷ keys) e h = elim (or_cases (bytes_eq key k) (is_among keys key) h) [
      | inl f ↦ here (ap p (sym (same_bytes key k f)) ∙ e) f
      | inr f ↦ there (p k) (filter_among p keys e f)
    ]
      where
        here : p k ≡ true → bytes_eq key k ≡ true
            → is_among (cond (p k) (k ∷ filter p keys) (filter p keys)) key ≡ true
        here x f =
            ap (λ b. is_among (cond b (k ∷ filter p keys) (filter p keys)) key) x
            ∙ or_left _ _ f

        there : (b : Bool) → is_among (filter p keys) key ≡ true
            → is_among (cond b (k ∷ filter p keys) (filter p keys)) key ≡ true
        there true f = or_right _ _ f
        there false f = f

    to_all : (keys : List (List ℕ)) (ids : List ℕ) → is_among keys key ≡ true
        → has_id c ids ≡ true → list_any (tells c key) (told_to (Some keys) ids) ≡ true
    to_all keys [] n h = absurd (let no : ⊥ = cc in no)
    to_all keys (x ∷ xs) n h = grind (arith, to_all keys xs n)

    some_told : (keys : List (List ℕ)) (ids : List ℕ) → is_among keys key ≡ true
        → has_id c ids ≡ true → list_any (tells c key) (told_some keys ids) ≡ true
    some_told [] ids h m = absurd (let no : ⊥ = cc in no)
    some_told (k ∷ keys) ids h m = to_all (k ∷ keys) ids h m

    pub prefix_tells : (keys : List (List ℕ)) (rows : List Registration)
        → is_among keys key ≡ true → has_prefix_of rows c key ≡ true
        → list_any (tells c key) (prefix_group keys rows) ≡ true
    prefix_tells keys [] h m = absurd (let no : ⊥ = cc in no)
    prefix_tells keys (r ∷ rs) h m =
        let starts : List ℕ → Bool = λ k. starts_with nat_eq k r.prefix in
        list_any-append (tells c key) (told_some (filter starts keys) r.ids) (prefix_group keys rs)
        ∙ elim (or_cases (starts key && has_id c r.ids) (has_prefix_of rs c key) m) [
          | inl e ↦ let p = and_parts (starts key) (has_id c r.ids) e in
              or_left _ _ (some_told (filter starts keys) r.ids (filter_among starts keys p.0 h)
              p.1)
          | inr e ↦ or_right _ _ (prefix_tells keys rs h e)
        ]

    -- one that is told of a key is told of it by each group of keys that has it
    pub whole_tells : (keys : List (List ℕ)) (rows : List Held) (prefixes : List Registration)
        → is_among keys key ≡ true
        → (has_id c (holders_of key rows) || has_prefix_of prefixes c key) ≡ true
        → list_any (tells c key) (whole_group keys rows prefixes) ≡ true
    whole_tells keys rows prefixes among h =
        list_any-append (tells c key) (group keys rows) (prefix_group keys prefixes)
        ∙ elim (or_cases (has_id c (holders_of key rows)) (has_prefix_of prefixes c key) h) [
          | inl e ↦ or_left _ _ (group_tells keys rows among e)
          | inr e ↦ or_right _ _ (prefix_tells keys prefixes among e)
        ]
