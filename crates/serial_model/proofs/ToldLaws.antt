-- Whom an entry tells of a key, and what it leaves of who is to be told.
use Rattle.std.proofs.Common.{◌≡◌, ◌≤◌, ◌-◌, ℕ, zero, suc, List, [], ◌∷◌, Bool, true, false}
use Rattle.std.proofs.Common.{cond, length}
use Rattle.std.proofs.Common.{take, refl, sym, ap, subst, ◌∙◌, arith, inl, inr, None, ◌⊎◌}
use Rattle.std.specs.Prelude.{◌==◌, ◌&&◌, ◌||◌, not, filter, map, nat_le, nat_lt}
use Rattle.std.specs.List.{list_any}
use Rattle.std.specs.Str.{bytes_eq}
use Rattle.std.proofs.lemmas.Bool.{eqb-true, and_parts, and_from, or_left, or_right}
use Rattle.std.proofs.lemmas.Bool.{or_cases}
use Rattle.std.proofs.lemmas.Bool.{both_ways, not-true, cases_Bool}
use Rattle.std.proofs.lemmas.List.Folds.{list_any-append}
use Rattle.std.proofs.lemmas.Slice.Eq.{bytes_eq-Decides}
use Rattle.command_words.specs.declared.command.Signalled.{Signalled}
use Rattle.command_words.specs.declared.command.Signalled.TheVariants as signalled
use Rattle.command_words.specs.Laws.{signals}
use Rattle.track_table.specs.declared.table.Held.{Held}
use Rattle.track_table.specs.Table.{holders_of, freed_of, remembered, with_keys, without_key}
use Rattle.track_table.specs.Table.{without_connection, without_keys, dropped}
use Rattle.prefix_table.specs.declared.table.Registration.{Registration}
use Rattle.track_modes.specs.ModeState.{is_noloop}
use Rattle.track_modes.specs.ModeState as track
use Rattle.serial_model.specs.declared.history.Limits.{Limits}
use Rattle.serial_model.specs.declared.history.Entry.TheVariants.{Admit, Run, Tick, Take, Close}
use Rattle.serial_model.specs.Modes.{Memory, Remembers, Registers, Forgets}
use Rattle.serial_model.specs.State.{State, is_on}
use Rattle.serial_model.specs.Tracking.{Invalidation, has_id, ids_where, signal_group, told_to}
use Rattle.serial_model.specs.Tracking.{tells, whole_group, without_signalled}
use Rattle.serial_model.specs.Tracking.{remembering}
use Rattle.serial_model.specs.Actions.{Action, tracks, expiry_told, own_told, drops_told}
use Rattle.serial_model.specs.Actions.{later_told}
use Rattle.serial_model.specs.Actions.{is_passed, rows_then, rows_grown}
use Rattle.serial_model.specs.Each.{AllIn, AllRows, AllRegistered}
use Rattle.serial_model.specs.History.{state, run_action, tick_action, action_told}
use Rattle.serial_model.specs.Laws.{is_among, is_forgets, has_prefix_of, is_told_in, signals_to}
use Rattle.serial_model.specs.Laws.{action_signals_to, ToldIsDue}
use Rattle.serial_model.proofs.Ends.{ids_test}
use Rattle.serial_model.proofs.KeyHolders.{keys_apart, signalled_apart, remembering_keeps}
use Rattle.serial_model.proofs.KeyHolders.{remembered_own, drop_tells, flush_tells, whole_tells}
use Rattle.serial_model.proofs.KeyHolders.{with_keys_keeps}
use Rattle.serial_model.proofs.TableSize.{table_within, without_keys_within, without_within}
use Rattle.serial_model.proofs.TableSize.{signalled_within}
use Rattle.serial_model.proofs.Trackers.{Tracks, AllTrack, all_track}

-- ---- a connection that is kept for has what all such have

id_in : (P : ℕ → Type 0) (c : ℕ) (ids : List ℕ) → AllIn P ids → has_id c ids ≡ true → P c
id_in P c [] a h = absurd (let no : ⊥ = cc in no)
id_in P c (x ∷ xs) a h = elim (or_cases (x == c) (has_id c xs) h) [
  | inl e ↦ subst P (eqb-true x c e) a.0
  | inr e ↦ id_in P c xs a.1 e
]

pub holder_of : (P : ℕ → Type 0) (c : ℕ) (key : List ℕ) (rows : List Held) → AllRows P rows
    → has_id c (holders_of key rows) ≡ true → P c
holder_of P c key [] a h = absurd (let no : ⊥ = cc in no)
holder_of P c key (r ∷ rs) a h =
    elim (bytes_eq key r.key)
    as (λ b. has_id c (cond b r.holders (holders_of key rs)) ≡ true → P c) [
      | true ↦ λ e. id_in P c r.holders a.0 e
      | false ↦ λ e. holder_of P c key rs a.1 e
    ] h

registrant_of : (P : ℕ → Type 0) (c : ℕ) (key : List ℕ) (rows : List Registration)
    → AllRegistered P rows → has_prefix_of rows c key ≡ true → P c
registrant_of P c key [] a h = absurd (let no : ⊥ = cc in no)
registrant_of P c key (r ∷ rs) a h = elim (or_cases _ (has_prefix_of rs c key) h) [
  | inl e ↦ id_in P c r.ids a.0 (and_parts _ (has_id c r.ids) e).1
  | inr e ↦ registrant_of P c key rs a.1 e
]

-- ---- a key that leaves the table

abbrev pub has_row : List Held → List ℕ → Bool
has_row rows key = list_any (λ r. bytes_eq key r.key) rows

module _ (key : List ℕ) where
  filtered : (p : Held → Bool) (rows : List Held) → has_row rows key ≡ false
      → has_row (filter p rows) key ≡ false
  filtered p [] h = refl
  filtered p (r ∷ rs) h = grind (arith, filtered p rs)

  key_gone : (k : List ℕ) (rows : List Held) → bytes_eq key k ≡ true
      → has_row (without_key k rows) key ≡ false
  key_gone k [] e = refl
  key_gone k (r ∷ rs) e = grind (arith, bytes_eq-Decides, key_gone k rs e)

  still_gone : (keys : List (List ℕ)) (rows : List Held) → has_row rows key ≡ false
      → has_row (without_keys keys rows) key ≡ false
  still_gone [] rows h = h
  still_gone (k ∷ keys) rows h = still_gone keys (without_key k rows) (filtered _ rows h)

  keys_gone : (keys : List (List ℕ)) (rows : List Held) → is_among keys key ≡ true
      → has_row (without_keys keys rows) key ≡ false
  keys_gone [] rows h = absurd (let no : ⊥ = cc in no)
  keys_gone (k ∷ keys) rows h = elim (or_cases (bytes_eq key k) (is_among keys key) h) [
    | inl e ↦ still_gone keys (without_key k rows) (key_gone k rows e)
    | inr e ↦ keys_gone keys (without_key k rows) e
  ]

  freed_gone : (id : ℕ) (rows : List Held) → has_row rows key ≡ false
      → has_row (without_connection id rows) key ≡ false
  freed_gone id rows h = filtered _ _ (mapped rows h)
    where
      mapped : (rows : List Held) → has_row rows key ≡ false
          → has_row (map (freed_of id) rows) key ≡ false
      mapped [] h = refl
      mapped (r ∷ rs) h = grind (arith, mapped rs)

  -- where a key that none remembers comes to be remembered, it is by the connection itself
  grows_by : (c : ℕ) (k : List ℕ) (rows : List Held) → bytes_eq key k ≡ false
      → has_row (remembered c k rows) key ≡ has_row rows key
  grows_by c k [] e = grind arith
  grows_by c k (r ∷ rs) e = grind (arith, grows_by c k rs e)

  own_row : (c : ℕ) (keys : List (List ℕ)) (rows : List Held) → has_row rows key ≡ false
      → has_row (with_keys c keys rows) key ≡ true
      → has_id c (holders_of key (with_keys c keys rows)) ≡ true
  own_row c [] rows h e = absurd (both_ways _ h e)
  own_row c (k ∷ keys) rows h e = elim (cases_Bool (bytes_eq key k)) [
    | inl same ↦ with_keys_keeps c key c keys (remembered c k rows)
        (ap (λ q. has_id c (holders_of key (remembered c q rows)))
        (sym ((bytes_eq-Decides key k).0 same)) ∙ remembered_own c key rows)
    | inr other ↦ own_row c keys (remembered c k rows) (grows_by c k rows other ∙ h) e
  ]

  own_grown : (c : ℕ) (memory : Memory) (rows : List Held) → has_row rows key ≡ false
      → has_row (remembering c memory rows) key ≡ true
      → has_id c (holders_of key (remembering c memory rows)) ≡ true
  own_grown c (Remembers keys) rows h e = own_row c keys rows h e
  own_grown c (Registers ps) rows h e = absurd (both_ways _ h e)
  own_grown c Forgets rows h e = absurd (both_ways _ (freed_gone c rows h) e)

  taken_row : (n : ℕ) (rows : List Held) → has_row (take n rows) key ≡ true
      → has_row rows key ≡ true
  taken_row zero rows e = absurd (let no : ⊥ = cc in no)
  taken_row (suc n) [] e = absurd (let no : ⊥ = cc in no)
  taken_row (suc n) (r ∷ rs) e = grind (arith, taken_row n rs)

-- ---- whom an action tells

-- those that pass the connection by
passed_tells : (c : ℕ) (key : List ℕ) (p : ℕ → Bool) (told : List Invalidation) → p c ≡ false
    → list_any (tells c key) told ≡ true
    → list_any (tells c key) (filter (λ i. not (p i.to)) told) ≡ true
passed_tells c key p [] e h = h
passed_tells c key p (i ∷ told) e h =
    elim (or_cases (tells c key i) (list_any (tells c key) told) h) [
      | inl f ↦ let q = and_parts (i.to == c) _ f in here (ap p (eqb-true i.to c q.0) ∙ e) f
      | inr f ↦ there (p i.to) (passed_tells c key p told e f)
    ]
  where
    here : p i.to ≡ false → tells c key i ≡ true
        → list_any (tells c key) (cond (not (p i.to)) (i ∷ filter (λ i. not (p i.to)) told)
        (filter (λ i. not (p i.to)) told)) ≡ true
    here x f =
        ap (λ b. list_any (tells c key) (cond (not b) (i ∷ filter (λ i. not (p i.to)) told)
        (filter (λ i. not (p i.to)) told))) x ∙ or_left _ _ f

    there : (b : Bool) → list_any (tells c key) (filter (λ i. not (p i.to)) told) ≡ true
        → list_any (tells c key) (cond (not b) (i ∷ filter (λ i. not (p i.to)) told)
        (filter (λ i. not (p i.to)) told)) ≡ true
    there true f = f
    there false f = or_right _ _ f

module _ (l : Limits) (t : Action) (s : State) (c : ℕ) (key : List ℕ) (a : AllTrack s)
    (within : length s.table ≤ l.table_max) (told : is_told_in s c key ≡ true) where
  parts : (is_on s c ≡ true)
      × ((has_id c (holders_of key s.table) || has_prefix_of s.prefixes c key) ≡ true)
  parts = and_parts (is_on s c) _ told

  did_track : track.is_on (s.modes c).tracking ≡ true
  did_track = elim (or_cases _ (has_prefix_of s.prefixes c key) parts.1) [
    | inl e ↦ holder_of (Tracks s.modes) c key s.table a.of_keys e
    | inr e ↦ registrant_of (Tracks s.modes) c key s.prefixes a.of_prefixes e
  ]

  all_told : list_any (tells c key) (told_to None (ids_where (tracks s) s.admitted)) ≡ true
  all_told =
      flush_tells c key (ids_where (tracks s) s.admitted)
      (ids_test (tracks s) c s.admitted
      ∙ and_from _ _ (and_parts (nat_lt 0 c && nat_le c s.admitted) _ parts.0).0
      (and_from _ _ did_track parts.0))

  first_tells : is_among t.expired key ≡ true → list_any (tells c key) (expiry_told t s) ≡ true
  first_tells e = whole_tells c key t.expired s.table s.prefixes e parts.1

  module _ (stays : is_among t.expired key ≡ false) where
    held_then : has_id c (holders_of key s.table) ≡ true
        → has_id c (holders_of key (rows_then t s)) ≡ true
    held_then h = ap (has_id c) (keys_apart c key t.expired s.table stays) ∙ h

    told_then : (has_id c (holders_of key (rows_then t s)) || has_prefix_of s.prefixes c key) ≡ true
    told_then =
        ap (λ ids. has_id c ids || has_prefix_of s.prefixes c key)
        (keys_apart c key t.expired s.table stays) ∙ parts.1

    signal_tells : (sig : Signalled) → signals_to sig (is_passed t s c) key ≡ true
        → list_any (tells c key)
        (signal_group sig (is_passed t s) (ids_where (tracks s) s.admitted) (rows_then t s)
        s.prefixes) ≡ true
    signal_tells (signalled.Keys keys) h =
        let p = and_parts (is_among keys key) (not (is_passed t s c)) h in
        passed_tells c key (is_passed t s) (whole_group keys (rows_then t s) s.prefixes)
        (not-true (is_passed t s c) p.1)
        (whole_tells c key keys (rows_then t s) s.prefixes p.0 told_then)
    signal_tells signalled.All h = all_told

    -- ---- what is dropped

    grown_within : (memory : Memory) → is_forgets memory ≡ true → (id : ℕ) (rows : List Held)
        → length rows ≤ l.table_max → length (remembering id memory rows) ≤ l.table_max
    grown_within (Remembers keys) e id rows le = absurd (let no : ⊥ = cc in no)
    grown_within (Registers ps) e id rows le = absurd (let no : ⊥ = cc in no)
    grown_within Forgets e id rows le =
        let k = without_within id rows in omega (arith, le, k)

    none_dropped : (rows : List Held) → length rows ≤ l.table_max
        → has_row (dropped l.table_max rows) key ≡ true → ⊥
    none_dropped rows le e =
        let z : length rows - l.table_max ≡ 0 = omega (arith, le) in
        both_ways _ (ap (λ n. has_row (take n rows) key) z) e

    -- a key that the connection signals and is passed over for is its own, or remembered by none
    passed_by : (sig : Signalled) → signals sig key ≡ true
        → signals_to sig (is_passed t s c) key ≡ false
        → ((t.by == c) ≡ true)
        × (has_row (without_signalled sig (rows_then t s)) key ≡ false)
    passed_by (signalled.Keys keys) e f = (
      (and_parts (t.by == c) (is_noloop (s.modes c).tracking) (passes (is_among keys key)
          (is_passed t s c) e f)).0,
      keys_gone key keys (rows_then t s) e,
    )
      where
        passes : (x y : Bool) → x ≡ true → (x && not y) ≡ false → y ≡ true
        passes x y e f = grind arith
    passed_by signalled.All e f = absurd (let no : ⊥ = cc in no)

    holds_at_drop : has_id c (holders_of key s.table) ≡ true
        → signals_to t.effect.signalled (is_passed t s c) key ≡ false
        → has_row (dropped l.table_max (rows_grown t s)) key ≡ true
        → has_id c (holders_of key (rows_grown t s)) ≡ true
    holds_at_drop h quiet e = elim (cases_Bool (signals t.effect.signalled key)) [
      | inl f ↦
          let p = passed_by t.effect.signalled f quiet in
          let same = eqb-true t.by c p.0 in
          ap (λ i. has_id i (holders_of key (rows_grown t s))) (sym same)
          ∙ own_grown key t.by t.effect.memory _ p.1 (taken_row key _ (rows_grown t s) e)
      | inr f ↦ remembering_keeps c key t.by t.effect.memory _ (no_forget f)
          (ap (has_id c) (signalled_apart c key t.effect.signalled (rows_then t s) f)
          ∙ held_then h)
    ]
      where
        no_forget : signals t.effect.signalled key ≡ false
            → ((t.by == c) && is_forgets t.effect.memory) ≡ false
        no_forget f = elim (cases_Bool ((t.by == c) && is_forgets t.effect.memory)) [
          | inl g ↦ absurd (none_dropped (rows_grown t s)
              (grown_within t.effect.memory (and_parts (t.by == c) _ g).1 t.by _
              (signalled_within l.table_max t.effect.signalled (rows_then t s)
              (let k = without_keys_within t.expired s.table in omega (arith, k, within)))) e)
          | inr g ↦ g
        ]

  -- it is told of a key that is signalled to it, or dropped while it remembers it
  pub action_is_due : (action_signals_to t s c key
      || (has_id c (holders_of key s.table)
      && has_row (dropped l.table_max (rows_grown t s)) key)) ≡ true
      → list_any (tells c key) (action_told l t s) ≡ true
  action_is_due h =
      list_any-append (tells c key) (expiry_told t s) (later_told l t s)
      ∙ elim (cases_Bool (is_among t.expired key)) [
        | inl e ↦ or_left _ _ (first_tells e)
        | inr e ↦ or_right _ _ (list_any-append (tells c key) (own_told t s) (drops_told l t s)
            ∙ by e (cases_Bool (signals_to t.effect.signalled (is_passed t s c) key)))
      ]
    where
      rest : (e x y : Bool) → e ≡ false → x ≡ false → ((e || x) || y) ≡ true → y ≡ true
      rest e x y f g h = grind arith

      by : is_among t.expired key ≡ false
          → (signals_to t.effect.signalled (is_passed t s c) key ≡ true)
          ⊎ (signals_to t.effect.signalled (is_passed t s c) key ≡ false)
          → (list_any (tells c key) (own_told t s) || list_any (tells c key) (drops_told l t s))
          ≡ true
      by e (inl f) = or_left _ _ (signal_tells e t.effect.signalled f)
      by e (inr f) =
          let p = and_parts (has_id c (holders_of key s.table)) _ (rest _ _ _ e f h) in
          or_right _ _ (drop_tells c key _ (rows_grown t s) (holds_at_drop e p.0 f p.1) p.1)

no_cause : (x : Bool) → (x && false) ≡ true → ⊥
no_cause x h = grind arith

pub told_is_due : ToldIsDue
told_is_due l (Admit id) past c key told h = absurd (no_cause _ h)
told_is_due l (Run id words m) past c key told h =
    action_is_due l (run_action id words m (state l past)) (state l past) c key (all_track l past)
    (table_within l past) told h
told_is_due l (Tick m) past c key told h =
    action_is_due l (tick_action m (state l past)) (state l past) c key (all_track l past)
    (table_within l past) told (or_left _ _ (or_left _ _ (first _ _ h)))
  where
    first : (x y : Bool) → (x || (y && false)) ≡ true → x ≡ true
    first x y h = grind arith
told_is_due l (Take id max) past c key told h = absurd (no_cause _ h)
told_is_due l (Close id) past c key told h = absurd (no_cause _ h)
