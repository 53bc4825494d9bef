-- The rows of every table stand in the order in which their keys came to be remembered.
use Rattle.std.proofs.Common.{◌≡◌, ◌+◌, ◌-◌, ◌≤◌, ℕ, zero, suc, List, [], ◌∷◌, Bool, true, false}
use Rattle.std.proofs.Common.{length, map, take, drop, refl, arith, subst, sym}
use Rattle.std.specs.Prelude.{filter, not}
use Rattle.std.specs.Str.{bytes_eq}
use Rattle.std.proofs.lemmas.Bool.{or_left, or_right, or_from}
use Rattle.std.proofs.lemmas.Slice.Eq.{bytes_eq-Decides}
use Rattle.command_words.specs.declared.command.Signalled.{Signalled}
use Rattle.command_words.specs.declared.command.Signalled.TheVariants.{Keys, All}
use Rattle.track_table.specs.declared.table.Held.{Held}
use Rattle.track_table.specs.Table.{remembered, without_key, freed_of, is_held}
use Rattle.track_table.specs.Table.{without_connection, with_keys, without_keys}
use Rattle.serial_model.specs.declared.history.Limits.{Limits}
use Rattle.serial_model.specs.declared.history.Entry.{Entry}
use Rattle.serial_model.specs.declared.history.Entry.TheVariants.{Admit, Run, Tick, Take, Close}
use Rattle.serial_model.specs.Each.{AllIn}
use Rattle.serial_model.specs.State.{for_each}
use Rattle.serial_model.specs.Modes.{Memory, Remembers, Registers, Forgets}
use Rattle.serial_model.specs.Tracking.{without_signalled, remembering}
use Rattle.serial_model.specs.History.{state, table, table_then, table_grown, expired, signals}
use Rattle.serial_model.specs.History.{made}
use Rattle.serial_model.proofs.StateSteps.{run_ends, tick_ends, tick_table}
use Rattle.serial_model.proofs.Each.{all_in, in_filter, in_drop}
use Rattle.tracking_laws.specs.Drops.{is_remembered, rows_at_read, since}

itself : (key : List ℕ) → bytes_eq key key ≡ true
itself key = (bytes_eq-Decides key key).1 refl

-- ---- rows in order of a number of their keys

module _ (at : List ℕ → ℕ) where
  abbrev NotBefore : List ℕ → Held → Type 0
  NotBefore key r = at key ≤ at r.key

  abbrev pub AreInOrder : List Held → Type 0
  AreInOrder [] = Unit {0}
  AreInOrder (r ∷ rs) = AllIn (NotBefore r.key) rs × AreInOrder rs

  order_filter : (p : Held → Bool) (rows : List Held) → AreInOrder rows
      → AreInOrder (filter p rows)
  order_filter p [] h = tt
  order_filter p (r ∷ rs) h =
      grind (arith, in_filter (NotBefore r.key) p rs h.0, order_filter p rs h.1)

  all_freed : (key : List ℕ) (id : ℕ) (rows : List Held) → AllIn (NotBefore key) rows
      → AllIn (NotBefore key) (map (freed_of id) rows)
  all_freed key id [] a = tt
  all_freed key id (r ∷ rs) a = (a.0, all_freed key id rs a.1)

  order_freed : (id : ℕ) (rows : List Held) → AreInOrder rows
      → AreInOrder (map (freed_of id) rows)
  order_freed id [] h = tt
  order_freed id (r ∷ rs) h = (all_freed r.key id rs h.0, order_freed id rs h.1)

  order_without : (id : ℕ) (rows : List Held) → AreInOrder rows
      → AreInOrder (without_connection id rows)
  order_without id rows h = order_filter is_held (map (freed_of id) rows) (order_freed id rows h)

  order_left : (ids : List ℕ) (rows : List Held) → AreInOrder rows
      → AreInOrder (for_each without_connection ids rows)
  order_left [] rows h = h
  order_left (id ∷ ids) rows h =
      order_left ids (without_connection id rows) (order_without id rows h)

  order_without_keys : (keys : List (List ℕ)) (rows : List Held) → AreInOrder rows
      → AreInOrder (without_keys keys rows)
  order_without_keys [] rows h = h
  order_without_keys (key ∷ keys) rows h =
      order_without_keys keys (without_key key rows)
      (order_filter (λ r. not (bytes_eq key r.key)) rows h)

  order_without_signalled : (sig : Signalled) (rows : List Held) → AreInOrder rows
      → AreInOrder (without_signalled sig rows)
  order_without_signalled (Keys keys) rows h = order_without_keys keys rows h
  order_without_signalled All rows h = tt

  order_drop : (n : ℕ) (rows : List Held) → AreInOrder rows → AreInOrder (drop n rows)
  order_drop zero rows h = h
  order_drop (suc n) [] h = tt
  order_drop (suc n) (r ∷ rs) h = order_drop n rs h.1

  -- none of the first comes behind one of the rest
  pub first_before_rest : (n : ℕ) (rows : List Held) → AreInOrder rows
      → AllIn (λ (first : Held). AllIn (NotBefore first.key) (drop n rows)) (take n rows)
  first_before_rest zero rows h = tt
  first_before_rest (suc n) [] h = tt
  first_before_rest (suc n) (r ∷ rs) h =
      (in_drop (NotBefore r.key) n rs h.0, first_before_rest n rs h.1)

  -- ---- keys that are remembered, where a new one has the greatest number

  module _ (newest : ℕ) (most : (key : List ℕ) → at key ≤ newest) where
    all_remembered : (q : List ℕ) (id : ℕ) (key : List ℕ) (rows : List Held)
        → AllIn (NotBefore q) rows → (is_remembered rows key ≡ false → at key ≡ newest)
        → AllIn (NotBefore q) (remembered id key rows)
    all_remembered q id key [] a new = grind (arith, most)
    all_remembered q id key (r ∷ rs) a new =
        grind (arith, or_from, all_remembered q id key rs a.1)

    order_remembered : (id : ℕ) (key : List ℕ) (rows : List Held) → AreInOrder rows
        → (is_remembered rows key ≡ false → at key ≡ newest)
        → AreInOrder (remembered id key rows)
    order_remembered id key [] h new = (tt, tt)
    order_remembered id key (r ∷ rs) h new =
        grind (arith, or_from, all_remembered, order_remembered id key rs h.1)

    still_remembered : (q : List ℕ) (id : ℕ) (key : List ℕ) (rows : List Held)
        → is_remembered (remembered id key rows) q ≡ false → is_remembered rows q ≡ false
    still_remembered q id key [] h = refl
    still_remembered q id key (r ∷ rs) h = grind (arith, or_from, still_remembered q id key rs)

    order_with_keys : (id : ℕ) (keys : List (List ℕ)) (rows : List Held) → AreInOrder rows
        → ((q : List ℕ) → is_remembered rows q ≡ false → at q ≡ newest)
        → AreInOrder (with_keys id keys rows)
    order_with_keys id [] rows h new = h
    order_with_keys id (key ∷ keys) rows h new =
        order_with_keys id keys (remembered id key rows)
        (order_remembered id key rows h (new key))
        (λ q e. new q (still_remembered q id key rows e))

    order_remembering : (id : ℕ) (memory : Memory) (rows : List Held) → AreInOrder rows
        → ((q : List ℕ) → is_remembered rows q ≡ false → at q ≡ newest)
        → AreInOrder (remembering id memory rows)
    order_remembering id (Remembers keys) rows h new = order_with_keys id keys rows h new
    order_remembering id (Registers ps) rows h new = h
    order_remembering id Forgets rows h new = order_without id rows h

-- numbers that agree on the keys of some rows
module _ (at to : List ℕ → ℕ) where
  abbrev Agrees : Held → Type 0
  Agrees r = to r.key ≡ at r.key

  all_agree : (key : List ℕ) (rows : List Held) → to key ≡ at key → AllIn Agrees rows
      → AllIn (NotBefore at key) rows → AllIn (NotBefore to key) rows
  all_agree key [] e a h = tt
  all_agree key (r ∷ rs) e a h = (grind (arith, a.0, h.0), all_agree key rs e a.1 h.1)

  order_agree : (rows : List Held) → AllIn Agrees rows → AreInOrder at rows → AreInOrder to rows
  order_agree [] a h = tt
  order_agree (r ∷ rs) a h = (all_agree r.key rs a.0 a.1 h.0, order_agree rs a.1 h.1)

-- each row's own key is remembered
own_keys : (rows : List Held) → AllIn (λ (r : Held). is_remembered rows r.key ≡ true) rows
own_keys [] = tt
own_keys (r ∷ rs) = (
  or_left (bytes_eq r.key r.key) (is_remembered rs r.key) (itself r.key),
  all_in (λ (s : Held) h. or_right (bytes_eq s.key r.key) (is_remembered rs s.key) h) rs
      (own_keys rs),
)

-- ---- the table

module _ (l : Limits) where
  pub since_within : (past : List Entry) (key : List ℕ) → since l past key ≤ length past
  since_within [] key = omega arith
  since_within (entry ∷ past) key = grind (arith, since_within past key)

  -- what was remembered before an entry's read stands in the order that it had
  renewed : (entry : Entry) (past : List Entry)
      → AreInOrder (since l past) (rows_at_read l entry past)
      → AreInOrder (since l (entry ∷ past)) (rows_at_read l entry past)
  renewed entry past h =
      order_agree (since l past) (since l (entry ∷ past)) (rows_at_read l entry past)
      (all_in (λ (r : Held) e. grind (arith, e)) (rows_at_read l entry past)
      (own_keys (rows_at_read l entry past))) h

  new_key : (entry : Entry) (past : List Entry) (q : List ℕ)
      → is_remembered (rows_at_read l entry past) q ≡ false
      → since l (entry ∷ past) q ≡ length past + 1
  new_key entry past q h = grind (arith, h)

  grown_from : (past : List Entry) (id : ℕ) (words : List (List ℕ)) (moment : ℕ)
      → AreInOrder (since l past) (table l past)
      → AreInOrder (since l (Run id words moment ∷ past)) (table_grown l past id words moment)
  grown_from past id words moment h =
      let entry = Run id words moment in
      order_remembering (since l (entry ∷ past)) (length past + 1)
      (λ key. grind (arith, since_within (entry ∷ past) key))
      id (made l past id words moment).memory (rows_at_read l entry past)
      (renewed entry past
      (order_without_signalled (since l past) (signals l past id words moment)
      (table_then l past moment)
      (order_without_keys (since l past) (expired l past moment) (table l past) h)))
      (new_key entry past)

  pub in_order : (past : List Entry) → AreInOrder (since l past) (table l past)
  unfolding state
  in_order [] = tt
  in_order (Admit id ∷ past) = renewed (Admit id) past (in_order past)
  in_order (Run id words moment ∷ past) =
      let grown = table_grown l past id words moment in
      let at = since l (Run id words moment ∷ past) in
      order_left at (run_ends l id words moment (state l past))
      (drop (length grown - l.table_max) grown)
      (order_drop at (length grown - l.table_max) grown
      (grown_from past id words moment (in_order past)))
  in_order (Tick moment ∷ past) =
      renewed (Tick moment) past
      (subst (AreInOrder (since l past)) (sym (tick_table l past moment))
      (order_left (since l past) (tick_ends l moment (state l past)) (table_then l past moment)
      (order_without_keys (since l past) (expired l past moment) (table l past) (in_order past))))
  in_order (Take id max ∷ past) = renewed (Take id max) past (in_order past)
  in_order (Close id ∷ past) =
      renewed (Close id) past (order_without (since l past) id (table l past) (in_order past))

  pub grown_in_order : (past : List Entry) (id : ℕ) (words : List (List ℕ)) (moment : ℕ)
      → AreInOrder (since l (Run id words moment ∷ past)) (table_grown l past id words moment)
  grown_in_order past id words moment = grown_from past id words moment (in_order past)
