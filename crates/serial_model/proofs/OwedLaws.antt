-- A remembered read is owed or told, and being told ends for a cause.
use Rattle.std.proofs.Common.{◌≡◌, ◌-◌, ℕ, List, [], ◌∷◌, Bool, true, false, cond, length, drop}
use Rattle.std.proofs.Common.{◌+◌}
use Rattle.std.proofs.Common.{sym, ap, ◌∙◌, arith, inl, inr, Result}
use Rattle.std.specs.Prelude.{◌==◌, ◌&&◌, ◌||◌, not, nat_eq, nat_lt, nat_le}
use Rattle.std.specs.List.{starts_with}
use Rattle.std.specs.Ordering.{match_ordering}
use Rattle.std.specs.declared.cmp.Ordering.{Ordering}
use Rattle.std.specs.declared.cmp.Ordering.TheVariants.{Less, Equal, Greater}
use Rattle.std.proofs.lemmas.Bool.{and_parts, and_from, or_left, or_right, or_cases, or_parts}
use Rattle.std.proofs.lemmas.Bool.{both_ways, cases_Bool}
use Rattle.std.proofs.lemmas.Bool.Decides.{nat_tests}
use Rattle.std.proofs.lemmas.List.Folds.{list_any-append}
use Rattle.command_words.specs.declared.command.Command.{Command}
use Rattle.command_words.specs.declared.command.WordFault.{WordFault}
use Rattle.command_words.specs.Words.{reading}
use Rattle.command_words.specs.Queries.{reads_as_cacheable, key_of}
use Rattle.command_words.specs.Laws.{signals}
use Rattle.command_words.proofs.Readings.{keys_read, reads_its_key}
use Rattle.id_set.specs.Ids.{with_id, without_id}
use Rattle.track_table.specs.declared.table.Held.{Held}
use Rattle.track_table.specs.Table.{holders_of, dropped, kept, without_connection}
use Rattle.prefix_table.specs.declared.table.Registration.{Registration}
use Rattle.prefix_table.specs.Table.{registered, byte_order, left_by, is_held, with_prefixes}
use Rattle.prefix_table.specs.Table as registrations
use Rattle.track_modes.specs.ModeState.{remembers_read}
use Rattle.track_modes.specs.Commands.{fault_at}
use Rattle.serial_model.specs.declared.history.Limits.{Limits}
use Rattle.serial_model.specs.declared.history.Entry.{Entry}
use Rattle.serial_model.specs.declared.history.Entry.TheVariants.{Admit, Run, Tick, Take, Close}
use Rattle.serial_model.specs.declared.standing.Standing.{Standing}
use Rattle.serial_model.specs.declared.standing.Standing.TheVariants.{Quit, Gone}
use Rattle.serial_model.specs.Modes.{Memory, Remembers, Registers, Forgets, Runner, own_effect}
use Rattle.serial_model.specs.Modes.{is_confined, refused_effect}
use Rattle.serial_model.specs.State.{State, is_live, is_on, closed, for_each}
use Rattle.serial_model.specs.Tracking.{has_id, remembering, registering, tells}
use Rattle.serial_model.specs.Tracking.{without_signalled}
use Rattle.serial_model.specs.Actions.{Action, ends, action_leaves, rows_then, rows_grown}
use Rattle.serial_model.specs.Actions.{quits, expiry_told, own_told, later_told}
use Rattle.serial_model.specs.Actions.{drops_told}
use Rattle.serial_model.specs.History.{state, next, run_action, tick_action, mode, made, made_of}
use Rattle.serial_model.specs.History.{runner}
use Rattle.serial_model.specs.History.{IsLegal, served, table_grown, has_ended}
use Rattle.serial_model.specs.History.{is_admitted, runs_on, table_then}
use Rattle.serial_model.specs.Laws.{is_among, is_forgets, has_prefix_of, is_told_in, is_told}
use Rattle.serial_model.specs.Laws.{is_due}
use Rattle.serial_model.specs.Laws.{drops_key, signals_key, stops_tracking, ReadIsOwedOrTold}
use Rattle.serial_model.specs.Laws.{ToldEndsForCause}
use Rattle.serial_model.proofs.Counts.{on_is}
use Rattle.serial_model.proofs.KeyHolders.{keys_apart, signalled_apart, remembering_keeps}
use Rattle.serial_model.proofs.KeyHolders.{remembered_own, drop_tells, dropped_or_kept}
use Rattle.serial_model.proofs.KeyHolders.{without_other}
use Rattle.serial_model.proofs.KeyHolders.{with_keeps, without_keeps, some_held}
use Rattle.serial_model.proofs.ServedRows.{none_barred, served_is}
use Rattle.serial_model.proofs.TableSize.{none_dropped, then_within}
use Rattle.serial_model.proofs.ToldLaws.{has_row}

-- ---- a holder stays where others leave

module _ (c : ℕ) (key : List ℕ) where
  each_left_keeps : (ids : List ℕ) (rows : List Held) → has_id c ids ≡ false
      → has_id c (holders_of key rows) ≡ true
      → has_id c (holders_of key (for_each without_connection ids rows)) ≡ true
  each_left_keeps [] rows apart h = h
  each_left_keeps (id ∷ ids) rows apart h =
      let p = or_parts (id == c) (has_id c ids) apart in
      each_left_keeps ids (without_connection id rows) p.1 (without_other c key id rows p.0 h)

-- ---- a remembered read is owed or told

-- a cacheable query is remembered by what it reads
query_remembers : (r : Result Command WordFault) (by : Runner) → reads_as_cacheable r ≡ true
    → remembers_read by.mode ≡ true → (own_effect r by).memory ≡ Remembers (keys_read r)
unfolding fault_at
query_remembers r by h tracks = grind arith

read_remembers : (l : Limits) (past : List Entry) (c m : ℕ) (words : List (List ℕ)) (key : List ℕ)
    → reads_as_cacheable (served (reading words)) ≡ true → is_confined (mode l c past) ≡ false
    → remembers_read (mode l c past) ≡ true → key_of words ≡ key
    → (made l past c words m).memory ≡ Remembers (key ∷ [])
unfolding made_of
read_remembers l past c m words key cacheable free tracks is =
    ap (λ b. (cond b (refused_effect (mode l c past))
    (own_effect (served (reading words)) (runner l past c words m))).memory)
    (none_barred (mode l c past) (served (reading words)) free)
    ∙ query_remembers (served (reading words)) (runner l past c words m) cacheable tracks
    ∙ ap (λ r. Remembers (keys_read r)) (served_is (reading words) cacheable)
    ∙ ap Remembers (reads_its_key words (ap reads_as_cacheable
    (sym (served_is (reading words) cacheable)) ∙ cacheable))
    ∙ ap (λ k. Remembers (k ∷ [])) is

owed : (on after stays prefix due ended : Bool) → on ≡ true → (stays ≡ true → after ≡ true)
    → (stays ≡ false → due ≡ true)
    → (((on && (after || prefix)) || due) || ended) ≡ true
owed on after stays prefix due ended e f g = grind arith

live_after : (h q : Bool) (x : Standing) → not (is_live (cond h (cond q Quit Gone) x)) ≡ false
    → h ≡ false
live_after h q x e = grind arith

-- where its connection goes on
grown_stays : (l : Limits) (c m : ℕ) (words : List (List ℕ)) (past : List Entry) (key : List ℕ)
    → runs_on l past c ≡ true → has_ended l c (Run c words m ∷ past) ≡ false
    → has_id c (holders_of key (table_grown l past c words m)) ≡ true
    → (is_told l (Run c words m ∷ past) c key || is_due l (Run c words m) past c key
    || has_ended l c (Run c words m ∷ past)) ≡ true
unfolding state
grown_stays l c m words past key on live holds =
    let s = state l past in
    let t = run_action c words m s in
    let grown = rows_grown t s in
    let n = length grown - l.table_max in
    let apart = live_after (has_id c (ends l t s)) (quits t c) (s.standing c) live in
    owed (is_on (state l (Run c words m ∷ past)) c) _ (has_id c (holders_of key (drop n grown))) _ _
    _
    (on_is l (Run c words m ∷ past) c
    ∙ and_from _ _ (and_parts (is_admitted past c) _ on).0 (ap not live))
    (each_left_keeps c key (ends l t s) (kept l.table_max grown) apart)
    (λ gone. list_any-append (tells c key) (expiry_told t s) (later_told l t s)
    ∙ or_right _ _ (list_any-append (tells c key) (own_told t s) (drops_told l t s)
    ∙ or_right _ _ (drop_tells c key n grown holds
    (left _ _ (dropped_or_kept c key n grown holds) gone))))
  where
    left : (x y : Bool) → (x || y) ≡ true → y ≡ false → x ≡ true
    left x y e f = grind arith

-- a key that its connection remembers where keys are dropped is owed or told
pub grown_is_owed : (l : Limits) (c m : ℕ) (words : List (List ℕ)) (past : List Entry)
    (key : List ℕ) → IsLegal l (Run c words m ∷ past)
    → has_id c (holders_of key (table_grown l past c words m)) ≡ true
    → (is_told l (Run c words m ∷ past) c key || is_due l (Run c words m) past c key
    || has_ended l c (Run c words m ∷ past)) ≡ true
grown_is_owed l c m words past key legal holds =
    elim (cases_Bool (has_ended l c (Run c words m ∷ past))) [
      | inl ended ↦ or_right _ _ ended
      | inr live ↦ grown_stays l c m words past key legal.0 live holds
    ]

pub read_is_owed_or_told : ReadIsOwedOrTold
read_is_owed_or_told l c m words past key legal cacheable free tracks is =
    let s = state l past in
    let t = run_action c words m s in
    let rows = without_signalled t.effect.signalled (rows_then t s) in
    grown_is_owed l c m words past key legal
    (ap (λ y. has_id c (holders_of key (remembering c y rows)))
    (read_remembers l past c m words key cacheable free tracks is) ∙ remembered_own c key rows)

-- ---- a prefix stays registered

module _ (c : ℕ) (key : List ℕ) where
  starts : Registration → Bool
  starts r = starts_with nat_eq key r.prefix

  here_or : (p : List ℕ) (ids new : List ℕ) (x y : Bool)
      → (has_id c ids ≡ true → has_id c new ≡ true) → (x ≡ true → y ≡ true)
      → ((starts_with nat_eq key p && has_id c ids) || x) ≡ true
      → ((starts_with nat_eq key p && has_id c new) || y) ≡ true
  here_or p ids new x y f g h = grind (arith, or_cases, and_parts, and_from, or_left, or_right)

  placed : (o : Ordering) (id : ℕ) (p : List ℕ) (r : Registration) (rs : List Registration)
      → (has_prefix_of rs c key ≡ true → has_prefix_of (registered id p rs) c key ≡ true)
      → has_prefix_of (r ∷ rs) c key ≡ true
      → has_prefix_of (match_ordering o (r ∷ registered id p rs)
      (registrations.joined_by id r ∷ rs) (registrations.first_of id p ∷ r ∷ rs)) c key ≡ true
  placed Less id p r rs rest h =
      here_or r.prefix r.ids r.ids (has_prefix_of rs c key) _ (λ e. e) rest h
  placed Equal id p r rs rest h =
      here_or r.prefix r.ids (with_id id r.ids) (has_prefix_of rs c key) _ (with_keeps c id r.ids)
      (λ e. e) h
  placed Greater id p r rs rest h = or_right _ _ h

  registered_keeps : (id : ℕ) (p : List ℕ) (rows : List Registration)
      → has_prefix_of rows c key ≡ true → has_prefix_of (registered id p rows) c key ≡ true
  registered_keeps id p [] h = absurd (let no : ⊥ = cc in no)
  registered_keeps id p (r ∷ rs) h =
      placed (byte_order r.prefix p) id p r rs (registered_keeps id p rs) h

  with_prefixes_keeps : (id : ℕ) (ps : List (List ℕ)) (rows : List Registration)
      → has_prefix_of rows c key ≡ true → has_prefix_of (with_prefixes id ps rows) c key ≡ true
  with_prefixes_keeps id [] rows h = h
  with_prefixes_keeps id (p ∷ ps) rows h =
      with_prefixes_keeps id ps (registered id p rows) (registered_keeps id p rows h)

  left_keeps : (id : ℕ) (r : Registration) (rest : List Registration) (x : Bool)
      → (id == c) ≡ false → (x ≡ true → has_prefix_of rest c key ≡ true)
      → ((starts_with nat_eq key r.prefix && has_id c r.ids) || x) ≡ true
      → has_prefix_of (cond (is_held (left_by id r)) (left_by id r ∷ rest) rest) c key ≡ true
  left_keeps id r rest x other g h =
      elim (or_cases (starts_with nat_eq key r.prefix && has_id c r.ids) x h) [
        | inl e ↦
            let p = and_parts (starts_with nat_eq key r.prefix) (has_id c r.ids) e in
            let held = without_keeps c id r.ids other p.1 in
            ap (λ b. has_prefix_of (cond b (left_by id r ∷ rest) rest) c key)
            (some_held c (without_id id r.ids) held)
            ∙ or_left _ _ (and_from _ _ p.0 held)
        | inr e ↦ there (is_held (left_by id r)) (g e)
      ]
    where
      there : (b : Bool) → has_prefix_of rest c key ≡ true
          → has_prefix_of (cond b (left_by id r ∷ rest) rest) c key ≡ true
      there true f = or_right _ _ f
      there false f = f

  unregistered_keeps : (id : ℕ) (rows : List Registration) → (id == c) ≡ false
      → has_prefix_of rows c key ≡ true
      → has_prefix_of (registrations.without_connection id rows) c key ≡ true
  unregistered_keeps id [] other h = h
  unregistered_keeps id (r ∷ rs) other h =
      left_keeps id r (registrations.without_connection id rs) (has_prefix_of rs c key) other
      (unregistered_keeps id rs other) h

  registering_keeps : (id : ℕ) (memory : Memory) (rows : List Registration)
      → ((id == c) && is_forgets memory) ≡ false → has_prefix_of rows c key ≡ true
      → has_prefix_of (registering id memory rows) c key ≡ true
  registering_keeps id (Remembers keys) rows other h = h
  registering_keeps id (Registers ps) rows other h = with_prefixes_keeps id ps rows h
  registering_keeps id Forgets rows other h = unregistered_keeps id rows (grind arith) h

  each_unregistered_keeps : (ids : List ℕ) (rows : List Registration) → has_id c ids ≡ false
      → has_prefix_of rows c key ≡ true
      → has_prefix_of (for_each registrations.without_connection ids rows) c key ≡ true
  each_unregistered_keeps [] rows apart h = h
  each_unregistered_keeps (id ∷ ids) rows apart h =
      let p = or_parts (id == c) (has_id c ids) apart in
      each_unregistered_keeps ids (registrations.without_connection id rows) p.1
      (unregistered_keeps id rows p.0 h)

-- ---- being told ends for a cause

either_way : (a b x y : Bool) → (a ≡ true → x ≡ true) → (b ≡ true → y ≡ true) → (a || b) ≡ true
    → (x || y) ≡ true
either_way a b x y f g h = grind (arith, or_cases)

right : (x y : Bool) → (x || y) ≡ true → x ≡ false → y ≡ true
right x y e f = grind arith

module _ (l : Limits) (t : Action) (s : State) (c : ℕ) (key : List ℕ)
    (told : is_told_in s c key ≡ true) where
  action_stays : (is_among t.expired key || signals t.effect.signalled key) ≡ false
      → has_row (dropped l.table_max (rows_grown t s)) key ≡ false
      → ((t.by == c) && is_forgets t.effect.memory) ≡ false
      → not (is_live ((action_leaves l t s).standing c)) ≡ false
      → is_told_in (action_leaves l t s) c key ≡ true
  action_stays quiet none stays live =
      let p = and_parts (is_on s c) _ told in
      let q = or_parts (is_among t.expired key) (signals t.effect.signalled key) quiet in
      let apart = live_after (has_id c (ends l t s)) (quits t c) (s.standing c) live in
      let rows = without_signalled t.effect.signalled (rows_then t s) in
      let n = length (rows_grown t s) - l.table_max in
      and_from _ _
      (ap (λ b. (nat_lt 0 c && nat_le c s.admitted) && is_live (cond b (cond (quits t c) Quit Gone)
      (s.standing c))) apart ∙ p.0)
      (either_way _ _ _ _
      (λ h. each_left_keeps c key (ends l t s) (kept l.table_max (rows_grown t s)) apart
      (right _ _ (dropped_or_kept c key n (rows_grown t s)
      (remembering_keeps c key t.by t.effect.memory rows stays
      (ap (has_id c) (signalled_apart c key t.effect.signalled (rows_then t s) q.1
      ∙ keys_apart c key t.expired s.table q.0) ∙ h))) none))
      (λ h. each_unregistered_keeps c key (ends l t s)
      (registering t.by t.effect.memory s.prefixes) apart
      (registering_keeps c key t.by t.effect.memory s.prefixes stays h))
      p.1)

cause : (signalled dropped stops ended : Bool)
    → (signalled ≡ false → dropped ≡ false → stops ≡ false → ended ≡ false → ⊥)
    → (((signalled || dropped) || stops) || ended) ≡ true
cause signalled dropped stops ended none = grind arith

more_on : (s : State) (c n : ℕ) (x : Bool) → ((nat_lt 0 c && nat_le c n) && x) ≡ true
    → ((nat_lt 0 c && nat_le c (n + 1)) && x) ≡ true
more_on s c n x h = grind (arith, nat_tests)

off : (x : Bool) → (x && false) ≡ false
off x = grind arith

or_false : (x : Bool) → x ≡ false → (x || false) ≡ false
or_false x e = grind arith

closes : (l : Limits) (s : State) (id c : ℕ) (key : List ℕ) → is_on s c ≡ true
    → (has_id c (holders_of key s.table) || has_prefix_of s.prefixes c key) ≡ true
    → not (is_live ((next l (Close id) s).standing c)) ≡ false
    → is_told_in (next l (Close id) s) c key ≡ true
closes l s id c key on some live =
    let other = apart (id == c) (s.standing id) (s.standing c) live in
    and_from _ _
    (ap (λ b. (nat_lt 0 c && nat_le c s.admitted)
    && is_live (cond b (closed (s.standing id)) (s.standing c))) other ∙ on)
    (either_way _ _ _ _ (without_other c key id s.table other)
    (unregistered_keeps c key id s.prefixes other) some)
  where
    apart : (b : Bool) (x y : Standing) → not (is_live (cond b (closed x) y)) ≡ false → b ≡ false
    apart b x y e = grind arith

pub told_ends_for_cause : ToldEndsForCause
unfolding state
told_ends_for_cause l (Admit id) past c key told gone =
    let s = state l past in
    let p = and_parts (is_on s c) _ told in
    absurd (both_ways _ gone
    (and_from _ _ (more_on s c s.admitted (is_live (s.standing c)) p.0) p.1))
told_ends_for_cause l (Run id words m) past c key told gone =
    let s = state l past in
    let t = run_action id words m s in
    cause (signals_key l (Run id words m) past key) (drops_key l (Run id words m) past key)
    (stops_tracking l (Run id words m) past c) (has_ended l c (Run id words m ∷ past))
    (λ e f g h. both_ways _ gone
    (action_stays l t s c key told e f g h))
told_ends_for_cause l (Tick m) past c key told gone =
    let s = state l past in
    let t = tick_action m s in
    cause (signals_key l (Tick m) past key) false false (has_ended l c (Tick m ∷ past))
    (λ e f g h. both_ways _ gone
    (action_stays l t s c key told (or_false _ e)
    (ap (λ rows. has_row rows key)
    (none_dropped l.table_max (table_then l past m) (then_within l past m))) (off _) h))
told_ends_for_cause l (Take id max) past c key told gone = absurd (both_ways _ gone told)
told_ends_for_cause l (Close id) past c key told gone =
    let s = state l past in
    let p = and_parts (is_on s c) _ told in
    cause false false false (has_ended l c (Close id ∷ past))
    (λ e f g h. both_ways _ gone (closes l s id c key p.0 p.1 h))
