-- The prefixes that a connection registered are those of its mode, while it has not ended.
use Rattle.std.proofs.Common.{◌≡◌, ◌≤◌, ◌+◌, ◌∙◌, ℕ, List, [], ◌∷◌, Bool, true, false, cond}
use Rattle.std.proofs.Common.{length, refl, sym, ap, inl, inr, arith}
use Rattle.std.specs.Prelude.{◌==◌, ◌&&◌, ◌||◌, not, nat_eq, nat_le, nat_lt}
use Rattle.std.specs.List.{starts_with}
use Rattle.std.specs.Ordering.{match_ordering}
use Rattle.std.specs.declared.cmp.Ordering.TheVariants.{Less, Equal, Greater}
use Rattle.std.proofs.lemmas.Bool.{cases_lt, eq-eqb, eqb-true, false_from_ne_true}
use Rattle.std.proofs.lemmas.Bool.Decides.{nat_tests}
use Rattle.std.proofs.lemmas.Map.Lookups.{exact_bytes}
use Rattle.std.proofs.lemmas.Map.Views.{any-filter_same}
use Rattle.id_set.specs.Ids.{with_id, without_id}
use Rattle.prefix_table.specs.declared.table.Registration.{Registration}
use Rattle.prefix_table.specs.Table.{byte_order, first_of, is_held, joined_by, left_by, registered}
use Rattle.prefix_table.specs.Table.{with_prefixes, without_connection}
use Rattle.track_modes.specs.ModeState.{ModeState}
use Rattle.serial_model.specs.declared.history.Limits.{Limits}
use Rattle.serial_model.specs.declared.history.Entry.{Entry}
use Rattle.serial_model.specs.declared.history.Entry.TheVariants.{Admit, Run, Tick, Take, Close}
use Rattle.serial_model.specs.declared.standing.Standing.{Standing}
use Rattle.serial_model.specs.declared.standing.Standing.TheVariants.{Quit, Gone}
use Rattle.serial_model.specs.Modes.{Memory, Remembers, Registers, Forgets}
use Rattle.serial_model.specs.State.{State, closed, for_each, is_live, is_on}
use Rattle.serial_model.specs.Tracking.{has_id, registering}
use Rattle.serial_model.specs.Actions.{Action, action_leaves, ends, modes_then, quits}
use Rattle.serial_model.specs.History.{admitted, IsLegal, mode, runner_in, run_action, state}
use Rattle.serial_model.specs.History.{tick_action}
use Rattle.serial_model.specs.Laws.{RegisteredIsMode, covers_key, has_prefix_of}
use Rattle.serial_model.proofs.Counts.{admitted_is, on_is}
use Rattle.serial_model.proofs.KeyHolders.{some_held, with_itself}
use Rattle.serial_model.proofs.ModeSteps.{mode_fresh, mode_tick}
use Rattle.serial_model.proofs.OwnPrefixes.{OwnPrefixes, made_prefixes, starts_any}

-- ---- one connection among ids

module _ (c id : ℕ) (other : (id == c) ≡ false) where
  with_other : (ids : List ℕ) → has_id c (with_id id ids) ≡ has_id c ids
  with_other [] = ap (λ b. b || false) other
  with_other (x ∷ xs) =
      elim (nat_lt x id) as (λ b. has_id c (cond b (x ∷ with_id id xs)
      (cond (x == id) (x ∷ xs) (id ∷ x ∷ xs))) ≡ has_id c (x ∷ xs)) [
        | true ↦ ap (λ b. (x == c) || b) (with_other xs)
        | false ↦ elim (x == id) as (λ b. has_id c (cond b (x ∷ xs) (id ∷ x ∷ xs))
            ≡ has_id c (x ∷ xs)) [
              | true ↦ refl
              | false ↦ ap (λ b. b || has_id c (x ∷ xs)) other
            ]
      ]

  without_other : (ids : List ℕ) → has_id c (without_id id ids) ≡ has_id c ids
  without_other ids =
      any-filter_same (λ x. x == c) (λ x. not (x == id)) true
      (λ x is. let apart : not (x == id) ≡ true = grind (arith, nat_tests) in apart) ids

without_itself : (c : ℕ) (ids : List ℕ) → has_id c (without_id c ids) ≡ false
without_itself c ids =
    any-filter_same (λ x. x == c) (λ x. not (x == c)) false (λ x is. ap not is) ids

none_in : (c : ℕ) (ids : List ℕ) → not (length ids == 0) ≡ false → has_id c ids ≡ false
none_in c ids none =
    false_from_ne_true _ (λ h. let no : true ≡ false = sym (some_held c ids h) ∙ none in cc)

off : (x : Bool) → (x && false) ≡ false
off x = grind arith

-- ---- the table, for one connection and one key

module _ (c : ℕ) (key : List ℕ) where
  abbrev starts : List ℕ → Bool
  starts prefix = starts_with nat_eq key prefix

  abbrev any : List Registration → Bool
  any rows = has_prefix_of rows c key

  module _ (id : ℕ) (other : (id == c) ≡ false) where
    registered_other : (p : List ℕ) (rows : List Registration)
        → any (registered id p rows) ≡ any rows
    registered_other p [] = grind arith
    registered_other p (r ∷ rs) =
        elim (byte_order r.prefix p) as (λ o. any (match_ordering o (r ∷ registered id p rs)
        (joined_by id r ∷ rs) (first_of id p ∷ r ∷ rs)) ≡ any (r ∷ rs)) [
          | Less ↦ ap (λ b. (starts r.prefix && has_id c r.ids) || b) (registered_other p rs)
          | Equal ↦ ap (λ b. (starts r.prefix && b) || any rs) (with_other c id other r.ids)
          | Greater ↦ ap (λ b. (starts p && (b || false)) || any (r ∷ rs)) other
              ∙ ap (λ b. b || any (r ∷ rs)) (off (starts p))
        ]

    with_prefixes_other : (ps : List (List ℕ)) (rows : List Registration)
        → any (with_prefixes id ps rows) ≡ any rows
    with_prefixes_other [] rows = refl
    with_prefixes_other (p ∷ ps) rows =
        with_prefixes_other ps (registered id p rows) ∙ registered_other p rows

    left_other : (rows : List Registration) → any (without_connection id rows) ≡ any rows
    left_other [] = refl
    left_other (r ∷ rs) =
        let rest = without_connection id rs in
        let ids = without_other c id other r.ids in
        elim (is_held (left_by id r)) as (λ b. is_held (left_by id r) ≡ b
        → any (cond b (left_by id r ∷ rest) rest) ≡ any (r ∷ rs)) [
          | true ↦ λ e.
              ap (λ b. (starts r.prefix && b) || any rest) ids
              ∙ ap (λ b. (starts r.prefix && has_id c r.ids) || b) (left_other rs)
          | false ↦ λ e.
              left_other rs
              ∙ sym (ap (λ b. (starts r.prefix && b) || any rs)
              (sym ids ∙ none_in c (without_id id r.ids) e)
              ∙ ap (λ b. b || any rs) (off (starts r.prefix)))
        ] refl

  here_too : (s h x : Bool) → ((s && true) || x) ≡ (s || ((s && h) || x))
  here_too s h x = grind arith

  then_there : (s h x : Bool) → (h || (s || x)) ≡ (s || (h || x))
  then_there s h x = grind arith

  before_all : (s x : Bool) → ((s && true) || x) ≡ (s || x)
  before_all s x = grind arith

  itself : (c == c) ≡ true
  itself = eq-eqb c c refl

  registered_own : (p : List ℕ) (rows : List Registration)
      → any (registered c p rows) ≡ (starts p || any rows)
  registered_own p [] =
      ap (λ b. (starts p && (b || false)) || false) itself ∙ before_all (starts p) false
  registered_own p (r ∷ rs) =
      elim (byte_order r.prefix p) as (λ o. byte_order r.prefix p ≡ o
      → any (match_ordering o (r ∷ registered c p rs) (joined_by c r ∷ rs)
      (first_of c p ∷ r ∷ rs)) ≡ (starts p || any (r ∷ rs))) [
        | Less ↦ λ e.
            ap (λ b. (starts r.prefix && has_id c r.ids) || b) (registered_own p rs)
            ∙ then_there (starts p) (starts r.prefix && has_id c r.ids) (any rs)
        | Equal ↦ λ e.
            ap (λ b. (starts r.prefix && b) || any rs) (with_itself c r.ids)
            ∙ here_too (starts r.prefix) (has_id c r.ids) (any rs)
            ∙ ap (λ q. starts q || any (r ∷ rs)) (exact_bytes r.prefix p e)
        | Greater ↦ λ e.
            ap (λ b. (starts p && (b || false)) || any (r ∷ rs)) itself
            ∙ before_all (starts p) (any (r ∷ rs))
      ] refl

  by_one : (s a x : Bool) → (a || (s || x)) ≡ ((s || a) || x)
  by_one s a x = grind arith

  with_prefixes_own : (ps : List (List ℕ)) (rows : List Registration)
      → any (with_prefixes c ps rows) ≡ (starts_any key ps || any rows)
  with_prefixes_own [] rows = refl
  with_prefixes_own (p ∷ ps) rows =
      with_prefixes_own ps (registered c p rows)
      ∙ ap (λ b. starts_any key ps || b) (registered_own p rows)
      ∙ by_one (starts p) (starts_any key ps) (any rows)

  left_itself : (rows : List Registration) → any (without_connection c rows) ≡ false
  left_itself [] = refl
  left_itself (r ∷ rs) =
      let rest = without_connection c rs in
      elim (is_held (left_by c r)) as (λ b. any (cond b (left_by c r ∷ rest) rest) ≡ false) [
        | true ↦ ap (λ b. (starts r.prefix && b) || any rest) (without_itself c r.ids)
            ∙ ap (λ b. b || any rest) (off (starts r.prefix)) ∙ left_itself rs
        | false ↦ left_itself rs
      ]

  each_left : (ids : List ℕ) (rows : List Registration)
      → any (for_each without_connection ids rows) ≡ (not (has_id c ids) && any rows)
  each_left [] rows = refl
  each_left (id ∷ ids) rows =
      let rest = without_connection id rows in
      each_left ids rest
      ∙ elim (id == c) as (λ b. (id == c) ≡ b
      → (not (has_id c ids) && any rest) ≡ (not (b || has_id c ids) && any rows)) [
        | true ↦ λ e.
            ap (λ x. not (has_id c ids) && x)
            (ap (λ k. any (without_connection k rows)) (eqb-true id c e) ∙ left_itself rows)
            ∙ off (not (has_id c ids))
        | false ↦ λ e. ap (λ x. not (has_id c ids) && x) (left_other id e rows)
      ] refl

  -- ---- what a command leaves registered

  abbrev covers : ModeState → Bool
  covers m = covers_key m key

  absorbed : (n o : Bool) → (o ≡ true → n ≡ true) → (n || o) ≡ n
  absorbed n o f = grind arith

  registering_own : (memory : Memory) (rows : List Registration) (old new : ModeState)
      → OwnPrefixes key memory old new → any rows ≡ covers old
      → any (registering c memory rows) ≡ covers new
  registering_own (Remembers keys) rows old new own h = h ∙ ap (starts_any key) (sym own)
  registering_own (Registers ps) rows old new own h =
      with_prefixes_own ps rows
      ∙ ap (λ b. starts_any key ps || b) h
      ∙ ap (λ qs. starts_any key qs || covers old) own.0
      ∙ absorbed (covers new) (covers old) own.1
  registering_own Forgets rows old new own h = left_itself rows ∙ ap (starts_any key) (sym own)

  registering_other : (id : ℕ) (memory : Memory) (rows : List Registration) → (id == c) ≡ false
      → any (registering id memory rows) ≡ any rows
  registering_other id (Remembers keys) rows other = refl
  registering_other id (Registers ps) rows other = with_prefixes_other id other ps rows
  registering_other id Forgets rows other = left_other id other rows

  -- ---- what an action leaves

  lives : (e q : Bool) (x : Bool) (s : Standing)
      → (x && is_live (cond e (cond q Quit Gone) s)) ≡ (not e && (x && is_live s))
  lives e q x s = grind arith

  both_off : (e o x : Bool) → (not e && (o && x)) ≡ ((not e && o) && x)
  both_off e o x = grind arith

  module _ (l : Limits) (t : Action) (s : State) where
    action_is : (m : ModeState)
        → any (registering t.by t.effect.memory s.prefixes) ≡ (is_on s c && covers m)
        → any (action_leaves l t s).prefixes ≡ (is_on (action_leaves l t s) c && covers m)
    action_is m h =
        let e = has_id c (ends l t s) in
        each_left (ends l t s) (registering t.by t.effect.memory s.prefixes)
        ∙ ap (λ b. not e && b) h
        ∙ both_off e (is_on s c) (covers m)
        ∙ ap (λ b. b && covers m)
        (sym (lives e (quits t c) (nat_lt 0 c && nat_le c s.admitted) (s.standing c)))

  -- ---- entry by entry

  apart_on : (n : ℕ) (x : Bool) → c ≤ n
      → ((nat_lt 0 c && nat_le c (n + 1)) && x) ≡ ((nat_lt 0 c && nat_le c n) && x)
  apart_on n x le = grind (arith, nat_tests)

  admitted_one : (l : Limits) (past : List Entry) → IsLegal l past
      → any (state l past).prefixes ≡ (is_on (state l past) c && covers (mode l c past))
      → any (state l past).prefixes
      ≡ (((nat_lt 0 c && nat_le c ((state l past).admitted + 1))
      && is_live ((state l past).standing c)) && covers (mode l c past))
  admitted_one l past legal h =
      let n = admitted_is l past in
      let s = state l past in
      elim (cases_lt (admitted past) c) [
        | inl new ↦
            let none : covers (mode l c past) ≡ false =
            ap covers (mode_fresh l past c legal new) in
            h ∙ ap (λ b. is_on s c && b) none ∙ off (is_on s c)
            ∙ sym (ap (λ b. ((nat_lt 0 c && nat_le c (s.admitted + 1)) && is_live (s.standing c))
            && b) none ∙ off ((nat_lt 0 c && nat_le c (s.admitted + 1)) && is_live (s.standing c)))
        | inr old ↦
            h ∙ ap (λ b. b && covers (mode l c past))
            (sym (apart_on s.admitted (is_live (s.standing c)) (omega (arith, n, old))))
      ]

  module _ (l : Limits) (past : List Entry) where
    abbrev now : State
    now = state l past

    ran_by : (id moment : ℕ) (words : List (List ℕ)) → is_on now id ≡ true
        → any now.prefixes ≡ (is_on now c && covers (now.modes c))
        → any (registering id (run_action id words moment now).effect.memory now.prefixes)
        ≡ (is_on now c && covers (modes_then (run_action id words moment now) now c))
    ran_by id moment words on h =
        let t = run_action id words moment now in
        elim (id == c) as (λ b. (id == c) ≡ b
        → any (registering id t.effect.memory now.prefixes)
        ≡ (is_on now c && covers (cond b t.effect.mode (now.modes c)))) [
          | true ↦ λ e. own (eqb-true id c e)
          | false ↦ λ e. registering_other id t.effect.memory now.prefixes e ∙ h
        ] refl
      where
        own : id ≡ c → any (registering id (run_action id words moment now).effect.memory
            now.prefixes)
            ≡ (is_on now c && covers (run_action id words moment now).effect.mode)
        own e =
            let t = run_action id words moment now in
            let here : is_on now c ≡ true = ap (is_on now) (sym e) ∙ on in
            let own_of = made_prefixes key words (runner_in now id words moment) in
            ap (λ k. any (registering k t.effect.memory now.prefixes)) e
            ∙ registering_own t.effect.memory now.prefixes (now.modes id) t.effect.mode own_of
            (h ∙ ap (λ b. b && covers (now.modes c)) here ∙ ap (λ k. covers (now.modes k)) (sym e))
            ∙ sym (ap (λ b. b && covers t.effect.mode) here)

  is_gone : (x : Standing) → is_live (closed x) ≡ false
  is_gone x = grind arith

  no_more : (x b : Bool) → ((x && false) && b) ≡ false
  no_more x b = grind arith

  closed_one : (id : ℕ) (s : State) (m : ModeState)
      → any s.prefixes ≡ (is_on s c && covers m)
      → any (without_connection id s.prefixes)
      ≡ (((nat_lt 0 c && nat_le c s.admitted)
      && is_live (cond (id == c) (closed (s.standing id)) (s.standing c))) && covers m)
  closed_one id s m h =
      let x = nat_lt 0 c && nat_le c s.admitted in
      elim (id == c) as (λ b. (id == c) ≡ b → any (without_connection id s.prefixes)
      ≡ ((x && is_live (cond b (closed (s.standing id)) (s.standing c))) && covers m)) [
        | true ↦ λ e.
            ap (λ k. any (without_connection k s.prefixes)) (eqb-true id c e)
            ∙ left_itself s.prefixes
            ∙ sym (ap (λ b. (x && b) && covers m) (is_gone (s.standing id))
            ∙ no_more x (covers m))
        | false ↦ λ e. left_other id e s.prefixes ∙ h
      ] refl

pub registered_is_mode : RegisteredIsMode
unfolding state
registered_is_mode l c [] key legal = sym (off _)
registered_is_mode l c (Admit id ∷ past) key legal =
    admitted_one c key l past legal.2 (registered_is_mode l c past key legal.2)
registered_is_mode l c (Run id words m ∷ past) key legal =
    let s = state l past in
    let t = run_action id words m s in
    action_is c key l t s (modes_then t s c)
    (ran_by c key l past id m words (on_is l past id ∙ legal.0)
    (registered_is_mode l c past key legal.2))
registered_is_mode l c (Tick m ∷ past) key legal =
    let s = state l past in
    let t = tick_action m s in
    action_is c key l t s (s.modes c)
    (registered_is_mode l c past key legal.3)
    ∙ ap (λ b. is_on (state l (Tick m ∷ past)) c && covers_key b key) (sym (mode_tick l c m past))
registered_is_mode l c (Take id max ∷ past) key legal =
    registered_is_mode l c past key legal.2
registered_is_mode l c (Close id ∷ past) key legal =
    closed_one c key id (state l past) (mode l c past) (registered_is_mode l c past key legal.1)
