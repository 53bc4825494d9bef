-- Who remembers keys or has registered prefixes was admitted and has not ended.
use Rattle.std.proofs.Common.{◌≡◌, ◌<◌, ◌≤◌, ◌+◌, ℕ, List, [], ◌∷◌, Bool, true, false, cond, refl}
use Rattle.std.proofs.Common.{arith, ap, ◌∙◌}
use Rattle.std.specs.Prelude.{◌==◌, not}
use Rattle.std.proofs.lemmas.Bool.Decides.{nat_tests}
use Rattle.track_table.specs.declared.table.Held.{Held}
use Rattle.track_table.specs.Table.{without_connection, kept}
use Rattle.prefix_table.specs.declared.table.Registration.{Registration}
use Rattle.prefix_table.specs.Table as registrations
use Rattle.serial_model.specs.declared.history.Limits.{Limits}
use Rattle.serial_model.specs.declared.history.Entry.{Entry}
use Rattle.serial_model.specs.declared.history.Entry.TheVariants.{Admit, Run, Tick, Take, Close}
use Rattle.serial_model.specs.declared.standing.Standing.{Standing}
use Rattle.serial_model.specs.declared.standing.Standing.TheVariants.{Quit, Gone}
use Rattle.serial_model.specs.State.{State, is_live, is_on, at, for_each, closed}
use Rattle.serial_model.specs.Tracking.{has_id, remembering, registering}
use Rattle.serial_model.specs.Actions.{Action, action_leaves, rows_grown, rows_then, ends}
use Rattle.serial_model.specs.Actions.{standing_after}
use Rattle.serial_model.specs.Actions.{quits}
use Rattle.serial_model.specs.Each.{AllRows, AllRegistered}
use Rattle.serial_model.specs.History.{admitted, is_admitted, state, table, run_action, tick_action}
use Rattle.serial_model.specs.History.{IsLegal}
use Rattle.serial_model.proofs.Tables.{all_rows, all_registered, freed_all, unregistered_all}
use Rattle.serial_model.proofs.Tables.{remembering_all, registering_all, kept_all, without_keys_all}
use Rattle.serial_model.proofs.Tables.{without_signalled_all}
use Rattle.serial_model.proofs.Counts.{admitted_is, on_is}
use Rattle.serial_model.proofs.Streams.{IsLive}

-- none of these
abbrev Apart : List ℕ → ℕ → Type 0
Apart ids h = has_id h ids ≡ false

other : (id : ℕ) (ids : List ℕ) (h : ℕ) → (h == id) ≡ false → has_id h ids ≡ false
    → has_id h (id ∷ ids) ≡ false
other id ids h e f = grind (arith, nat_tests)

each_apart : (P : ℕ → Type 0) (ids : List ℕ) (rows : List Held) → AllRows P rows
    → AllRows (λ h. P h × Apart ids h) (for_each without_connection ids rows)
each_apart P [] rows a = all_rows {P = P} {Q = λ h. P h × Apart [] h} (λ h x. (x, refl)) rows a
each_apart P (id ∷ ids) rows a =
    all_rows {P = λ h. (P h × ((h == id) ≡ false)) × Apart ids h}
    {Q = λ h. P h × Apart (id ∷ ids) h} (λ h x. (x.0.0, other id ids h x.0.1 x.1))
    (for_each without_connection ids (without_connection id rows))
    (each_apart (λ h. P h × ((h == id) ≡ false)) ids (without_connection id rows)
    (freed_all P id rows a))

each_unregistered : (P : ℕ → Type 0) (ids : List ℕ) (rows : List Registration)
    → AllRegistered P rows
    → AllRegistered (λ h. P h × Apart ids h) (for_each registrations.without_connection ids rows)
each_unregistered P [] rows a =
    all_registered {P = P} {Q = λ h. P h × Apart [] h} (λ h x. (x, refl)) rows a
each_unregistered P (id ∷ ids) rows a =
    all_registered {P = λ h. (P h × ((h == id) ≡ false)) × Apart ids h}
    {Q = λ h. P h × Apart (id ∷ ids) h} (λ h x. (x.0.0, other id ids h x.0.1 x.1))
    (for_each registrations.without_connection ids (registrations.without_connection id rows))
    (each_unregistered (λ h. P h × ((h == id) ≡ false)) ids
    (registrations.without_connection id rows) (unregistered_all P id rows a))

abbrev pub Is : (ℕ → Standing) → ℕ → ℕ → Type 0
Is standing admitted h = (0 < h) × (h ≤ admitted) × (is_live (standing h) ≡ true)

-- those that are kept for are on
pub record AllLive (standing : ℕ → Standing) (admitted : ℕ) (rows : List Held)
    (prefixes : List Registration) : Type 0 where
  pub of_keys : AllRows (Is standing admitted) rows
  pub of_prefixes : AllRegistered (Is standing admitted) prefixes

abbrev pub AreLive : State → Type 0
AreLive s = AllLive s.standing s.admitted s.table s.prefixes

stays : (h q : Bool) (x y z : Standing) → h ≡ false → is_live x ≡ true
    → is_live (cond h (cond q y z) x) ≡ true
stays h q x y z e f = grind arith

-- what an action's own connection adds to rows
pub record Adds (P : ℕ → Type 0) (t : Action) : Type 0 where
  pub keys : (rows : List Held) → AllRows P rows
      → AllRows P (remembering t.by t.effect.memory rows)
  pub prefixes : (rows : List Registration) → AllRegistered P rows
      → AllRegistered P (registering t.by t.effect.memory rows)

module _ (l : Limits) (t : Action) (s : State) (a : AreLive s)
    (own : Adds (Is s.standing s.admitted) t) where
  abbrev On : ℕ → Type 0
  On h = Is s.standing s.admitted h

  pub then_live : AllRows On (rows_then t s)
  then_live = without_keys_all On t.expired s.table a.of_keys

  pub grown_live : AllRows On (rows_grown t s)
  grown_live =
      own.keys _ (without_signalled_all On t.effect.signalled (rows_then t s) then_live)

  still : (h : ℕ) → On h × Apart (ends l t s) h → Is (standing_after l t s) s.admitted h
  still h x =
      (x.0.0, x.0.1, stays (has_id h (ends l t s)) (quits t h) (s.standing h) Quit Gone x.1 x.0.2)

  pub action_live : AreLive (action_leaves l t s)
  action_live =
      record {
        of_keys = all_rows {P = λ h. On h × Apart (ends l t s) h}
            {Q = Is (standing_after l t s) s.admitted} still
            (for_each without_connection (ends l t s) (kept l.table_max (rows_grown t s)))
            (each_apart On (ends l t s) (kept l.table_max (rows_grown t s))
            (kept_all On l.table_max (rows_grown t s) grown_live));
        of_prefixes = all_registered {P = λ h. On h × Apart (ends l t s) h}
            {Q = Is (standing_after l t s) s.admitted} still
            (for_each registrations.without_connection (ends l t s)
            (registering t.by t.effect.memory s.prefixes))
            (each_unregistered On (ends l t s) (registering t.by t.effect.memory s.prefixes)
            (own.prefixes s.prefixes a.of_prefixes));
      }

pub is_from : (s : State) (id : ℕ) → is_on s id ≡ true → Is s.standing s.admitted id
is_from s id h = (grind (arith, nat_tests), grind (arith, nat_tests), grind arith)

pub is_then_on : (s : State) (id : ℕ) → Is s.standing s.admitted id → is_on s id ≡ true
is_then_on s id h = grind (arith, nat_tests)

pub run_adds : (s : State) (id : ℕ) (words : List (List ℕ)) (moment : ℕ) → is_on s id ≡ true
    → Adds (Is s.standing s.admitted) (run_action id words moment s)
run_adds s id words moment h =
    let t = run_action id words moment s in
    record {
      keys = λ rows a. remembering_all (Is s.standing s.admitted) id t.effect.memory rows
          (is_from s id h) a;
      prefixes = λ rows a. registering_all (Is s.standing s.admitted) id t.effect.memory rows
          (is_from s id h) a;
    }

pub tick_adds : (s : State) (moment : ℕ) → Adds (Is s.standing s.admitted) (tick_action moment s)
tick_adds s moment = record { keys = λ rows a. a; prefixes = λ rows a. a }

close_other : (s : State) (id h : ℕ) → is_live (s.standing h) ≡ true → (h == id) ≡ false
    → is_live (at id (closed (s.standing id)) s.standing h) ≡ true
close_other s id h e f = grind (arith, nat_tests)

more : (s : State) (h : ℕ) → Is s.standing s.admitted h → Is s.standing (s.admitted + 1) h
more s h x = (x.0, omega (arith, x.1), x.2)

pub all_live : (l : Limits) (past : List Entry) → IsLegal l past → AreLive (state l past)
unfolding state
all_live l [] h = record { of_keys = tt; of_prefixes = tt }
all_live l (Admit id ∷ past) h =
    let s = state l past in
    let a = all_live l past h.2 in
    record {
      of_keys = all_rows {P = Is s.standing s.admitted} {Q = Is s.standing (s.admitted + 1)}
          (more s) s.table a.of_keys;
      of_prefixes = all_registered {P = Is s.standing s.admitted}
          {Q = Is s.standing (s.admitted + 1)} (more s) s.prefixes a.of_prefixes;
    }
all_live l (Run id words moment ∷ past) h =
    let s = state l past in
    let t = run_action id words moment s in
    action_live l t s (all_live l past h.2)
    (run_adds s id words moment (on_is l past id ∙ h.0))
all_live l (Tick moment ∷ past) h =
    let s = state l past in
    let t = tick_action moment s in
    action_live l t s (all_live l past h.3) (tick_adds s moment)
all_live l (Take id max ∷ past) h = all_live l past h.2
all_live l (Close id ∷ past) h =
    let s = state l past in
    let a = all_live l past h.1 in
    let standing : ℕ → Standing = at id (closed (s.standing id)) s.standing in
    record {
      of_keys = all_rows {P = λ h. Is s.standing s.admitted h × ((h == id) ≡ false)}
          {Q = Is standing s.admitted}
          (λ h x. (x.0.0, x.0.1, close_other s id h x.0.2 x.1))
          (without_connection id s.table)
          (freed_all (Is s.standing s.admitted) id s.table a.of_keys);
      of_prefixes = all_registered {P = λ h. Is s.standing s.admitted h × ((h == id) ≡ false)}
          {Q = Is standing s.admitted}
          (λ h x. (x.0.0, x.0.1, close_other s id h x.0.2 x.1))
          (registrations.without_connection id s.prefixes)
          (unregistered_all (Is s.standing s.admitted) id s.prefixes a.of_prefixes);
    }

-- who remembers keys was admitted, and has not ended
pub table_live : (l : Limits) (past : List Entry) → IsLegal l past
    → AllRows (IsLive l past) (table l past)
unfolding IsLive
table_live l past h =
    all_rows {P = Is (state l past).standing (state l past).admitted} {Q = IsLive l past}
    (λ k x. (
      numbered k x.0 (let e = admitted_is l past in omega (arith, e, x.1)),
      ap not x.2,
    )) (table l past) (all_live l past h).of_keys
  where
    numbered : (k : ℕ) → 0 < k → k ≤ admitted past → is_admitted past k ≡ true
    numbered k some le = grind (arith, nat_tests)
