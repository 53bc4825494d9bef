-- Why a connection remembers a key no more; and each read is owed or told.
use Rattle.std.proofs.Common.{◌≡◌, ◌∙◌, ◌-◌, ℕ, List, [], ◌∷◌, Bool, true, false, Ok, Err}
use Rattle.std.proofs.Common.{length, drop, inl, inr, subst, sym, ap, refl, arith}
use Rattle.std.specs.Prelude.{◌==◌, ◌&&◌, ◌||◌, not}
use Rattle.std.proofs.lemmas.Bool.{and_parts, and_from, both_ways, cases_Bool, eqb-true}
use Rattle.std.proofs.lemmas.Bool.{or_left, or_parts, or_right}
use Rattle.std.proofs.lemmas.Bool.Decides.{nat_tests}
use Rattle.command_words.specs.declared.command.Command.{Command}
use Rattle.command_words.specs.Queries.{read}
use Rattle.command_words.specs.Laws.{signals}
use Rattle.track_table.specs.declared.table.Held.{Held}
use Rattle.track_table.specs.Table as track
use Rattle.track_table.specs.Table.{holders_of}
use Rattle.track_modes.specs.ModeState.{ModeState, is_on}
use Rattle.serial_model.specs.declared.history.Limits.{Limits}
use Rattle.serial_model.specs.declared.history.Entry.{Entry}
use Rattle.serial_model.specs.declared.history.Entry.TheVariants.{Admit, Run, Tick, Take, Close}
use Rattle.serial_model.specs.Modes.{Memory, Remembers, Forgets}
use Rattle.serial_model.specs.Tracking.{has_id, without_signalled, remembering}
use Rattle.serial_model.specs.EntryEffects.{drops_one}
use Rattle.serial_model.specs.History.{state, table, table_then, table_grown, mode, made}
use Rattle.serial_model.specs.History.{IsLegal, served_reading, has_ended, runner, expired, is_quit}
use Rattle.serial_model.specs.Modes.{ending_of, is_quitting}
use Rattle.serial_model.specs.History as history
use Rattle.serial_model.specs.Laws.{is_among, is_forgets, signals_key, drops_key}
use Rattle.serial_model.specs.Laws.{is_told, is_due}
use Rattle.serial_model.proofs.KeyHolders.{keys_apart, signalled_apart, remembering_keeps}
use Rattle.serial_model.proofs.KeyHolders.{dropped_or_kept, without_other}
use Rattle.serial_model.proofs.Lives.{table_live, all_live, Is, is_then_on}
use Rattle.serial_model.proofs.Streams.{IsLive}
use Rattle.serial_model.proofs.Trackers.{Tracks, all_track}
use Rattle.serial_model.proofs.ToldLaws.{holder_of}
use Rattle.serial_model.proofs.OwedLaws.{grown_is_owed}
use Rattle.serial_model.proofs.ModeSteps.{mode_own}
use Rattle.serial_model.proofs.StateSteps.{run_dropped, run_ends}
use Rattle.tracking_laws.specs.Told.{keeps_reads, keys_read, reads_key}
use Rattle.tracking_laws.specs.Causes.{RememberedIsTracked, LeavesForCause, EachReadIsOwedOrTold}
use Rattle.tracking_laws.specs.Causes.{EachReadIsRemembered, ends}
use Rattle.tracking_laws.proofs.Holders.{holds_with_keys}
use Rattle.tracking_laws.proofs.Ends.{reads_no_quit, run_gone, run_holds, tick_holds}
use Rattle.tracking_laws.proofs.Remembering.{made_reads, made_stops}

-- ---- a connection that remembers a key is one that may

admitted_live : (l : Limits) (past : List Entry) (c : ℕ) → IsLive l past c
    → history.is_admitted past c ≡ true
unfolding IsLive
admitted_live l past c h = h.0

pub remembered_is_tracked : (l : Limits) (past : List Entry) → IsLegal l past
    → RememberedIsTracked l past
remembered_is_tracked l past legal c key h =
    let s = state l past in
    and_from _ _
    (admitted_live l past c
    (holder_of (IsLive l past) c key (table l past) (table_live l past legal) h))
    (and_from _ _
    (holder_of (Tracks s.modes) c key s.table (all_track l past).of_keys h)
    (is_then_on s c
    (holder_of (Is s.standing s.admitted) c key s.table (all_live l past legal).of_keys h)))

-- ---- it remembers a key no more

forgets_is : (memory : Memory) → is_forgets memory ≡ true → memory ≡ Forgets
forgets_is memory h = grind arith

-- a connection that forgets tracks no more
own_stops : (l : Limits) (past : List Entry) (c id : ℕ) (words : List (List ℕ)) (moment : ℕ)
    → is_on (mode l c (Run id words moment ∷ past)).tracking ≡ true
    → ((id == c) && is_forgets (made l past id words moment).memory) ≡ false
own_stops l past c id words moment h =
    elim (cases_Bool ((id == c) && is_forgets (made l past id words moment).memory)) [
      | inl e ↦
          let p = and_parts (id == c) (is_forgets (made l past id words moment).memory) e in
          absurd (both_ways _ (made_stops words (runner l past id words moment)
          (forgets_is (made l past id words moment).memory p.1))
          (ap (λ (m : ModeState). is_on m.tracking) (sym (mode_own l c id moment words past p.0))
          ∙ h))
      | inr e ↦ e
    ]

right : (x y : Bool) → (x || y) ≡ true → x ≡ false → y ≡ true
right x y e f = grind arith

-- where it does not forget and does not end, the key is signalled or dropped
run_leaves : (l : Limits) (past : List Entry) (c id : ℕ) (words : List (List ℕ)) (moment : ℕ)
    (key : List ℕ)
    → has_id c (holders_of key (table l past)) ≡ true
    → has_id c (holders_of key (table l (Run id words moment ∷ past))) ≡ false
    → ((id == c) && is_forgets (made l past id words moment).memory) ≡ false
    → ends l (Run id words moment) past c ≡ false
    → (signals_key l (Run id words moment) past key || drops_key l (Run id words moment) past key)
    ≡ true
run_leaves l past c id words moment key told gone stays goes_on =
    let signalled = signals_key l (Run id words moment) past key in
    let dropped = drops_key l (Run id words moment) past key in
    let grown = table_grown l past id words moment in
    let sig = history.signals l past id words moment in
    elim (cases_Bool (signalled || dropped)) [
      | inl e ↦ e
      | inr e ↦
          let p = or_parts signalled dropped e in
          let q = or_parts (is_among (expired l past moment) key) (signals sig key) p.0 in
          absurd (both_ways _ (run_gone l past c key id words moment goes_on gone)
          (right _ _ (dropped_or_kept c key (length grown - l.table_max) grown
          (remembering_keeps c key id (made l past id words moment).memory _ stays
          (ap (has_id c) (signalled_apart c key sig (table_then l past moment) q.1
          ∙ keys_apart c key (expired l past moment) (table l past) q.0) ∙ told))) p.1))
    ]

by_tracking : (signalled tracks ends dropped : Bool)
    → (tracks ≡ true → ends ≡ false → (signalled || dropped) ≡ true)
    → (signalled || not tracks || ends || dropped) ≡ true
by_tracking signalled tracks ends dropped h = grind arith

tick_leaves : (l : Limits) (past : List Entry) (c moment : ℕ) (key : List ℕ)
    → has_id c (holders_of key (table l past)) ≡ true
    → has_id c (holders_of key (table l (Tick moment ∷ past))) ≡ false
    → (is_among (expired l past moment) key || drops_one l (Tick moment) past c) ≡ true
tick_leaves l past c moment key told gone =
    elim (cases_Bool (is_among (expired l past moment) key)) [
      | inl e ↦ or_left _ _ e
      | inr e ↦ or_right _ _ (dropped _ _
          (sym (tick_holds l past c key moment) ∙ gone)
          (ap (has_id c) (keys_apart c key (expired l past moment) (table l past) e) ∙ told))
    ]
  where
    dropped : (d held : Bool) → (not d && held) ≡ false → held ≡ true → d ≡ true
    dropped d held e f = grind arith

close_leaves : (c id : ℕ) (key : List ℕ) (rows : List Held)
    → has_id c (holders_of key rows) ≡ true
    → has_id c (holders_of key (track.without_connection id rows)) ≡ false → (id == c) ≡ true
close_leaves c id key rows told gone = elim (cases_Bool (id == c)) [
  | inl e ↦ e
  | inr e ↦ absurd (both_ways _ gone (without_other c key id rows e told))
]

either_of : (a b d : Bool) → (a || d) ≡ true → (((a || b) || d) || false) ≡ true
either_of a b d e = grind arith

third_of : (a b d : Bool) → d ≡ true → (((a || b) || d) || false) ≡ true
third_of a b d e = grind arith

pub leaves_for_cause : (l : Limits) (entry : Entry) (past : List Entry)
    → LeavesForCause l entry past
unfolding state
leaves_for_cause l (Admit id) past c key told gone = absurd (both_ways _ gone told)
leaves_for_cause l (Run id words moment) past c key told gone =
    by_tracking (signals_key l (Run id words moment) past key)
    (is_on (mode l c (Run id words moment ∷ past)).tracking) (ends l (Run id words moment) past c)
    (drops_key l (Run id words moment) past key)
    (λ tracks goes_on. run_leaves l past c id words moment key told gone
    (own_stops l past c id words moment tracks) goes_on)
leaves_for_cause l (Tick moment) past c key told gone =
    either_of (is_among (expired l past moment) key)
    (not (is_on (mode l c (Tick moment ∷ past)).tracking)) (drops_one l (Tick moment) past c)
    (tick_leaves l past c moment key told gone)
leaves_for_cause l (Take id max) past c key told gone = absurd (both_ways _ gone told)
leaves_for_cause l (Close id) past c key told gone =
    third_of false (not (is_on (mode l c (Close id ∷ past)).tracking))
    (((id == c) || false) || false)
    (or_left _ _ (or_left _ _ (close_leaves c id key (table l past) told gone)))

-- ---- each read is owed or told

read_remembers : (l : Limits) (past : List Entry) (c m : ℕ) (words : List (List ℕ))
    (command : Command) (key : List ℕ)
    → served_reading words ≡ Ok command → keeps_reads (mode l c past) ≡ true
    → is_among (read command) key ≡ true
    → (made l past c words m).memory ≡ Remembers (read command)
read_remembers l past c m words command key is keeps among =
    elim (read command) as (λ ks. read command ≡ ks → is_among ks key ≡ true
    → (made l past c words m).memory ≡ Remembers ks) [
      | [] ↦ λ e none. absurd (let no : ⊥ = cc in no)
      | k ∷ ks ↦ λ e some. made_reads words (runner l past c words m) k ks keeps
          (ap keys_read is ∙ e)
    ] refl among

own_grown : (c : ℕ) (key : List ℕ) (keys : List (List ℕ)) (rows : List Held)
    → is_among keys key ≡ true
    → has_id c (holders_of key (remembering c (Remembers keys) rows)) ≡ true
own_grown c key keys rows among = grind (arith, holds_with_keys, nat_tests)

-- what a read names is remembered where keys are dropped
run_remembers : (l : Limits) (c m : ℕ) (words : List (List ℕ)) (past : List Entry)
    (command : Command) (key : List ℕ)
    → served_reading words ≡ Ok command
    → keeps_reads (mode l c past) ≡ true → is_among (read command) key ≡ true
    → has_id c (holders_of key (table_grown l past c words m)) ≡ true
run_remembers l c m words past command key is keeps among =
    let rows = without_signalled (history.signals l past c words m) (table_then l past m) in
    ap (λ y. has_id c (holders_of key (remembering c y rows)))
    (read_remembers l past c m words command key is keeps among)
    ∙ own_grown c key (read command) rows among

-- a read that its connection remembers is of a command
command_of : (l : Limits) (past : List Entry) (c id m : ℕ) (words : List (List ℕ)) (key : List ℕ)
    → reads_key l (Run id words m) past c key ≡ true
    → (command : Command) × (served_reading words ≡ Ok command) × (id ≡ c)
    × (keeps_reads (mode l id past) ≡ true) × (is_among (read command) key ≡ true)
command_of l past c id m words key h =
    let p = and_parts (id == c)
    (keeps_reads (mode l id past) && is_among (keys_read (served_reading words)) key) h in
    let q = and_parts (keeps_reads (mode l id past))
    (is_among (keys_read (served_reading words)) key) p.1 in
    elim (served_reading words) as (λ r. served_reading words ≡ r
    → is_among (keys_read r) key ≡ true
    → (command : Command) × (served_reading words ≡ Ok command) × (id ≡ c)
    × (keeps_reads (mode l id past) ≡ true) × (is_among (read command) key ≡ true)) [
      | Ok command ↦ λ e among. (command, e, eqb-true id c p.0, q.0, among)
      | Err fault ↦ λ e none. absurd (let no : ⊥ = cc in no)
    ] refl q.1

pub each_read_is_owed_or_told : (l : Limits) (entry : Entry) (past : List Entry)
    → IsLegal l (entry ∷ past) → EachReadIsOwedOrTold l entry past
each_read_is_owed_or_told l (Admit id) past legal c key h = absurd (let no : ⊥ = cc in no)
each_read_is_owed_or_told l (Run id words m) past legal c key h =
    let p = command_of l past c id m words key h in
    subst (λ k. (is_told l (Run id words m ∷ past) k key || is_due l (Run id words m) past k key
    || has_ended l k (Run id words m ∷ past)) ≡ true) p.2
    (grown_is_owed l id m words past key legal
    (run_remembers l id m words past p.0 key p.1 p.3 p.4))
each_read_is_owed_or_told l (Tick m) past legal c key h = absurd (let no : ⊥ = cc in no)
each_read_is_owed_or_told l (Take id max) past legal c key h = absurd (let no : ⊥ = cc in no)
each_read_is_owed_or_told l (Close id) past legal c key h = absurd (let no : ⊥ = cc in no)

-- ---- and remembered

kept_or_dropped : (new ends mine quit drops kept dropped grown : Bool) → new ≡ (not ends && kept)
    → drops ≡ (ends && not (mine && quit)) → quit ≡ false → grown ≡ true
    → (dropped || kept) ≡ true → (new || ((dropped || drops) && grown)) ≡ true
kept_or_dropped new ends mine quit drops kept dropped grown is by on held h = grind arith

pub each_read_is_remembered : (l : Limits) (entry : Entry) (past : List Entry)
    → EachReadIsRemembered l entry past
each_read_is_remembered l (Admit id) past c key h = absurd (let no : ⊥ = cc in no)
each_read_is_remembered l (Run id words m) past c key h =
    let p = command_of l past c id m words key h in
    let grown = table_grown l past id words m in
    let n = length grown - l.table_max in
    let held = subst (λ k. has_id k (holders_of key grown) ≡ true) p.2
    (run_remembers l id m words past p.0 key p.1 p.3 p.4) in
    let goes_on : is_quit words ≡ false
    = ap (λ r. is_quitting (ending_of r)) p.1 ∙ reads_no_quit p.0 key p.4 in
    kept_or_dropped _ (has_id c (run_ends l id words m (state l past))) (id == c) (is_quit words) _
    (has_id c (holders_of key (drop n grown))) (drops_key l (Run id words m) past key)
    (has_id c (holders_of key grown)) (run_holds l past c key id words m)
    (run_dropped l past c id m words) goes_on held (dropped_or_kept c key n grown held)
each_read_is_remembered l (Tick m) past c key h = absurd (let no : ⊥ = cc in no)
each_read_is_remembered l (Take id max) past c key h = absurd (let no : ⊥ = cc in no)
each_read_is_remembered l (Close id) past c key h = absurd (let no : ⊥ = cc in no)
