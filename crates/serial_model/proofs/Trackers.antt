-- Who remembers keys or has registered prefixes tracks.
use Rattle.std.proofs.Common.{◌≡◌, ◌<◌, ℕ, List, [], ◌∷◌, Bool, true, false, cond, refl, sym}
use Rattle.std.proofs.Common.{◌∙◌, arith, subst, Option, Some, None, Result, Ok, Err, length}
use Rattle.std.specs.Prelude.{◌==◌}
use Rattle.std.specs.FinMap.{empty}
use Rattle.std.proofs.lemmas.Bool.{eqb-true, eqb-false}
use Rattle.command_words.specs.declared.command.Command.{Command}
use Rattle.command_words.specs.declared.command.Command.TheVariants.{Ping, Echo, Hello, Reset, Quit}
use Rattle.command_words.specs.declared.command.Command.TheVariants.{ClientId, ClientTracking}
use Rattle.command_words.specs.declared.command.Command.TheVariants.{ClientCaching, ClientGetRedir}
use Rattle.command_words.specs.declared.command.Command.TheVariants.{ClientTrackingInfo}
use Rattle.command_words.specs.declared.command.Command.TheVariants.{Subscribe, Unsubscribe}
use Rattle.command_words.specs.declared.command.Command.TheVariants.{Shutdown}
use Rattle.command_words.specs.declared.command.TrackOptions.{TrackOptions}
use Rattle.command_words.specs.declared.command.WordFault.{WordFault}
use Rattle.command_words.specs.declared.command.WordFault.TheVariants.{Unknown}
use Rattle.command_words.specs.Effects.{has_row}
use Rattle.command_words.specs.Queries.{read}
use Rattle.command_words.specs.Words.{reading}
use Rattle.track_table.specs.declared.table.Held.{Held}
use Rattle.track_table.specs.Table.{without_connection, kept}
use Rattle.prefix_table.specs.declared.table.Registration.{Registration}
use Rattle.prefix_table.specs.Table as registrations
use Rattle.track_modes.specs.declared.fault.ModeFault.{ModeFault}
use Rattle.track_modes.specs.ModeState.{ModeState, is_on, remembers_read}
use Rattle.track_modes.specs.Commands.{after_refusal, changed, ended, fault_at}
use Rattle.serial_model.specs.declared.history.Limits.{Limits}
use Rattle.serial_model.specs.declared.history.Entry.{Entry}
use Rattle.serial_model.specs.declared.history.Entry.TheVariants.{Admit, Run, Tick, Take, Close}
use Rattle.serial_model.specs.Modes.{Memory, Remembers, Registers, Forgets, OwnEffect, Runner}
use Rattle.serial_model.specs.Modes.{memory_of, own_effect, unless_refused}
use Rattle.serial_model.specs.State.{State, at}
use Rattle.serial_model.specs.Tracking.{remembering, registering, without_signalled}
use Rattle.serial_model.specs.Actions.{Action, action_leaves, modes_then, rows_then, rows_grown}
use Rattle.serial_model.specs.Actions.{ends}
use Rattle.serial_model.specs.Each.{AllRows, AllRegistered}
use Rattle.serial_model.specs.History.{state, made_of, runner_in, run_action, tick_action, served}
use Rattle.serial_model.specs.History.{is_served}
use Rattle.serial_model.proofs.Tables.{all_rows, all_registered, with_keys_all, with_prefixes_all}
use Rattle.serial_model.proofs.Tables.{without_keys_all, without_signalled_all, kept_all, freed_all}
use Rattle.serial_model.proofs.Tables.{unregistered_all, each_left_all, each_unregistered_all}
use Rattle.serial_model.proofs.Tables.{left_all, still_registered}
use Rattle.serial_model.proofs.ServedRows.{served_cases, data_own, ran_cases}

abbrev pub tracks_in : ModeState → Bool
tracks_in m = is_on m.tracking

-- who is kept for tracks behind the command
abbrev pub Own : Memory → ModeState → ModeState → Type 0
Own (Remembers keys) old new =
    (tracks_in new ≡ tracks_in old) × (0 < length keys → tracks_in old ≡ true)
Own (Registers prefixes) old new = tracks_in new ≡ true
Own Forgets old new = Unit {0}

abbrev OwnOf : OwnEffect → ModeState → Type 0
OwnOf e old = Own e.memory old e.mode

reads_track : (m : ModeState) (keys : List (List ℕ)) → 0 < length (cond (remembers_read m) keys [])
    → tracks_in m ≡ true
reads_track m keys lt = grind arith

tracking_own : (o : TrackOptions) (m : ModeState)
    → Own (memory_of (ClientTracking o) m) m
    (ended (ClientTracking o) (changed (ClientTracking o) m))
tracking_own o m = grind arith

-- a command that changes its connection's mode alone keeps it as it tracks, or nothing is kept
changed_own : (c : Command) (m : ModeState) → is_served c ≡ true → has_row c ≡ false
    → Own (memory_of c m) m (ended c (changed c m))
changed_own (Ping text) m is none = (refl, reads_track m [])
changed_own (Echo text) m is none = (refl, reads_track m [])
changed_own (Hello None) m is none = (refl, reads_track m [])
changed_own (Hello (Some word)) m is none = (refl, reads_track m [])
changed_own Reset m is none = tt
changed_own Quit m is none = (refl, reads_track m [])
changed_own (Shutdown mode) m is none = (refl, reads_track m [])
changed_own ClientId m is none = (refl, reads_track m [])
changed_own (ClientTracking options) m is none = tracking_own options m
changed_own (ClientCaching is_yes) m is none = (refl, reads_track m [])
changed_own ClientGetRedir m is none = (refl, reads_track m [])
changed_own ClientTrackingInfo m is none = (refl, reads_track m [])
changed_own (Subscribe channel) m is none = (refl, reads_track m [])
changed_own (Unsubscribe None) m is none = (refl, reads_track m [])
changed_own (Unsubscribe (Some channel)) m is none = (refl, reads_track m [])
changed_own _ m is none = absurd (let no : ⊥ = cc in no)

fault_own : (fault : ModeFault) (m : ModeState) → Own (Remembers []) m (after_refusal fault m)
fault_own fault m = grind arith

unless_own : (fault : Option ModeFault) (c : Command) (m : ModeState) → is_served c ≡ true
    → has_row c ≡ false → OwnOf (unless_refused fault c m) m
unless_own None c m is none = changed_own c m is none
unless_own (Some fault) c m is none = fault_own fault m

data_tracks : (c : Command) (by : Runner) → has_row c ≡ true → OwnOf (own_effect (Ok c) by) by.mode
data_tracks c by h =
    subst (λ (e : OwnEffect). OwnOf e by.mode) (sym (data_own c by h))
    (refl, reads_track by.mode (read c))

refused_own : (fault : WordFault) (by : Runner) → OwnOf (own_effect (Err fault) by) by.mode
refused_own fault by = (refl, grind arith)

own_tracks : (r : Result Command WordFault) (by : Runner)
    → OwnOf (own_effect (served r) by) by.mode
own_tracks r by =
    served_cases (λ r. OwnOf (own_effect r by) by.mode)
    (λ c is none. unless_own (fault_at c by.target_exists by.mode) c by.mode is none)
    (λ c h. data_tracks c by h) (λ fault. refused_own fault by) r

pub made_tracks : (words : List (List ℕ)) (by : Runner) → OwnOf (made_of words by) by.mode
made_tracks words by =
    ran_cases by words (λ ran made. OwnOf made by.mode) empty 0 (own_tracks (reading words) by)
    (refused_own Unknown by)

abbrev pub Tracks : (ℕ → ModeState) → ℕ → Type 0
Tracks modes h = tracks_in (modes h) ≡ true

-- where its own part keeps a test, a change at one connection keeps it of all
at_keeps : (id : ℕ) (m : ModeState) (modes : ℕ → ModeState) (h : ℕ)
    → (tracks_in (modes id) ≡ true → tracks_in m ≡ true) → Tracks modes h
    → Tracks (at id m modes) h
at_keeps id m modes h f e = grind (arith, eqb-true)

at_other : (id : ℕ) (m : ModeState) (modes : ℕ → ModeState) (h : ℕ)
    → Tracks modes h × ((h == id) ≡ false) → Tracks (at id m modes) h
at_other id m modes h e = grind (arith, eqb-true, eqb-false)

at_own : (id : ℕ) (m : ModeState) (modes : ℕ → ModeState) → tracks_in m ≡ true
    → Tracks (at id m modes) id
at_own id m modes e = grind (arith, eqb-true)

module _ (id : ℕ) (m : ModeState) (modes : ℕ → ModeState) where
  remembering_tracks : (memory : Memory) (rows : List Held) → Own memory (modes id) m
      → AllRows (Tracks modes) rows → AllRows (Tracks (at id m modes)) (remembering id memory rows)
  remembering_tracks (Remembers []) rows own a =
      all_rows {P = Tracks modes} {Q = Tracks (at id m modes)}
      (λ h e. at_keeps id m modes h (λ x. own.0 ∙ x) e) rows a
  remembering_tracks (Remembers (key ∷ keys)) rows own a =
      with_keys_all (Tracks (at id m modes)) id (key ∷ keys) rows
      (at_own id m modes (own.0 ∙ own.1 (omega arith)))
      (all_rows {P = Tracks modes} {Q = Tracks (at id m modes)}
      (λ h e. at_keeps id m modes h (λ x. own.0 ∙ x) e) rows a)
  remembering_tracks (Registers ps) rows own a =
      all_rows {P = Tracks modes} {Q = Tracks (at id m modes)}
      (λ h e. at_keeps id m modes h (λ x. own) e) rows a
  remembering_tracks Forgets rows own a =
      all_rows {P = λ h. Tracks modes h × ((h == id) ≡ false)} {Q = Tracks (at id m modes)}
      (at_other id m modes) (without_connection id rows) (freed_all (Tracks modes) id rows a)

  registering_tracks : (memory : Memory) (rows : List Registration) → Own memory (modes id) m
      → AllRegistered (Tracks modes) rows
      → AllRegistered (Tracks (at id m modes)) (registering id memory rows)
  registering_tracks (Remembers keys) rows own a =
      all_registered {P = Tracks modes} {Q = Tracks (at id m modes)}
      (λ h e. at_keeps id m modes h (λ x. own.0 ∙ x) e) rows a
  registering_tracks (Registers ps) rows own a =
      with_prefixes_all (Tracks (at id m modes)) id ps rows (at_own id m modes own)
      (all_registered {P = Tracks modes} {Q = Tracks (at id m modes)}
      (λ h e. at_keeps id m modes h (λ x. own) e) rows a)
  registering_tracks Forgets rows own a =
      all_registered {P = λ h. Tracks modes h × ((h == id) ≡ false)} {Q = Tracks (at id m modes)}
      (at_other id m modes) (registrations.without_connection id rows)
      (unregistered_all (Tracks modes) id rows a)

-- holders and those that registered prefixes track
pub record Track (modes : ℕ → ModeState) (rows : List Held) (prefixes : List Registration) : Type 0
  where
    pub of_keys : AllRows (Tracks modes) rows
    pub of_prefixes : AllRegistered (Tracks modes) prefixes

abbrev pub AllTrack : State → Type 0
AllTrack s = Track s.modes s.table s.prefixes

pub grown_tracks : (t : Action) (s : State) → Own t.effect.memory (s.modes t.by) t.effect.mode
    → AllTrack s → AllRows (Tracks (modes_then t s)) (rows_grown t s)
grown_tracks t s own a =
    remembering_tracks t.by t.effect.mode s.modes t.effect.memory
    (without_signalled t.effect.signalled (rows_then t s)) own
    (without_signalled_all (Tracks s.modes) t.effect.signalled (rows_then t s)
    (without_keys_all (Tracks s.modes) t.expired s.table a.of_keys))

action_tracks : (l : Limits) (t : Action) (s : State)
    → Own t.effect.memory (s.modes t.by) t.effect.mode → AllTrack s
    → AllTrack (action_leaves l t s)
action_tracks l t s own a =
    record {
      of_keys = each_left_all (Tracks (modes_then t s)) (ends l t s)
          (kept l.table_max (rows_grown t s))
          (kept_all (Tracks (modes_then t s)) l.table_max (rows_grown t s)
          (grown_tracks t s own a));
      of_prefixes = each_unregistered_all (Tracks (modes_then t s)) (ends l t s)
          (registering t.by t.effect.memory s.prefixes)
          (registering_tracks t.by t.effect.mode s.modes t.effect.memory s.prefixes own
          a.of_prefixes);
    }

pub all_track : (l : Limits) (past : List Entry) → AllTrack (state l past)
unfolding state
all_track l [] = record { of_keys = tt; of_prefixes = tt }
all_track l (Admit id ∷ past) = all_track l past
all_track l (Run id words moment ∷ past) =
    let s = state l past in
    let t = run_action id words moment s in
    action_tracks l t s (made_tracks words (runner_in s id words moment))
    (all_track l past)
all_track l (Tick moment ∷ past) =
    let s = state l past in
    let t = tick_action moment s in
    action_tracks l t s (refl, no_keys) (all_track l past)
  where
    no_keys : {A : Type 0} → 0 < 0 → A
    no_keys lt = absurd (omega (arith, lt))
all_track l (Take id max ∷ past) = all_track l past
all_track l (Close id ∷ past) =
    let s = state l past in
    let a = all_track l past in
    record {
      of_keys = left_all (Tracks s.modes) id s.table a.of_keys;
      of_prefixes = still_registered (Tracks s.modes) id s.prefixes a.of_prefixes;
    }
