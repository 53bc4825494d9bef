-- A command leaves its connection's mode but for what CLIENT CACHING said, or it signals and
-- remembers nothing; so what is told behind it goes by the modes before it.
use Rattle.std.proofs.Common.{◌≡◌, ◌∙◌, ◌⊎◌, inl, inr, ◌≤◌, ◌++◌, ℕ, List, [], ◌∷◌, Bool, cond}
use Rattle.std.proofs.Common.{refl, sym, ap, true, false, Option, None, Some, Ok, length, arith}
use Rattle.std.specs.Prelude.{◌==◌, ◌&&◌, filter, not}
use Rattle.std.specs.List.{list_any}
use Rattle.std.proofs.lemmas.Bool.{both_ways, eqb-true}
use Rattle.command_words.specs.declared.command.Command.TheVariants.{ClientTracking, Reset}
use Rattle.command_words.specs.declared.command.TrackOptions.{TrackOptions}
use Rattle.command_words.specs.declared.command.Signalled.{Signalled}
use Rattle.command_words.specs.declared.command.Signalled.TheVariants.{Keys}
use Rattle.command_words.specs.declared.command.Command.{Command}
use Rattle.command_words.specs.Effect.{Effect}
use Rattle.command_words.specs.Effects.{has_row}
use Rattle.command_words.specs.Expiry.{without_due}
use Rattle.command_words.specs.Queries.{read}
use Rattle.command_words.specs.Space.{Space}
use Rattle.command_words.specs.Words.{reading}
use Rattle.track_table.specs.declared.table.Held.{Held}
use Rattle.prefix_table.specs.declared.table.Registration.{Registration}
use Rattle.track_table.specs.Table.{dropped}
use Rattle.track_modes.specs.declared.fault.ModeFault.{ModeFault}
use Rattle.track_modes.specs.declared.tracking.Tracking.{Tracking}
use Rattle.track_modes.specs.Commands.{fault_at, spent_mode}
use Rattle.track_modes.specs.ModeState.{ModeState, peer_of, redirect_of, remembers_read}
use Rattle.redirect.specs.Routes.{breaks, route_of}
use Rattle.serial_model.specs.declared.history.Limits.{Limits}
use Rattle.serial_model.specs.declared.history.Entry.{Entry}
use Rattle.serial_model.specs.Modes.{Memory, Remembers, Registers, Forgets, OwnEffect, Runner}
use Rattle.serial_model.specs.Modes.{memory_of, mends, own_effect, tracking_memory}
use Rattle.serial_model.specs.Modes.{unless_refused}
use Rattle.serial_model.specs.State.{State, is_on}
use Rattle.serial_model.specs.Tracking.{Invalidation, drop_group, prefix_group, remembering}
use Rattle.serial_model.specs.Tracking.{signal_group, without_signalled}
use Rattle.serial_model.specs.Actions.{Action, are_lost, carried, later_told, modes_then, peer_at}
use Rattle.serial_model.specs.Actions.{routed, rows_then, way}
use Rattle.serial_model.specs.History.{state, effect_of, ran_over, made_of, runner_in, run_action}
use Rattle.serial_model.specs.History.{tick_action, table_then}
use Rattle.serial_model.proofs.ServedRows.{served_cases, data_own, own_replied, ran_cases}
use Rattle.serial_model.proofs.ServedRows.{read_none}
use Rattle.serial_model.proofs.TableSize.{none_dropped, then_within, without_within}

-- it adds no row
abbrev Adds : ℕ → Memory → Type 0
Adds id memory = (rows : List Held) → length (remembering id memory rows) ≤ length rows

-- no key is remembered
abbrev pub AddsNone : Memory → Type 0
AddsNone (Remembers []) = Unit {0}
AddsNone (Remembers (k ∷ ks)) = ⊥
AddsNone (Registers ps) = Unit {0}
AddsNone Forgets = Unit {0}

none_adds : (id : ℕ) (memory : Memory) → AddsNone memory → Adds id memory
none_adds id (Remembers []) h rows = omega arith
none_adds id (Remembers (k ∷ ks)) h rows = absurd h
none_adds id (Registers ps) h rows = omega arith
none_adds id Forgets h rows = without_within id rows

read_adds : (b : Bool) (keys : List (List ℕ)) → keys ≡ [] → AddsNone (Remembers (cond b keys []))
read_adds b keys e = grind arith

tracking_adds : (o : TrackOptions) (t : Tracking) → AddsNone (tracking_memory o t)
tracking_adds o t = grind arith

memory_adds : (c : Command) (m : ModeState) → has_row c ≡ false → AddsNone (memory_of c m)
memory_adds (ClientTracking o) m none = tracking_adds o m.tracking
memory_adds Reset m none = tt
memory_adds c m none = read_adds (remembers_read m) (read c) (read_none c none)

-- a command of a connection alone remembers no key
pub own_adds : (fault : Option ModeFault) (c : Command) (m : ModeState) → has_row c ≡ false
    → AddsNone (unless_refused fault c m).memory
own_adds None c m none = memory_adds c m none
own_adds (Some fault) c m none = tt

-- but for what CLIENT CACHING said, of which no route and no redirection depends
abbrev pub AreAlike : ModeState → ModeState → Type 0
AreAlike old new = spent_mode new ≡ spent_mode old

abbrev SameOrQuiet : Runner → Effect → OwnEffect → Type 0
SameOrQuiet by ran made =
    (AreAlike by.mode made.mode × (mends made.memory ≡ false))
    ⊎ ((ran.signalled ≡ Keys []) × Adds by.id made.memory)

same_or_quiet : (by : Runner) (words : List (List ℕ)) (space : Space) (moment : ℕ)
    → SameOrQuiet by (ran_over space by words moment) (made_of words by)
same_or_quiet by words space moment =
    ran_cases by words (SameOrQuiet by) space moment
    (served_cases (λ r. SameOrQuiet by (effect_of by words r space moment) (own_effect r by))
    (λ c is none. inr (
      ap (λ (e : Effect). e.signalled) (own_replied by words c space moment is none),
      none_adds by.id (own_effect (Ok c) by).memory
          (own_adds (fault_at c by.target_exists by.mode) c by.mode none),
    ))
    (λ command is. rw (data_own command by is) (inl (refl, refl)))
    (λ fault. inl (refl, refl)) (reading words))
    (inl (refl, refl))

-- no prefix is one of no key
none_by_prefix : (prefixes : List Registration) → prefix_group [] prefixes ≡ []
none_by_prefix [] = refl
none_by_prefix (r ∷ rs) = none_by_prefix rs

quiet_told : (l : Limits) (id : ℕ) (memory : Memory) (sig : Signalled) (passed : ℕ → Bool)
    (ids : List ℕ) (rows : List Held) (prefixes : List Registration) → sig ≡ Keys []
    → Adds id memory → length rows ≤ l.table_max
    → signal_group sig passed ids rows prefixes
    ++ drop_group (dropped l.table_max (remembering id memory (without_signalled sig rows))) ≡ []
quiet_told l id memory sig passed ids rows prefixes e adds le =
    ap (λ g. signal_group g passed ids rows prefixes
    ++ drop_group (dropped l.table_max (remembering id memory (without_signalled g rows)))) e
    ∙ ap (λ told. filter (λ i. not (passed i.to)) told
    ++ drop_group (dropped l.table_max (remembering id memory rows))) (none_by_prefix prefixes)
    ∙ ap drop_group (none_dropped l.table_max (remembering id memory rows)
    (let a = adds rows in omega (arith, a, le)))

module _ (l : Limits) (past : List Entry) (id : ℕ) (words : List (List ℕ)) (moment : ℕ) where
  abbrev s : State
  s = state l past

  abbrev t : Action
  t = run_action id words moment s

  abbrev pub Same : Type 0
  Same = (c : ℕ) → AreAlike (s.modes c) (modes_then t s c)

  -- a command that mends a broken redirection tells nobody
  either : (Same × (mends t.effect.memory ≡ false)) ⊎ (later_told l t s ≡ [])
  either =
      by (same_or_quiet (runner_in s id words moment) words (without_due moment s.space) moment)
    where
      own : AreAlike (s.modes id) t.effect.mode → Same
      own same c =
          elim (id == c) as (λ b. (id == c) ≡ b
          → AreAlike (s.modes c) (cond b t.effect.mode (s.modes c))) [
            | true ↦ λ e. same ∙ ap (λ k. spent_mode (s.modes k)) (eqb-true id c e)
            | false ↦ λ e. refl
          ] refl

      by : SameOrQuiet (runner_in s id words moment)
          (ran_over (without_due moment s.space) (runner_in s id words moment) words moment)
          (made_of words (runner_in s id words moment))
          → (Same × (mends t.effect.memory ≡ false)) ⊎ (later_told l t s ≡ [])
      by (inl same) = inl (own same.0, same.1)
      by (inr quiet) =
          inr (quiet_told l id t.effect.memory t.effect.signalled _ _ (rows_then t s)
          s.prefixes quiet.0 quiet.1 (then_within l past moment))

  pub same_or_none : Same ⊎ (later_told l t s ≡ [])
  same_or_none = elim either [
    | inl same ↦ inl same.0
    | inr none ↦ inr none
  ]

  pub mends_none : mends t.effect.memory ≡ true → later_told l t s ≡ []
  mends_none mended = elim either [
    | inl same ↦ absurd (both_ways _ same.1 mended)
    | inr none ↦ none
  ]

pub tick_none : (l : Limits) (past : List Entry) (moment : ℕ)
    → later_told l (tick_action moment (state l past)) (state l past) ≡ []
tick_none l past moment =
    quiet_told l 0 (Remembers []) (Keys []) _ [] (table_then l past moment)
    (state l past).prefixes refl (λ rows. omega arith) (then_within l past moment)

-- ---- so what is told later goes by the modes before

module _ (old new : ℕ → ModeState) (on : ℕ → Bool) (same : (c : ℕ) → AreAlike (old c) (new c)) where
  peer_alike : (r : ℕ) → peer_of (new r) ≡ peer_of (old r)
  peer_alike r = ap peer_of (same r)

  target_alike : (x : Option ℕ) → peer_at new on x ≡ peer_at old on x
  target_alike None = refl
  target_alike (Some r) = ap (λ p. cond (on r) (Some p) None) (peer_alike r)

  way_alike : (i : Invalidation) → way new on i ≡ way old on i
  way_alike i =
      ap (λ (m : ModeState). carried (route_of i.to (peer_at new on (redirect_of m.tracking)) m)
      (redirect_of m.tracking) i.keys) (same i.to)
      ∙ ap (λ p. carried (route_of i.to p (old i.to)) (redirect_of (old i.to).tracking) i.keys)
      (target_alike (redirect_of (old i.to).tracking))

  routed_alike : (told : List Invalidation) → routed new on told ≡ routed old on told
  routed_alike [] = refl
  routed_alike (i ∷ told) =
      ap (λ x. x ++ routed new on told) (way_alike i)
      ∙ ap (λ x. way old on i ++ x) (routed_alike told)

  lost_alike : (told : List Invalidation) (c : ℕ)
      → are_lost new on told c ≡ are_lost old on told c
  lost_alike told c =
      ap (λ (m : ModeState). list_any (λ i. i.to == c) told
      && breaks m.tracking (peer_at new on (redirect_of m.tracking))) (same c)
      ∙ ap (λ p. list_any (λ i. i.to == c) told && breaks (old c).tracking p)
      (target_alike (redirect_of (old c).tracking))

module _ (l : Limits) (past : List Entry) (id : ℕ) (words : List (List ℕ)) (moment : ℕ) where
  abbrev now : State
  now = state l past

  abbrev action : Action
  action = run_action id words moment now

  pub later_routed : routed (modes_then action now) (is_on now) (later_told l action now)
      ≡ routed now.modes (is_on now) (later_told l action now)
  later_routed = elim (same_or_none l past id words moment) [
    | inl same ↦
        routed_alike now.modes (modes_then action now) (is_on now) same (later_told l action now)
    | inr none ↦
        ap (routed (modes_then action now) (is_on now)) none
        ∙ ap (routed now.modes (is_on now)) (sym none)
  ]

  pub later_lost : (c : ℕ)
      → are_lost (modes_then action now) (is_on now) (later_told l action now) c
      ≡ are_lost now.modes (is_on now) (later_told l action now) c
  later_lost c = elim (same_or_none l past id words moment) [
    | inl same ↦
        lost_alike now.modes (modes_then action now) (is_on now) same (later_told l action now) c
    | inr none ↦
        ap (λ told. are_lost (modes_then action now) (is_on now) told c) none
        ∙ ap (λ told. are_lost now.modes (is_on now) told c) (sym none)
  ]
