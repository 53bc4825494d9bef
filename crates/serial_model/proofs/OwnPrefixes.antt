-- What a command makes of the prefixes that its connection tracks by, and of what is registered.
use Rattle.std.proofs.Common.{◌≡◌, ◌∙◌, ℕ, List, [], ◌∷◌, Bool, true, false, cond, refl, sym}
use Rattle.std.proofs.Common.{ap, subst, arith, Option, Some, None, Result}
use Rattle.std.specs.Prelude.{nat_eq}
use Rattle.std.specs.FinMap.{empty}
use Rattle.std.specs.List.{list_any, starts_with}
use Rattle.command_words.specs.declared.command.Command.{Command}
use Rattle.command_words.specs.declared.command.Command.TheVariants.{Ping, Echo, Hello, Reset, Quit}
use Rattle.command_words.specs.declared.command.Command.TheVariants.{ClientId, ClientTracking}
use Rattle.command_words.specs.declared.command.Command.TheVariants.{ClientCaching, ClientGetRedir}
use Rattle.command_words.specs.declared.command.Command.TheVariants.{ClientTrackingInfo}
use Rattle.command_words.specs.declared.command.Command.TheVariants.{Subscribe, Unsubscribe}
use Rattle.command_words.specs.declared.command.Command.TheVariants.{Shutdown}
use Rattle.command_words.specs.declared.command.TrackOptions.{TrackOptions}
use Rattle.command_words.specs.declared.command.WordFault.{WordFault}
use Rattle.command_words.specs.Effects.{has_row}
use Rattle.command_words.specs.Words.{reading}
use Rattle.track_modes.specs.declared.fault.ModeFault.{ModeFault}
use Rattle.track_modes.specs.declared.tracking.Tracking.{Tracking}
use Rattle.track_modes.specs.declared.tracking.Tracking.TheVariants.{Off, On}
use Rattle.track_modes.specs.Commands.{after_refusal, changed, ended, fault_at, is_no_memory}
use Rattle.track_modes.specs.Commands.{spent_mode}
use Rattle.track_modes.specs.ModeState.{ModeState, prefixes_of}
use Rattle.track_modes.specs.PrefixLists as lists
use Rattle.track_modes.specs.Tracked.{settings, switches_bcast, tracking_fault}
use Rattle.serial_model.specs.Modes.{Memory, Remembers, Registers, Forgets, OwnEffect, Runner}
use Rattle.serial_model.specs.Modes.{memory_of, own_effect, unless_refused}
use Rattle.serial_model.specs.History.{is_served, made_of, served}
use Rattle.serial_model.specs.Laws.{covers_key}
use Rattle.serial_model.proofs.ServedRows.{served_cases, data_own, ran_cases}

module _ (key : List ℕ) where
  abbrev pub starts_any : List (List ℕ) → Bool
  starts_any prefixes = list_any (λ prefix. starts_with nat_eq key prefix) prefixes

  -- ---- more prefixes start no less

  more : (b d : Bool) (p q : List ℕ) (qs rest : List (List ℕ))
      → (starts_any qs ≡ true → starts_any rest ≡ true) → starts_any (q ∷ qs) ≡ true
      → starts_any (cond b (q ∷ rest) (cond d (p ∷ q ∷ qs) (q ∷ qs))) ≡ true
  more true d p q qs rest f e = grind arith
  more false true p q qs rest f e = grind arith
  more false false p q qs rest f e = e

  with_prefix_starts : (p : List ℕ) (qs : List (List ℕ)) → starts_any qs ≡ true
      → starts_any (lists.with_prefix p qs) ≡ true
  with_prefix_starts p [] e = absurd (let no : ⊥ = cc in no)
  with_prefix_starts p (q ∷ qs) e =
      more (lists.is_before q p) (lists.is_before p q) p q qs (lists.with_prefix p qs)
      (with_prefix_starts p qs) e

  with_prefixes_starts : (ps qs : List (List ℕ)) → starts_any qs ≡ true
      → starts_any (lists.with_prefixes ps qs) ≡ true
  with_prefixes_starts [] qs e = e
  with_prefixes_starts (p ∷ ps) qs e =
      with_prefixes_starts ps (lists.with_prefix p qs) (with_prefix_starts p qs e)

  registered_starts : (ps qs : List (List ℕ)) → starts_any qs ≡ true
      → starts_any (lists.registered ps qs) ≡ true
  registered_starts [] qs e = with_prefix_starts [] qs e
  registered_starts (p ∷ ps) qs e = with_prefixes_starts (p ∷ ps) qs e

  -- ---- what is kept for a connection goes by its mode behind the command

  abbrev pub OwnPrefixes : Memory → ModeState → ModeState → Type 0
  OwnPrefixes (Remembers keys) old new = prefixes_of new.tracking ≡ prefixes_of old.tracking
  OwnPrefixes (Registers prefixes) old new =
      (prefixes ≡ prefixes_of new.tracking)
      × (covers_key old key ≡ true → covers_key new key ≡ true)
  OwnPrefixes Forgets old new = prefixes_of new.tracking ≡ []

  abbrev OwnOf : OwnEffect → ModeState → Type 0
  OwnOf e old = OwnPrefixes e.memory old e.mode

  -- BCAST is not switched while tracking is on
  not_switched : (o : TrackOptions) (exists : Bool) (t : Tracking) → o.on ≡ true
      → tracking_fault o exists t ≡ None → switches_bcast o t ≡ false
  not_switched o exists t on none = grind arith

  none_but_bcast : (o : TrackOptions) (t : Tracking) → o.bcast ≡ false
      → switches_bcast o t ≡ false → prefixes_of t ≡ []
  none_but_bcast o t none is = grind arith

  tracked_starts : (o : TrackOptions) (t : Tracking) (bcast : Bool) → o.bcast ≡ bcast
      → switches_bcast o t ≡ false → starts_any (prefixes_of t) ≡ true
      → starts_any (prefixes_of (On (settings o t))) ≡ true
  tracked_starts o t true e is h =
      subst (λ ps. starts_any ps ≡ true) (sym all) (registered_starts o.prefixes (prefixes_of t) h)
    where
      all : prefixes_of (On (settings o t)) ≡ lists.registered o.prefixes (prefixes_of t)
      all = grind arith
  tracked_starts o t false e is h =
      absurd (let no : false ≡ true = sym (ap starts_any (none_but_bcast o t e is)) ∙ h in cc)

  tracking_own : (o : TrackOptions) (exists : Bool) (m : ModeState) (on : Bool) → o.on ≡ on
      → tracking_fault o exists m.tracking ≡ None
      → OwnPrefixes (cond on (Registers (prefixes_of (cond on (On (settings o m.tracking)) Off)))
      Forgets) m (spent_mode (record m { tracking = cond on (On (settings o m.tracking)) Off }))
  tracking_own o exists m true e none =
      (refl, tracked_starts o m.tracking o.bcast refl (not_switched o exists m.tracking e none))
  tracking_own o exists m false e none = refl

  changed_own : (c : Command) (exists : Bool) (m : ModeState) → is_served c ≡ true
      → has_row c ≡ false → fault_at c exists m ≡ None
      → OwnPrefixes (memory_of c m) m (ended c (changed c m))
  unfolding fault_at
  changed_own (Ping text) exists m is none free = refl
  changed_own (Echo text) exists m is none free = refl
  changed_own (Hello None) exists m is none free = refl
  changed_own (Hello (Some word)) exists m is none free = refl
  changed_own Reset exists m is none free = refl
  changed_own Quit exists m is none free = refl
  changed_own (Shutdown mode) exists m is none free = refl
  changed_own ClientId exists m is none free = refl
  changed_own (ClientTracking o) exists m is none free = tracking_own o exists m o.on refl free
  changed_own (ClientCaching is_yes) exists m is none free = refl
  changed_own ClientGetRedir exists m is none free = refl
  changed_own ClientTrackingInfo exists m is none free = refl
  changed_own (Subscribe channel) exists m is none free = refl
  changed_own (Unsubscribe None) exists m is none free = refl
  changed_own (Unsubscribe (Some channel)) exists m is none free = refl
  changed_own _ exists m is none free = absurd (let no : ⊥ = cc in no)

  fault_own : (fault : ModeFault) (m : ModeState)
      → prefixes_of (after_refusal fault m).tracking ≡ prefixes_of m.tracking
  fault_own fault m =
      elim (is_no_memory fault) as
      (λ b. prefixes_of (cond b m (spent_mode m)).tracking ≡ prefixes_of m.tracking) [
        | true ↦ refl
        | false ↦ refl
      ]

  unless_own : (fault : Option ModeFault) (c : Command) (exists : Bool) (m : ModeState)
      → fault_at c exists m ≡ fault → is_served c ≡ true → has_row c ≡ false
      → OwnOf (unless_refused fault c m) m
  unless_own None c exists m free is none = changed_own c exists m is none free
  unless_own (Some fault) c exists m free is none = fault_own fault m

  own_prefixes : (r : Result Command WordFault) (by : Runner)
      → OwnOf (own_effect (served r) by) by.mode
  own_prefixes r by =
      served_cases (λ r. OwnOf (own_effect r by) by.mode)
      (λ c is none. unless_own (fault_at c by.target_exists by.mode) c by.target_exists by.mode
      refl is none)
      (λ c row. subst (λ (e : OwnEffect). OwnOf e by.mode) (sym (data_own c by row)) refl)
      (λ fault. refl) r

  pub made_prefixes : (words : List (List ℕ)) (by : Runner) → OwnOf (made_of words by) by.mode
  made_prefixes words by =
      ran_cases by words (λ ran made. OwnOf made by.mode) empty 0 (own_prefixes (reading words) by)
      refl
