-- The number of a redirection's target: one that is accepted is that of a connection.
use Rattle.std.proofs.Common.{◌≡◌, ◌∙◌, ◌<◌, ◌^◌, ℕ, Bool, true, false, Option, None, Ok, arith}
use Rattle.std.proofs.Common.{cond, ap, sym, subst}
use Rattle.std.specs.Prelude.{IfSome}
use Rattle.command_words.specs.declared.command.Command.{Command}
use Rattle.command_words.specs.declared.command.Command.TheVariants.{ClientTracking}
use Rattle.command_words.specs.declared.command.TrackOptions.{TrackOptions}
use Rattle.track_modes.specs.declared.fault.ModeFault.{ModeFault}
use Rattle.track_modes.specs.declared.tracking.Tracking.{Tracking}
use Rattle.track_modes.specs.Commands.{after_command, after_refusal, allows, changed, command_fault}
use Rattle.track_modes.specs.Commands.{ended, fault_at, spent_mode}
use Rattle.track_modes.specs.ModeState.{ModeState, redirect_of}
use Rattle.track_modes.specs.Tracked.{tracked, tracking_fault}
use Rattle.serial_model.specs.Modes.{target_in, target_of}
use Rattle.past_effects.specs.Seen.{HasNumber}

abbrev IsSmall : Option ℕ → Type 0
IsSmall target = IfSome target (λ r. r < 2 ^ 63)

accepted_target : (o : TrackOptions) (x : Bool) (t : Tracking) → tracking_fault o x t ≡ None
    → (x ≡ true → IsSmall (target_in o)) → IsSmall (redirect_of (tracked o t))
accepted_target o x t none small = grind arith

number_changed : (c : Command) (x : Bool) (m : ModeState) → HasNumber m → fault_at c x m ≡ None
    → (x ≡ true → IsSmall (target_of (Ok c))) → HasNumber (ended c (changed c m))
unfolding fault_at
number_changed (ClientTracking o) x m h none small = accepted_target o x m.tracking none small
number_changed c x m h none small = grind arith

number_allowed : (b : Bool) (c : Command) (x : Bool) (m : ModeState) → HasNumber m
    → cond b (fault_at c x m) None ≡ None → (x ≡ true → IsSmall (target_of (Ok c)))
    → HasNumber (cond b (ended c (changed c m)) (spent_mode m))
number_allowed true c x m h none small = number_changed c x m h none small
number_allowed false c x m h none small = h

module _ (c : Command) (x : Bool) (m copy next : ModeState) (number : HasNumber m)
    (is : copy ≡ m) where
  pub number_accepted : next ≡ after_command c copy → command_fault c x copy ≡ None
      → (x ≡ true → IsSmall (target_of (Ok c))) → HasNumber next
  unfolding after_command
  number_accepted ran none small =
      subst HasNumber (sym (ran ∙ ap (after_command c) is))
      (number_allowed (allows m c) c x m number
      (sym (ap (command_fault c x) is) ∙ none) small)

  refused : (fault : ModeFault) (n : ModeState) → HasNumber n → HasNumber (after_refusal fault n)
  refused fault n h = grind arith

  pub number_refused : (fault : ModeFault) → next ≡ after_refusal fault copy → HasNumber next
  number_refused fault ran =
      subst HasNumber (sym (ran ∙ ap (after_refusal fault) is)) (refused fault m number)
