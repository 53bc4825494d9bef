-- A connection whose commands are none of SUBSCRIBE, UNSUBSCRIBE and SHUTDOWN is never subscribed,
-- so its mode allows each of its commands, and each has its reply.
use Rattle.std.proofs.Common.{◌≡◌, ◌∙◌, ℕ, List, Bool, true, false, cond, refl, ap}
use Rattle.std.proofs.Common.{Option, Some, None, Result, Ok, Err, arith}
use Rattle.command_words.specs.declared.command.Command.{Command}
use Rattle.command_words.specs.declared.command.Command.TheVariants.{Shutdown, Subscribe}
use Rattle.command_words.specs.declared.command.Command.TheVariants.{Unsubscribe}
use Rattle.command_words.specs.declared.command.WordFault.{WordFault}
use Rattle.command_words.specs.Effect.{replied}
use Rattle.command_words.specs.Space.{Space}
use Rattle.command_words.specs.Words.{reading}
use Rattle.track_modes.specs.declared.fault.ModeFault.{ModeFault}
use Rattle.track_modes.specs.Commands.{after_refusal, changed, ended, fault_at}
use Rattle.track_modes.specs.ModeState.{ModeState}
use Rattle.serial_model.specs.declared.history.Limits.{Limits}
use Rattle.serial_model.specs.declared.history.Entry.{Entry}
use Rattle.serial_model.specs.Modes.{OwnEffect, Runner, is_barred, is_confined, own_effect}
use Rattle.serial_model.specs.Modes.{is_stopping, refused_effect, unless_refused}
use Rattle.serial_model.specs.History.{effect_of, ending_in, made_of, mode, ran_over, runner}
use Rattle.serial_model.specs.History.{served, served_reading}
use Rattle.serial_model.proofs.ServedRows.{barred_error, none_barred}
use Rattle.currency.proofs.RunPlaces.{EachRun, by_runs, each_older}
use Rattle.currency.proofs.Runs.{Older, older_all}

-- words that no reply answers: pushes answer those of the channel, and nothing SHUTDOWN
abbrev pub has_no_reply : Result Command WordFault → Bool
has_no_reply (Ok (Subscribe channel)) = true
has_no_reply (Ok (Unsubscribe channel)) = true
has_no_reply (Ok (Shutdown mode)) = true
has_no_reply read = false

-- no command that the connection ran is one
abbrev pub KeepsOff : ℕ → List Entry → Type 0
KeepsOff c past = EachRun (λ id m words up. has_no_reply (reading words) ≡ false) c past

pub off_older : (c : ℕ) (up past : List Entry) → Older up past → KeepsOff c past → KeepsOff c up
off_older c up past o h =
    each_older (λ id m words up. has_no_reply (reading words) ≡ false) c up past o h

pub served_off : (read : Result Command WordFault) → has_no_reply read ≡ false
    → has_no_reply (served read) ≡ false
served_off read h = grind arith

-- no such command stops the server
pub none_stops : (m : ModeState) (read : Result Command WordFault) → has_no_reply read ≡ false
    → is_stopping (ending_in m read) ≡ false
none_stops m read off = grind arith

-- ---- a connection that is not subscribed may run each command

pub unconfined : (m : ModeState) → m.subscribed ≡ false → is_confined m ≡ false
unconfined m off = grind arith

module _ (by : Runner) (words : List (List ℕ)) (off : by.mode.subscribed ≡ false) where
  unbarred : is_barred by.mode (served_reading words) ≡ false
  unbarred = none_barred by.mode (served_reading words) (unconfined by.mode off)

  pub made_own : made_of words by ≡ own_effect (served_reading words) by
  unfolding made_of
  made_own =
      ap (λ b. cond b (refused_effect by.mode) (own_effect (served_reading words) by)) unbarred

  pub ran_own : (space : Space) (moment : ℕ)
      → ran_over space by words moment ≡ effect_of by words (served_reading words) space moment
  unfolding ran_over
  ran_own space moment =
      ap (λ b. cond b (replied barred_error space)
      (effect_of by words (served_reading words) space moment)) unbarred

-- ---- and stays so

changed_off : (c : Command) (m : ModeState) → has_no_reply (Ok c) ≡ false
    → m.subscribed ≡ false → (ended c (changed c m)).subscribed ≡ false
changed_off c m none off = grind arith

refused_off : (fault : ModeFault) (m : ModeState) → m.subscribed ≡ false
    → (after_refusal fault m).subscribed ≡ false
refused_off fault m off = grind arith

unless_off : (fault : Option ModeFault) (c : Command) (m : ModeState)
    → has_no_reply (Ok c) ≡ false → m.subscribed ≡ false
    → (unless_refused fault c m).mode.subscribed ≡ false
unless_off None c m none off = changed_off c m none off
unless_off (Some fault) c m none off = refused_off fault m off

own_off : (by : Runner) (read : Result Command WordFault) → has_no_reply read ≡ false
    → by.mode.subscribed ≡ false → (own_effect read by).mode.subscribed ≡ false
own_off by (Ok c) none off =
    unless_off (fault_at c by.target_exists by.mode) c by.mode none off
own_off by (Err fault) none off = off

-- it is not subscribed
pub off_mode : (l : Limits) (c : ℕ) (past : List Entry) → KeepsOff c past
    → (mode l c past).subscribed ≡ false
off_mode l c past h =
    by_runs l c past (λ n (m : ModeState). m.subscribed ≡ false) refl
    (λ id m words up own o off. let by = runner l up id words m in
    ap (λ (made : OwnEffect). made.mode.subscribed) (made_own by words off)
    ∙ own_off by (served_reading words) (served_off (reading words) (h id m words up o own)) off)
    past (older_all past)
