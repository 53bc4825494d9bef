-- The effect of an entry: its number and its connection, the command that ran, the keys that left
-- before it, its reply, and what it signals.
use Rattle.std.specs.Prelude.{◌+◌, ℕ, List, [], ◌∷◌, length, take, Option, Some, None, Result, Ok}
use Rattle.std.specs.Prelude.{Err, Bool, false, ◌||◌, filter, not, if◌then◌else◌}
use Rattle.command_words.specs.declared.command.Command.{Command}
use Rattle.command_words.specs.declared.command.Signalled.TheVariants.{Keys}
use Rattle.command_words.specs.declared.command.WordFault.{WordFault}
use Rattle.track_modes.specs.Commands.{allows}
use Rattle.track_modes.specs.ModeState.{ModeState}
use Rattle.serial_model.specs.declared.effect.Effect.{Effect}
use Rattle.serial_model.specs.declared.effect.EntryKind.{EntryKind}
use Rattle.serial_model.specs.declared.effect.EntryKind.TheVariants as kind
use Rattle.serial_model.specs.declared.history.Limits.{Limits}
use Rattle.serial_model.specs.declared.history.Entry.{Entry}
use Rattle.serial_model.specs.declared.history.Entry.TheVariants.{Admit, Run, Tick, Take, Close}
use Rattle.serial_model.specs.State.{State}
use Rattle.serial_model.specs.Tracking.{has_id}
use Rattle.serial_model.specs.Actions.{Action, quits, ends}
use Rattle.serial_model.specs.History.{expired, served_reading, state, run_action, tick_action}
use Rattle.serial_model.specs.History.{unsent}

-- where no command runs, nothing is answered and signalled
abbrev pub bare_effect : ℕ → ℕ → EntryKind → Effect
bare_effect entry id kind =
    record {
      entry = entry;
      id = id;
      command = None;
      expired = [];
      reply = None;
      signalled = Keys [];
      kind = kind;
    }

-- the command that runs, where the mode allows it
abbrev pub command_of : ModeState → Result Command WordFault → Option Command
command_of m (Ok command) = if allows m command then Some command else None
command_of m (Err fault) = None

abbrev pub run_effect : Limits → ℕ → ℕ → List (List ℕ) → ℕ → List Entry → Effect
run_effect l entry id words moment past =
    let t = run_action id words moment (state l past) in
    record {
      entry = entry;
      id = id;
      command = command_of ((state l past).modes id) (served_reading words);
      expired = t.expired;
      reply = t.effect.reply;
      signalled = t.effect.signalled;
      kind = kind.Run;
    }

-- the effect of an entry on a past
abbrev pub effect_at : Limits → Entry → List Entry → Effect
effect_at l (Admit id) past = bare_effect (length past + 1) id kind.Admit
effect_at l (Run id words moment) past = run_effect l (length past + 1) id words moment past
effect_at l (Tick moment) past =
    record (bare_effect (length past + 1) 0 kind.Tick) { expired = expired l past moment }
effect_at l (Take id max) past =
    bare_effect (length past + 1) id (kind.Take (length (take max (unsent l id past))))
effect_at l (Close id) past = bare_effect (length past + 1) id kind.Close

-- the effect of the newest entry
unfoldable pub last_effect : Limits → List Entry → Option Effect
last_effect l [] = None
last_effect l (entry ∷ past) = Some (effect_at l entry past)

-- those whom an action drops: it ends them, and they do not quit by it
abbrev pub action_drops : Limits → Action → State → List ℕ
action_drops l t s = filter (λ c. not (quits t c)) (ends l t s)

abbrev pub drops_at : Limits → Entry → State → List ℕ
drops_at l (Run id words moment) s = action_drops l (run_action id words moment s) s
drops_at l (Tick moment) s = action_drops l (tick_action moment s) s
drops_at l _ s = []

-- those whom the newest entry drops, in order of their ids
unfoldable pub dropped_by : Limits → List Entry → List ℕ
dropped_by l [] = []
dropped_by l (entry ∷ past) = drops_at l entry (state l past)

-- an entry drops the connection; one of a past did
abbrev pub drops_one : Limits → Entry → List Entry → ℕ → Bool
drops_one l entry past c = has_id c (drops_at l entry (state l past))

abbrev pub was_dropped : Limits → ℕ → List Entry → Bool
was_dropped l c [] = false
was_dropped l c (entry ∷ past) = was_dropped l c past || drops_one l entry past c
