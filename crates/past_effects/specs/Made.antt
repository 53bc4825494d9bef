-- What the command of an effect makes of its connection, and whom it ends.
use Rattle.std.specs.Prelude.{◌≡◌, ℕ, Option, Some, None, Ok, Bool, true, if◌then◌else◌}
use Rattle.command_words.specs.declared.command.Command.{Command}
use Rattle.track_modes.specs.Commands.{allows, changed}
use Rattle.track_modes.specs.ModeState.{ModeState, prefixes_of}
use Rattle.serial_model.specs.Modes.{Ending, Memory, OwnEffect, Runner, Stays, ending_of}
use Rattle.serial_model.specs.Modes.{is_quitting, is_stopping, memory_of, own_effect}
use Rattle.serial_model.specs.Modes.{refused_effect, target_of}
use Rattle.serial_model.specs.Modes as model
use Rattle.past_effects.specs.declared.connection.Causes.{Causes}
use Rattle.past_effects.specs.declared.own.Own.{Own}
use Rattle.past_effects.specs.declared.own.Kept.{Kept}
use Rattle.past_effects.specs.declared.own.Kept.TheVariants.{Remembers, Registers, Forgets}

-- a command of a connection that has ended is as none
abbrev pub command_on : Bool → Option Command → Option Command
command_on on command = if on then command else None

-- and so is one that the mode does not allow
abbrev pub own_by : Option Command → Runner → OwnEffect
own_by None by = refused_effect by.mode
own_by (Some command) by =
    if allows by.mode command then own_effect (Ok command) by else refused_effect by.mode

abbrev pub ending_by : Option Command → ModeState → Ending
ending_by None m = Stays
ending_by (Some command) m = if allows m command then ending_of (Ok command) else Stays

-- the connection that the command names as the target of a redirection
abbrev pub target_by : Option Command → Option ℕ
target_by None = None
target_by (Some command) = target_of (Ok command)

-- the target of a redirection, if there is one, has not ended
abbrev pub is_target : (ℕ → Bool) → Option ℕ → Bool
is_target on None = true
is_target on (Some r) = on r

-- who runs a command; whether its redirection is broken is told by its reply alone
abbrev pub runner_by : ℕ → ModeState → (ℕ → Bool) → Option Command → Runner
runner_by id m on command =
    record {
      id = id;
      mode = m;
      is_broken = true;
      target_exists = is_target on (target_by command);
    }

-- what is kept for a connection; of registered prefixes, those of its mode
abbrev pub memory_as : ModeState → Kept → Memory
memory_as m (Remembers keys) = model.Remembers keys
memory_as m Registers = model.Registers (prefixes_of m.tracking)
memory_as m Forgets = model.Forgets

-- whom it ends
abbrev pub causes_of : Own → ℕ → ℕ → Causes
causes_of own id out_max =
    record {
      quitter = if own.quits then Some id else None;
      stops = own.stops;
      out_max = out_max;
    }

-- what is kept by a command that the mode allows and does not refuse
abbrev pub IsKept : Kept → Command → ModeState → Type 0
IsKept kept command m = memory_as (changed command m) kept ≡ memory_of command m

pub record IsOwn (own : Own) (effect : OwnEffect) (ending : Ending) : Type 0 where
  pub mode : own.mode ≡ effect.mode
  pub memory : memory_as own.mode own.kept ≡ effect.memory
  pub quits : own.quits ≡ is_quitting ending
  pub stops : own.stops ≡ is_stopping ending
