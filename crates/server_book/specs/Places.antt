-- What contracts see of a connection.
use Rattle.std.specs.Prelude.{◌≡◌, ◌<◌, ◌^◌, ◌&&◌, ℕ, List, [], Bool, true, false}
use Rattle.std.specs.Prelude.{if◌then◌else◌, is_some, Box, IfSome, Option, Some, None}
use Rattle.std.specs.declared.alloc.Global.{Global}
use Rattle.track_modes.specs.ModeState.{ModeState, new_mode, redirect_of}
use Rattle.serial_model.specs.declared.standing.Standing.{Standing}
use Rattle.serial_model.specs.declared.standing.Standing.TheVariants.{Gone, Live, Quit, QuitClosed}
use Rattle.serial_model.specs.State.{keeps_bytes, closed}
use Rattle.server_book.specs.declared.connection.Open.{Open}
use Rattle.server_book.specs.declared.connection.Queue.{Queue}
use Rattle.server_book.specs.declared.connection.Queue.TheVariants.{Nothing, Bytes}

-- the bytes that it was sent and has not taken, how far it has ended, and until it is closed what
-- its own runs made of it and whether its redirection is broken
pub record Connection : Type 0 where
  pub queue : List ℕ
  pub standing : Standing
  pub mode : ModeState
  pub is_broken : Bool

abbrev pub bytes_in : Queue → List ℕ
bytes_in Nothing = []
bytes_in (Bytes queue) = queue

-- a connection that was sent nothing
abbrev pub fresh : Connection
fresh = record { queue = []; standing = Live; mode = new_mode; is_broken = false }

-- how far it has ended is all that stays of a connection that is closed
abbrev pub gone : Connection → Connection
gone c = record fresh { standing = closed c.standing }

-- one that is closed, and whether it quit before
abbrev pub shut : Bool → Connection
shut quit = record fresh { standing = if quit then QuitClosed else Gone }

abbrev pub has_quit : Standing → Bool
has_quit Quit = true
has_quit QuitClosed = true
has_quit _ = false

-- at its end what one that quits has not taken can still be taken; another is closed
abbrev pub ended_one : Bool → Connection → Connection
ended_one quits c = if quits then record c { standing = Quit } else gone c

-- the mode that is kept, and whether its redirection is broken
abbrev pub kept_mode : Standing → ModeState → ModeState
kept_mode standing mode = if keeps_bytes standing then mode else new_mode

abbrev pub kept_broken : Standing → Bool → Bool
kept_broken standing is_broken = keeps_bytes standing && is_broken

-- its redirection is broken from now on
abbrev pub lost_one : Connection → Connection
lost_one c = if keeps_bytes c.standing then record c { is_broken = true } else c

-- of parts that are kept in one place, if there is one
abbrev pub shown : Standing → Option (Box Open Global) → Connection
shown standing None = record fresh { standing = standing }
shown standing (Some kept) =
    let parts = kept.value in
    record {
      queue = bytes_in parts.queue;
      standing = standing;
      mode = parts.mode;
      is_broken = parts.is_broken;
    }

-- the connection that messages are redirected to, if there is one, has a number that a reply can
-- tell
abbrev pub HasNumber : ModeState → Type 0
HasNumber mode = IfSome (redirect_of mode.tracking) (λ r. r < 2 ^ 63)

abbrev pub HaveNumber : Option (Box Open Global) → Type 0
HaveNumber None = Unit {0}
HaveNumber (Some kept) = HasNumber kept.value.mode

-- as there is until it is closed
pub record IsKept (standing : Standing) (kept : Option (Box Open Global)) : Type 0 where
  pub there : keeps_bytes standing ≡ true → is_some kept ≡ true
  pub number : HaveNumber kept
