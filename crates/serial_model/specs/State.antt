-- What a history has come to, as one record; the entries of a history make it one after another.
pub use Rattle.serial_model.specs.declared.standing.Standing.{Standing}
pub use Rattle.serial_model.specs.declared.standing.Standing.TheVariants.{Live, Quit, QuitClosed}
pub use Rattle.serial_model.specs.declared.standing.Standing.TheVariants.{Gone}
use Rattle.std.specs.Prelude.{◌==◌, ◌&&◌, ℕ, List, [], ◌∷◌, Bool, true, false}
use Rattle.std.specs.Prelude.{if◌then◌else◌, nat_lt, nat_le}
use Rattle.std.specs.FinMap.{empty}
use Rattle.command_words.specs.Space.{Space}
use Rattle.track_table.specs.declared.table.Held.{Held}
use Rattle.prefix_table.specs.declared.table.Registration.{Registration}
use Rattle.track_modes.specs.ModeState.{ModeState, new_mode}

-- Connections are numbered from 1, in the order in which they are admitted. What each of them has
-- is a function of its number. A connection has, beside its mode: how far it has ended; whether its
-- redirection is broken (CLIENT TRACKINGINFO, broken_redirect); how many bytes wait for it.
pub record State : Type 0 where
  pub space : Space
  pub admitted : ℕ
  pub latest : ℕ
  pub modes : ℕ → ModeState
  pub standing : ℕ → Standing
  pub broken : ℕ → Bool
  pub waiting : ℕ → ℕ
  pub table : List Held
  pub prefixes : List Registration
  pub stopped : Bool

abbrev pub start : State
start =
    record {
      space = empty;
      admitted = 0;
      latest = 0;
      modes = λ c. new_mode;
      standing = λ c. Live;
      broken = λ c. false;
      waiting = λ c. 0;
      table = [];
      prefixes = [];
      stopped = false;
    }

abbrev pub is_live : Standing → Bool
is_live Live = true
is_live _ = false

-- what was not taken can still be taken, and the connection can be closed
abbrev pub keeps_bytes : Standing → Bool
keeps_bytes Live = true
keeps_bytes Quit = true
keeps_bytes _ = false

-- a Take is answered, perhaps by nothing
abbrev pub may_take : Standing → Bool
may_take Gone = false
may_take _ = true

-- a Close ends it; after a QUIT it gives up what was not taken
abbrev pub closed : Standing → Standing
closed Live = Gone
closed Quit = QuitClosed
closed QuitClosed = QuitClosed
closed Gone = Gone

-- a connection was admitted, and has not ended
abbrev pub is_on : State → ℕ → Bool
is_on s c = (nat_lt 0 c && nat_le c s.admitted) && is_live (s.standing c)

-- what each connection has, changed at one
abbrev pub at : {X : Type 0} → ℕ → X → (ℕ → X) → ℕ → X
at id x f c = if id == c then x else f c

-- something is done for each of these
abbrev pub for_each : {X : Type 0} → (ℕ → X → X) → List ℕ → X → X
for_each f [] x = x
for_each f (id ∷ ids) x = for_each f ids (f id x)
