-- What is kept of connections while the effects of a past are scanned.
use Rattle.std.specs.Prelude.{◌<◌, ◌^◌, ◌-◌, ◌&&◌, ℕ, List, Bool, nat_lt, nat_le, length}
use Rattle.std.specs.Prelude.{if◌then◌else◌, IfSome, slice_index_or, slice_set, Option, Some, None}
use Rattle.std.specs.Prelude.{false, ◌==◌, not, filter}
use Rattle.track_modes.specs.ModeState as track
use Rattle.track_modes.specs.ModeState.{ModeState, new_mode, redirect_of}
use Rattle.serial_model.specs.declared.standing.Standing.{Standing}
use Rattle.serial_model.specs.declared.standing.Standing.TheVariants.{Live, Gone}
use Rattle.serial_model.specs.State.{is_live}
use Rattle.serial_model.specs.Tracking.{Invalidation}

-- its mode, whether it has ended, and how many bytes wait for it
pub record Seen : Type 0 where
  pub mode : ModeState
  pub standing : Standing
  pub waiting : ℕ

-- a connection as it is admitted
abbrev pub admitted_one : Seen
admitted_one = record { mode = new_mode; standing = Live; waiting = 0 }

-- connections are numbered from 1
abbrev pub seen_at : List Seen → ℕ → Seen
seen_at cs c = if nat_lt 0 c then slice_index_or cs (c - 1) admitted_one else admitted_one

abbrev pub is_there : List Seen → ℕ → Bool
is_there cs c = nat_lt 0 c && nat_le c (length cs)

abbrev pub mode_at : List Seen → ℕ → ModeState
mode_at cs c = (seen_at cs c).mode

-- it was admitted and has not ended
abbrev pub on_at : List Seen → ℕ → Bool
on_at cs c = is_there cs c && is_live (seen_at cs c).standing

-- the connection that its messages are redirected to, if there is one, has a number that a message
-- can tell
abbrev pub HasNumber : ModeState → Type 0
HasNumber m = IfSome (redirect_of m.tracking) (λ r. r < 2 ^ 63)

-- one connection is changed, if it is there
abbrev pub changed : ℕ → (Seen → Seen) → List Seen → List Seen
changed c f cs = if is_there cs c then slice_set cs (c - 1) (f (seen_at cs c)) else cs

abbrev pub having : ModeState → Seen → Seen
having m seen = record seen { mode = m }

abbrev pub taking : ℕ → Seen → Seen
taking count seen = record seen { waiting = seen.waiting - count }

abbrev pub gone : Seen → Seen
gone seen = record seen { standing = Gone; waiting = 0 }

-- it tracks and has not ended
abbrev pub tracks_at : List Seen → ℕ → Bool
tracks_at cs c = track.is_on (mode_at cs c).tracking && on_at cs c

-- the connection itself, where it is told of no key that it changes (NOLOOP)
abbrev pub passed_over : List Seen → ℕ → Option ℕ
passed_over cs c = if track.is_noloop (mode_at cs c).tracking then Some c else None

abbrev pub passes : Option ℕ → ℕ → Bool
passes None c = false
passes (Some passed) c = passed == c

-- those who are not passed over
abbrev pub unpassed : Option ℕ → List Invalidation → List Invalidation
unpassed passed told = filter (λ i. not (passes passed i.to)) told
