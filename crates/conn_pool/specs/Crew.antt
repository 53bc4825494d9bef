-- What a worker, or several that were joined, have.
use Rattle.std.specs.Prelude.{◌≡◌, ◌≤◌, ◌<◌, ◌+◌, ◌*◌, ◌⊎◌, ℕ, List, Bool, true, Option}
use Rattle.atomic_table.specs.Seated.{TableId}
use Rattle.turn_lock.specs.History.{IsPrefix}
use Rattle.serial_model.specs.declared.history.Limits.{Limits}
use Rattle.serial_model.specs.History.{is_stopped}
use Rattle.turn_lock.specs.Own.{past_of}
use Rattle.shared_book.specs.Turns.{IsServerCause, Place, limits_of, Refuses, Ticks}
use Rattle.shared_book.specs.declared.turns.Refusal.{Refusal}
use Rattle.conn_worker.specs.declared.report.Report.{Report}
use Rattle.conn_pool.specs.declared.crew.TheConstants.{PARTS}

-- its seat, the links that it took, how often it left the dispatcher, its parts of the two ledgers,
-- and its reports, where none was lost, of which each is kept or their totals
pub record Team : Type 0 where
  pub seat : Place
  pub links : ℕ
  pub link_parts : ℕ
  pub gone : ℕ
  pub gone_parts : ℕ
  pub reports : List Report
  pub each : Bool
  pub lost : Bool

-- it is of this lock, and keeps each report or their totals
abbrev pub IsOf : TableId → Option Limits → Bool → Team → Type 0
IsOf lock setup each t = (t.seat.lock ≡ lock) × (t.seat.setup ≡ setup) × (t.each ≡ each)

-- it has so many parts
abbrev pub Ready : TableId → ℕ → Team → Type 0
Ready lock parts t =
    (t.seat.lock ≡ lock) × (parts ≤ t.seat.parts) × (parts ≡ t.link_parts)
    × (parts ≡ t.gone_parts)

-- it has the parts of so many workers
abbrev pub IsReady : TableId → Option Limits → Bool → TableId → ℕ → Team → Type 0
IsReady own setup each lock workers t =
    (1 ≤ workers) × (workers ≤ 64) × (lock ≡ own) × IsOf own setup each t
    × Ready lock (workers * PARTS) t

-- so many links were given with a part each, and it left the dispatcher so often
abbrev pub Gives : ℕ → ℕ → Team → Team → Type 0
Gives links leaves old new =
    (new.seat.lock ≡ old.seat.lock) × (new.seat.setup ≡ old.seat.setup) × (new.each ≡ old.each)
    × (new.seat.parts + links ≡ old.seat.parts) × (new.link_parts + links ≡ old.link_parts)
    × (new.gone_parts + links ≡ old.gone_parts) × (new.gone ≡ old.gone + leaves)
    × (new.seat.seen ≡ old.seat.seen)

-- it is of the same lock with the same parts
abbrev pub Same : Team → Team → Type 0
Same old new =
    (new.seat.lock ≡ old.seat.lock) × (new.seat.setup ≡ old.seat.setup)
    × (new.seat.parts ≡ old.seat.parts) × (new.link_parts ≡ old.link_parts)
    × (new.gone_parts ≡ old.gone_parts) × (new.each ≡ old.each)

-- a SHUTDOWN ran, as a seat shows it
abbrev pub IsStopped : Place → Type 0
IsStopped k = is_stopped (limits_of k) (past_of k) ≡ true

-- a Tick was played, or refused
abbrev pub Looks : Place → Place → Type 0
Looks old new =
    ((now : ℕ) × Ticks now old new) ⊎ ((e : Refusal) × Refuses IsServerCause e old new)

-- it takes no more links: it left the dispatcher, or a SHUTDOWN ran
abbrev pub Leaves : Team → Team → Type 0
Leaves old new = (old.gone < new.gone) ⊎ IsStopped new.seat

-- how many connections there are, and for how many there is room
pub record Present : Type 0 where
  pub count : ℕ
  pub room : ℕ

-- a worker, how many connections it has, each with one of its parts, and whether it takes no more
pub record Hosted : Type 0 where
  pub team : Team
  pub guests : ℕ
  pub left : Bool

abbrev pub hosted : Team → ℕ → Bool → Hosted
hosted team guests left = record { team = team; guests = guests; left = left }

-- all its parts are its own or its connections'
pub record Hosts (lock : TableId) (setup : Option Limits) (each : Bool) (h : Hosted) : Type 0
  where
    pub is_of : IsOf lock setup each h.team
    pub parts : PARTS ≤ h.team.seat.parts + h.guests
    pub link_parts : h.team.link_parts + h.guests ≡ PARTS
    pub gone_parts : h.team.gone_parts + h.guests ≡ PARTS

-- What a worker had, and has. It takes no more only where it left.
pub record Goes (old new : Hosted) : Type 0 where
  pub lock : new.team.seat.lock ≡ old.team.seat.lock
  pub setup : new.team.seat.setup ≡ old.team.seat.setup
  pub each : new.team.each ≡ old.team.each
  pub parts : new.team.seat.parts + new.guests ≡ old.team.seat.parts + old.guests
  pub link_parts : new.team.link_parts + new.guests ≡ old.team.link_parts + old.guests
  pub gone_parts : new.team.gone_parts + new.guests ≡ old.team.gone_parts + old.guests
  pub gone : old.team.gone ≤ new.team.gone
  pub seen : IsPrefix old.team.seat.seen new.team.seat.seen
  pub left : new.left ≡ true → (old.left ≡ true) ⊎ Leaves old.team new.team
