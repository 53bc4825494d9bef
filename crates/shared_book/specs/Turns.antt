-- The server's turns, as a seat of the lock takes them.
use Rattle.std.specs.Prelude.{◌≡◌, ◌+◌, ◌<◌, ◌≤◌, ◌⊎◌, ℕ, List, [], ◌∷◌, length, max, take}
use Rattle.std.specs.Prelude.{Option, Some, None, Bool, true, false, ⊤}
use Rattle.turn_lock.specs.History.{IsPrefix, past_after}
use Rattle.turn_lock.specs.Seats.{Known}
use Rattle.turn_lock.specs.declared.rule.TheConstants.{LAST_TICKET}
use Rattle.resp_value.specs.declared.octets.Octets.{Octets}
use Rattle.serial_model.specs.declared.history.Limits.{Limits}
use Rattle.serial_model.specs.declared.history.Entry.{Entry}
use Rattle.serial_model.specs.declared.history.Entry.TheVariants as entry
use Rattle.serial_model.specs.declared.history.BookCall.{BookCall}
use Rattle.serial_model.specs.declared.history.BookCall.TheVariants as asks
use Rattle.serial_model.specs.declared.history.BookReply.{BookReply}
use Rattle.serial_model.specs.History.{admitted, expired, gives_on, latest, reads_on, runs_on}
use Rattle.serial_model.specs.History.{is_stopped, unsent}
use Rattle.serial_model.specs.Steps.{BookStep}
use Rattle.turn_lock.specs.Own.{past_of, Grows}
use Rattle.turn_lock.specs.Turns.{Plays}
use Rattle.shared_book.specs.declared.logged.Answer.{Answer}
use Rattle.shared_book.specs.declared.logged.Answer.TheVariants.{Told, Held}
use Rattle.shared_book.specs.declared.turns.Refusal.{Refusal}
use Rattle.shared_book.specs.declared.turns.Refusal.TheVariants as refusal
use Rattle.shared_book.specs.declared.turns.Ran.{Ran}
use Rattle.shared_book.specs.declared.turns.Ran.TheVariants as came

-- the limits and the history of a book that threads take turns on
pub record Shared : Type 0 where
  pub limits : Limits
  pub past : List Entry

-- the book's step on this past may give this reply and add this entry, or none
abbrev pub BookTurn : Limits → List Entry → BookCall → BookReply → Option Entry → Type 0
BookTurn l past call reply entry = BookStep l past call reply (past_after past entry)

abbrev pub is_run : BookCall → Bool
is_run asks.Admit = false
is_run (asks.Run id words now) = true
is_run (asks.Tick now) = false
is_run (asks.Take id n) = false
is_run (asks.Close id) = false

-- a turn under the lock: one of the book; or the call, which is a Run, comes back unplayed
abbrev pub TurnStep : Limits → List Entry → BookCall → Answer → Option Entry → Type 0
TurnStep l past call (Told reply) entry = BookTurn l past call reply entry
TurnStep l past call (Held back) entry = (back ≡ call) × (is_run call ≡ true) × (entry ≡ None)

-- the most bytes of one Take
abbrev pub most : ℕ
most = 65536

-- a Run of a connection for which as much waits as one Take may give, or more
abbrev pub IsHeldBack : Limits → List Entry → BookCall → Type 0
IsHeldBack l past asks.Admit = ⊥
IsHeldBack l past (asks.Run id words now) = most ≤ length (unsent l id past)
IsHeldBack l past (asks.Tick now) = ⊥
IsHeldBack l past (asks.Take id n) = ⊥
IsHeldBack l past (asks.Close id) = ⊥

-- an entry with the entries before it
abbrev pub Turn : Type 0
Turn = Entry × List Entry

-- what a server's seat knows
abbrev pub Place : Type 0
Place = Known Limits Entry

abbrev pub limits_in : Option Limits → Limits
limits_in None = record { table_max = 0; out_max = 0; history_max = 0 }
limits_in (Some l) = l

-- the limits of the seat's server
abbrev pub limits_of : Place → Limits
limits_of k = limits_in k.setup

-- what a connection may still do, by the history: a Run, a Take or a Close
abbrev pub May : Type 0
May = Limits → List Entry → ℕ → Bool

-- why such a turn of a connection that was admitted was not taken, as the seat shows it: it has
-- ended, so that it may not take it any more
abbrev pub IsCause : May → ℕ → Refusal → Place → Type 0
IsCause may id refusal.Dropped k = may (limits_of k) (past_of k) id ≡ false
IsCause may id refusal.NoMemory k = ⊤
IsCause may id refusal.Worn k = LAST_TICKET ≤ k.tickets
IsCause may id refusal.Stopped k = ⊥

-- a Close takes no memory
abbrev pub IsCloseCause : ℕ → Refusal → Place → Type 0
IsCloseCause id refusal.Dropped k = IsCause reads_on id refusal.Dropped k
IsCloseCause id refusal.NoMemory k = ⊥
IsCloseCause id refusal.Worn k = IsCause reads_on id refusal.Worn k
IsCloseCause id refusal.Stopped k = ⊥

-- why a turn that is of no connection was not taken
abbrev pub IsServerCause : Refusal → Place → Type 0
IsServerCause refusal.Dropped k = ⊥
IsServerCause refusal.NoMemory k = ⊤
IsServerCause refusal.Worn k = LAST_TICKET ≤ k.tickets
IsServerCause refusal.Stopped k = is_stopped (limits_of k) (past_of k) ≡ true

-- a turn was not taken, for one of these causes
pub record Refuses (why : Refusal → Place → Type 0) (cause : Refusal) (before after : Place)
    : Type 0 where
  pub grows : Grows before after []
  pub cause_is : why cause after

pub record Admits (id : ℕ) (before after : Place) : Type 0 where
  pub past : List Entry
  pub next : id ≡ admitted past + 1
  pub grows : Grows before after ((entry.Admit id, past) ∷ [])
  pub ends : past_of after ≡ entry.Admit id ∷ past

pub record Runs (id : ℕ) (words : List (List ℕ)) (now : ℕ) (before after : Place) : Type 0 where
  pub past : List Entry
  pub begins : IsPrefix (past_of before) past
  pub on : runs_on (limits_of before) past id ≡ true
  pub grows : Grows before after ((entry.Run id words (max now (latest past)), past) ∷ [])
  pub ends : past_of after ≡ entry.Run id words (max now (latest past)) ∷ past

-- a turn of the book was played; or the call, a Run, comes back, and none was
abbrev pub PlaysOne : BookCall → Answer → Place → Place → Type 0
PlaysOne call (Told reply) before after = Plays BookTurn call reply before after
PlaysOne call (Held back) before after =
    (back ≡ call) × (is_run call ≡ true) × Grows before after []

-- it ran, and this is the number of its entry; or it comes back, and was not played
abbrev pub MayRun : ℕ → List (List ℕ) → ℕ → Ran → Place → Place → Type 0
MayRun id words now (came.Entry n) before after =
    Runs id words now before after × (n ≡ length after.seen)
MayRun id words now (came.Held back) before after =
    (back ≡ asks.Run id words now) × Grows before after []

-- a Take that gave these bytes
pub record Gives (id most : ℕ) (bytes : List ℕ) (before after : Place) : Type 0 where
  pub past : List Entry
  pub begins : IsPrefix (past_of before) past
  pub given : bytes ≡ take most (unsent (limits_of before) id past)
  pub keeps : reads_on (limits_of before) past id ≡ true
  pub grows : Grows before after ((entry.Take id most, past) ∷ [])
  pub ends : past_of after ≡ entry.Take id most ∷ past

-- a Take that found nothing: all was taken, or a Close behind a QUIT gave it up
pub record Rests (id : ℕ) (before after : Place) : Type 0 where
  pub none : unsent (limits_of before) id (past_of after) ≡ []
  pub gives : gives_on (limits_of before) (past_of after) id ≡ true
  pub grows : Grows before after []

-- a Tick that found these keys due, and took them out
pub record Expires (now : ℕ) (before after : Place) : Type 0 where
  pub past : List Entry
  pub begins : IsPrefix (past_of before) past
  pub due : expired (limits_of before) past (max now (latest past)) ≡ [] → ⊥
  pub grows : Grows before after ((entry.Tick (max now (latest past)), past) ∷ [])
  pub ends : past_of after ≡ entry.Tick (max now (latest past)) ∷ past

-- a Tick that found no key due
pub record Quiets (now : ℕ) (before after : Place) : Type 0 where
  pub none : expired (limits_of before) (past_of after) (max now (latest (past_of after))) ≡ []
  pub grows : Grows before after []

abbrev pub Ticks : ℕ → Place → Place → Type 0
Ticks now before after = Expires now before after ⊎ Quiets now before after

-- a Close, also behind a QUIT
pub record Closes (id : ℕ) (before after : Place) : Type 0 where
  pub past : List Entry
  pub begins : IsPrefix (past_of before) past
  pub keeps : reads_on (limits_of before) past id ≡ true
  pub grows : Grows before after ((entry.Close id, past) ∷ [])
  pub ends : past_of after ≡ entry.Close id ∷ past

abbrev pub Takes : ℕ → Option Octets → Place → Place → Type 0
Takes id (Some bytes) before after = Gives id most bytes before after × (0 < length bytes)
Takes id None before after = Rests id before after
