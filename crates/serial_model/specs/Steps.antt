-- What a turn of the server answers and adds, and what lists of turns do.
use Rattle.std.specs.Prelude.{◌≡◌, ◌+◌, ◌<◌, ◌==◌, ℕ, List, [], ◌∷◌, ◌++◌}
use Rattle.std.specs.Prelude.{if◌then◌else◌, length, max, take}
use Rattle.serial_model.specs.declared.history.Limits.{Limits}
use Rattle.serial_model.specs.declared.history.Entry.{Entry}
use Rattle.serial_model.specs.declared.history.Entry.TheVariants as entry
use Rattle.serial_model.specs.declared.history.BookCall.{BookCall}
use Rattle.serial_model.specs.declared.history.BookCall.TheVariants.{Admit, Run, Tick, Take}
use Rattle.serial_model.specs.declared.history.BookCall.TheVariants.{Close}
use Rattle.serial_model.specs.declared.history.BookReply.{BookReply}
use Rattle.serial_model.specs.declared.history.BookReply.TheVariants.{Admitted, Ran, Ticked, Quiet}
use Rattle.serial_model.specs.declared.history.BookReply.TheVariants.{Bytes, Closed, Refused}
use Rattle.serial_model.specs.declared.history.BookRefusal.TheVariants.{Gone, NoMemory, Stopped}
use Rattle.serial_model.specs.History.{admitted, runs_on, reads_on, gives_on, is_stopped, latest}
use Rattle.serial_model.specs.History.{expired, unsent}

-- each limit is at least 1
pub record AreValid (l : Limits) : Type 0 where
  pub table : 0 < l.table_max
  pub out : 0 < l.out_max
  pub history : 0 < l.history_max

pub record Turn : Type 0 where
  pub reply : BookReply
  pub past : List Entry

abbrev pub gone : List Entry → ℕ → Turn
gone past id = record { reply = Refused (Gone id); past = past }

-- a SHUTDOWN ran
abbrev pub stopped : List Entry → Turn
stopped past = record { reply = Refused Stopped; past = past }

abbrev pub admitting : List Entry → Turn
admitting past =
    record {
      reply = Admitted (length past + 1) (admitted past + 1);
      past = entry.Admit (admitted past + 1) ∷ past;
    }

abbrev pub running : List Entry → ℕ → List (List ℕ) → ℕ → Turn
running past id words now =
    record {
      reply = Ran (length past + 1);
      past = entry.Run id words (max now (latest past)) ∷ past;
    }

-- a Tick at a moment at which these keys are due; where none is, it is Quiet and adds no entry
abbrev pub ticking : List Entry → ℕ → List (List ℕ) → Turn
ticking past moment [] = record { reply = Quiet; past = past }
ticking past moment (key ∷ keys) =
    record { reply = Ticked (length past + 1); past = entry.Tick moment ∷ past }

abbrev pub tick_at : Limits → List Entry → ℕ → Turn
tick_at l past moment = ticking past moment (expired l past moment)

-- nothing to take is Quiet, and adds no entry
abbrev pub taking : List Entry → ℕ → ℕ → List ℕ → Turn
taking past id most [] = record { reply = Quiet; past = past }
taking past id most (b ∷ bytes) =
    record { reply = Bytes (length past + 1) (b ∷ bytes); past = entry.Take id most ∷ past }

abbrev pub closing : List Entry → ℕ → Turn
closing past id = record { reply = Closed (length past + 1); past = entry.Close id ∷ past }

-- the refusals come in the order Stopped, Gone, Quiet
unfoldable pub book_step : Limits → List Entry → BookCall → Turn
book_step l past Admit = if is_stopped l past then stopped past else admitting past
book_step l past (Run id words now) =
    if runs_on l past id then running past id words now else gone past id
book_step l past (Tick now) =
    if is_stopped l past then stopped past else tick_at l past (max now (latest past))
book_step l past (Take id most) =
    if gives_on l past id then taking past id most (take most (unsent l id past))
    else gone past id
book_step l past (Close id) = if reads_on l past id then closing past id else gone past id

-- the answer is that of a turn that added an entry
abbrev pub AddsEntry : BookReply → Type 0
AddsEntry (Admitted e id) = Unit {0}
AddsEntry (Ran e) = Unit {0}
AddsEntry (Ticked e) = Unit {0}
AddsEntry Quiet = ⊥
AddsEntry (Bytes e bytes) = Unit {0}
AddsEntry (Closed e) = Unit {0}
AddsEntry (Refused r) = ⊥

-- a Close takes no memory
abbrev pub TakesMemory : BookCall → Type 0
TakesMemory Admit = Unit {0}
TakesMemory (Run id words now) = Unit {0}
TakesMemory (Tick now) = Unit {0}
TakesMemory (Take id most) = Unit {0}
TakesMemory (Close id) = ⊥

-- memory, or the entries' numbers, run out only where the step would have added an entry; at a Tick
-- also before it is known whether a key is due
abbrev pub MayRunOut : BookCall → BookReply → Type 0
MayRunOut (Tick now) Quiet = Unit {0}
MayRunOut call reply = AddsEntry reply

-- the turn is the step; or memory ran out, and nothing changed
abbrev pub BookStep : Limits → List Entry → BookCall → BookReply → List Entry → Type 0
BookStep l past call (Refused NoMemory) new =
    (new ≡ past) × MayRunOut call (book_step l past call).reply × TakesMemory call
BookStep l past call reply new = book_step l past call ≡ record { reply = reply; past = new }

-- a Take takes some bytes
abbrev pub IsCallable : BookCall → Type 0
IsCallable Admit = Unit {0}
IsCallable (Run id words now) = Unit {0}
IsCallable (Tick now) = Unit {0}
IsCallable (Take id most) = 0 < most
IsCallable (Close id) = Unit {0}

-- calls are played one after another
abbrev pub Turns : Limits → List Entry → List BookCall → List BookReply → List Entry → Type 0
Turns l old [] [] new = new ≡ old
Turns l old [] (reply ∷ replies) new = ⊥
Turns l old (call ∷ calls) [] new = ⊥
Turns l old (call ∷ calls) (reply ∷ replies) new =
    (mid : List Entry) × BookStep l old call reply mid × Turns l mid calls replies new

abbrev pub given_by : ℕ → BookCall → BookReply → List ℕ
given_by c (Take id most) (Bytes e bytes) = if id == c then bytes else []
given_by c call reply = []

-- the bytes that a connection was given
abbrev pub given : ℕ → List BookCall → List BookReply → List ℕ
given c [] replies = []
given c (call ∷ calls) [] = []
given c (call ∷ calls) (reply ∷ replies) = given_by c call reply ++ given c calls replies

abbrev pub ran_by : ℕ → BookCall → BookReply → List (List (List ℕ))
ran_by c (Run id words now) (Ran e) = if id == c then words ∷ [] else []
ran_by c call reply = []

-- the requests of a connection that were answered as run
abbrev pub answered : ℕ → List BookCall → List BookReply → List (List (List ℕ))
answered c [] replies = []
answered c (call ∷ calls) [] = []
answered c (call ∷ calls) (reply ∷ replies) = ran_by c call reply ++ answered c calls replies
