-- Several requests of one connection and the Take behind them, in one batch.
use Rattle.std.specs.Prelude.{◌≡◌, ◌≤◌, ◌<◌, ◌+◌, ◌++◌, ◌⊎◌, ℕ, suc, List, [], ◌∷◌, length, take}
use Rattle.std.specs.Prelude.{Option, Some, None, Bool, true, false, ⊤}
use Rattle.std.specs.List.{All}
use Rattle.resp_value.specs.declared.octets.Octets.{Octets}
use Rattle.serial_model.specs.declared.history.BookCall.{BookCall}
use Rattle.serial_model.specs.declared.history.BookCall.TheVariants as call
use Rattle.serial_model.specs.declared.history.BookReply.{BookReply}
use Rattle.serial_model.specs.declared.history.BookReply.TheVariants.{Admitted, Ran, Ticked, Quiet}
use Rattle.serial_model.specs.declared.history.BookReply.TheVariants.{Bytes, Closed, Refused}
use Rattle.serial_model.specs.declared.history.BookRefusal.{BookRefusal}
use Rattle.serial_model.specs.declared.history.BookRefusal.TheVariants as because
use Rattle.serial_model.specs.History.{gives_on, runs_on}
use Rattle.serial_model.specs.Steps.{BookStep}
use Rattle.turn_lock.specs.Own.{Grows}
use Rattle.shared_book.specs.Turns.{Shared, Place, Runs, Takes, IsCause}
use Rattle.shared_book.specs.declared.batch.BatchEnd.{BatchEnd}
use Rattle.shared_book.specs.declared.batch.BatchEnd.TheVariants as ends
use Rattle.shared_book.specs.declared.logged.Answer.{Answer}
use Rattle.shared_book.specs.declared.logged.Answer.TheVariants.{Told, Held}
use Rattle.shared_book.specs.declared.turns.Refusal.{Refusal}
use Rattle.shared_book.specs.declared.turns.Refusal.TheVariants as refusal

-- a Run and a Take may be passed unplayed
abbrev pub MayPass : BookCall → Type 0
MayPass call.Admit = ⊥
MayPass (call.Run id words now) = ⊤
MayPass (call.Tick now) = ⊥
MayPass (call.Take id most) = ⊤
MayPass (call.Close id) = ⊥

abbrev pub adds_none : BookReply → Bool
adds_none (Admitted n id) = false
adds_none (Ran n) = false
adds_none (Ticked n) = false
adds_none Quiet = true
adds_none (Bytes n bytes) = false
adds_none (Closed n) = false
adds_none (Refused r) = true

-- the answer of a turn that added no entry: behind one, the rest of a batch is passed
abbrev pub ends_batch : Answer → Bool
ends_batch (Told reply) = adds_none reply
ends_batch (Held back) = true

-- the step may answer a Take of the connection so, and it adds no entry
abbrev pub PassesTake : Shared → ℕ → BookReply → Type 0
PassesTake s id reply =
    (adds_none reply ≡ true)
    × ((most : ℕ) → 0 < most → BookStep s.limits s.past (call.Take id most) reply s.past)

-- a call that runs a request of the connection at this moment
abbrev pub IsRunAt : ℕ → ℕ → BookCall → Type 0
IsRunAt id now call.Admit = ⊥
IsRunAt id now (call.Run n words moment) = (n ≡ id) × (moment ≡ now)
IsRunAt id now (call.Tick moment) = ⊥
IsRunAt id now (call.Take n most) = ⊥
IsRunAt id now (call.Close n) = ⊥

abbrev pub requests_in : List BookCall → List (List (List ℕ))
requests_in [] = []
requests_in (call.Admit ∷ calls) = requests_in calls
requests_in (call.Run id words now ∷ calls) = words ∷ requests_in calls
requests_in (call.Tick now ∷ calls) = requests_in calls
requests_in (call.Take id most ∷ calls) = requests_in calls
requests_in (call.Close id ∷ calls) = requests_in calls

-- these requests run at this moment, one after another
abbrev pub RunsEach : ℕ → ℕ → List (List (List ℕ)) → Place → Place → Type 0
RunsEach id now [] before after = Grows before after []
RunsEach id now (words ∷ requests) before after =
    (mid : Place) × Runs id words now before mid × RunsEach id now requests mid after

-- All requests run, one after another, and what waits behind them is taken. So many ran before.
pub record RunsAndTakes (id now count : ℕ) (requests : List (List (List ℕ))) (ran : ℕ)
    (front : Option Octets) (before after : Place) : Type 0 where
  pub middle : Place
  pub each : RunsEach id now requests before middle
  pub counted : ran ≡ count + length requests
  pub fits : ran ≤ length middle.seen
  pub takes : Takes id front middle after

-- The first of the requests run, and these calls of the others come back. So many ran before.
pub record HoldsBack (id now count : ℕ) (requests : List (List (List ℕ))) (ran : ℕ)
    (back : List BookCall) (before after : Place) : Type 0 where
  pub first : List (List (List ℕ))
  pub parts : requests ≡ first ++ requests_in back
  pub each : RunsEach id now first before after
  pub counted : ran ≡ count + length first
  pub fits : ran ≤ length after.seen
  pub runs : All (IsRunAt id now) back
  pub some : 0 < length (requests_in back)

-- The first of the requests run, and the one behind them is refused, or the Take where all ran.
pub record RunsFirst (id now count : ℕ) (requests : List (List (List ℕ))) (ran : ℕ)
    (cause : Refusal) (before after : Place) : Type 0 where
  pub number : ℕ
  pub counted : ran ≡ count + number
  pub within : number ≤ length requests
  pub each : RunsEach id now (take number requests) before after
  pub cause_is : IsCause runs_on id cause after
  pub take_is : number ≡ length requests → IsCause gives_on id cause after

-- what became of the requests, of which so many ran, with those before
abbrev pub EndsSo : ℕ → ℕ → ℕ → List (List (List ℕ)) → ℕ → BatchEnd → Place → Place → Type 0
EndsSo id now count requests ran (ends.Taken front) before after =
    RunsAndTakes id now count requests ran front before after
EndsSo id now count requests ran (ends.Held calls) before after =
    HoldsBack id now count requests ran calls.items before after
EndsSo id now count requests ran (ends.Refused cause) before after =
    RunsFirst id now count requests ran cause before after

-- ---- what the answers of a batch tell

abbrev pub refusal_by : BookRefusal → Refusal
refusal_by (because.Gone id) = refusal.Dropped
refusal_by because.NoMemory = refusal.NoMemory
refusal_by because.Stopped = refusal.Stopped

-- what a Run is answered
abbrev pub IsOfRun : Answer → Type 0
IsOfRun (Told (Admitted n id)) = ⊥
IsOfRun (Told (Ran n)) = ⊤
IsOfRun (Told (Ticked n)) = ⊥
IsOfRun (Told Quiet) = ⊥
IsOfRun (Told (Bytes n bytes)) = ⊥
IsOfRun (Told (Closed n)) = ⊥
IsOfRun (Told (Refused r)) = ⊤
IsOfRun (Held back) = ⊤

-- what the Take behind the Runs is answered
abbrev pub IsOfTake : Answer → Type 0
IsOfTake (Told (Admitted n id)) = ⊥
IsOfTake (Told (Ran n)) = ⊥
IsOfTake (Told (Ticked n)) = ⊥
IsOfTake (Told Quiet) = ⊤
IsOfTake (Told (Bytes n bytes)) = ⊤
IsOfTake (Told (Closed n)) = ⊥
IsOfTake (Told (Refused r)) = ⊤
IsOfTake (Held back) = ⊥

-- how many Runs the answers tell of, up to one that was refused
abbrev pub ran_in : List Answer → ℕ
ran_in [] = 0
ran_in (Told (Admitted n id) ∷ answers) = 0
ran_in (Told (Ran n) ∷ answers) = suc (ran_in answers)
ran_in (Told (Ticked n) ∷ answers) = 0
ran_in (Told Quiet ∷ answers) = 0
ran_in (Told (Bytes n bytes) ∷ answers) = 0
ran_in (Told (Closed n) ∷ answers) = 0
ran_in (Told (Refused r) ∷ answers) = 0
ran_in (Held back ∷ answers) = ran_in answers

-- the numbers of the Runs' entries are past the number of requests that ran before each
abbrev pub Counts : ℕ → List Answer → Type 0
Counts count [] = ⊤
Counts count (Told (Admitted n id) ∷ answers) = ⊤
Counts count (Told (Ran n) ∷ answers) = (count < n) × Counts (suc count) answers
Counts count (Told (Ticked n) ∷ answers) = ⊤
Counts count (Told Quiet ∷ answers) = ⊤
Counts count (Told (Bytes n bytes) ∷ answers) = ⊤
Counts count (Told (Closed n) ∷ answers) = ⊤
Counts count (Told (Refused r) ∷ answers) = ⊤
Counts count (Held back ∷ answers) = Counts count answers

-- these calls come back, unless memory runs out for their list
abbrev pub ComesBack : List BookCall → BatchEnd → Type 0
ComesBack back (ends.Taken front) = ⊥
ComesBack back (ends.Held calls) = calls.items ≡ back
ComesBack back (ends.Refused cause) = cause ≡ refusal.NoMemory

-- what the answer to the Take tells of the end
abbrev pub TakeTells : Answer → BatchEnd → Type 0
TakeTells (Told (Admitted n id)) end = ⊥
TakeTells (Told (Ran n)) end = ⊥
TakeTells (Told (Ticked n)) end = ⊥
TakeTells (Told Quiet) end = end ≡ ends.Taken None
TakeTells (Told (Bytes n bytes)) end = end ≡ ends.Taken (Some bytes)
TakeTells (Told (Closed n)) end = ⊥
TakeTells (Told (Refused r)) end = end ≡ ends.Refused (refusal_by r)
TakeTells (Held back) end = ⊥

-- what the answers tell where all requests ran, or these calls came back
abbrev pub IsLast : List BookCall → Answer → BatchEnd → Type 0
IsLast [] last end = TakeTells last end
IsLast (one ∷ back) last end = ComesBack (one ∷ back) end

-- what the answers to the Runs, and that to the Take, tell of the end, behind these that came back
abbrev pub Tells : List BookCall → List Answer → Answer → BatchEnd → Type 0
Tells back [] last end = IsLast back last end
Tells back (Told (Admitted n id) ∷ answers) last end = ⊥
Tells back (Told (Ran n) ∷ answers) last end = Tells back answers last end
Tells back (Told (Ticked n) ∷ answers) last end = ⊥
Tells back (Told Quiet ∷ answers) last end = ⊥
Tells back (Told (Bytes n bytes) ∷ answers) last end = ⊥
Tells back (Told (Closed n) ∷ answers) last end = ⊥
Tells back (Told (Refused r) ∷ answers) last end = end ≡ ends.Refused (refusal_by r)
Tells back (Held one ∷ answers) last end =
    Tells (back ++ one ∷ []) answers last end ⊎ (end ≡ ends.Refused refusal.NoMemory)
