-- What holds of the fields of the readers.
use Rattle.std.specs.Prelude.{◌≡◌, ◌+◌, ℕ, List, length, drop, reverse, true, Option, Some, None}
use Rattle.std.specs.Prelude.{is_some}
use Rattle.resp_stream.specs.declared.fault.StreamFault.{StreamFault}
use Rattle.resp_stream.specs.declared.input.Input.{Input}
use Rattle.resp_stream.specs.declared.request.Progress.{Progress}
use Rattle.resp_stream.specs.declared.stack.ValueProgress.{ValueProgress}
use Rattle.resp_stream.specs.Parsed.{Parsed}
use Rattle.resp_stream.specs.Request.{request_at, skip_empty}
use Rattle.resp_stream.specs.RequestSteps.{IsProgress}
use Rattle.resp_stream.specs.Value.{value_at}
use Rattle.resp_stream.specs.ValueSteps.{IsStack, LineSeen}
use Rattle.resp_stream.specs.Readers.{IsFaultOf, NotMemory}
use Rattle.resp_stream.specs.Stream.{Stream}

-- what was fed and not passed, as a reader's callers see it
abbrev pub stream_of : Input → Stream
stream_of i = record { before = i.before; rest = i.rest; failed = is_some i.broken }

-- a fault that was answered is that of the rest, where nothing is passed over
pub record IsKept {A : Type 0} (read : List ℕ → Parsed A) (past : List ℕ → List ℕ) (before : ℕ)
    (rest : List ℕ) (f : StreamFault) : Type 0 where
  pub here : past rest ≡ rest
  pub faulty : IsFaultOf read (record { before = before; rest = rest; failed = true }) f
  pub memory : NotMemory f

abbrev pub Kept : {A : Type 0} → (List ℕ → Parsed A) → (List ℕ → List ℕ) → ℕ → List ℕ
    → Option StreamFault → Type 0
Kept read past before rest None = Unit {0}
Kept read past before rest (Some f) = IsKept read past before rest f

pub record RequestState (input : Input) (progress : Progress) : Type 0 where
  pub is_progress : IsProgress input.rest progress
  pub kept : Kept request_at skip_empty input.before input.rest input.broken

pub record ValueState (input : Input) (p : ValueProgress) : Type 0 where
  pub levels : p.room + length p.stack.items ≡ 8
  pub stack : IsStack 8 input.rest p.at p.room (reverse p.stack.items)
  pub line : LineSeen (drop p.at input.rest) p.seen
  pub kept : Kept value_at (λ b. b) input.before input.rest input.broken
