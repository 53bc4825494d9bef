-- How far a reader of values has come.
use Rattle.std.specs.Prelude.{◌≡◌, ℕ, List, [], ◌∷◌, ◌++◌, false, Option, Some, None, Result, Ok}
use Rattle.std.specs.Prelude.{Err}
use Rattle.resp_value.specs.Tree.{Tree}
use Rattle.resp_value.specs.ValueTree.{tree_of}
use Rattle.resp_value.specs.declared.octets.Words.{Words}
use Rattle.resp_value.specs.declared.value.Value.{Value}
use Rattle.resp_stream.specs.declared.fault.Fault.{Fault}
use Rattle.resp_stream.specs.declared.fault.StreamFault.{StreamFault}
use Rattle.resp_stream.specs.declared.fault.StreamFault.TheVariants.{NoMemory}
use Rattle.resp_stream.specs.Parsed.{Whole, More, Bad}
use Rattle.resp_stream.specs.Parse.{parse_values, values_of}
use Rattle.resp_stream.specs.Readers.{RequestGives, ValueGives, skipped}
use Rattle.resp_stream.specs.Request.{request_at}
use Rattle.resp_stream.specs.Stream.{Stream, begun, fed, moved_on}
use Rattle.resp_stream.specs.Value.{value_at}

-- Of the bytes b these values were answered, and the stream holds the rest: whatever follows, the
-- values of the whole are those that were answered and those that the stream still gives.
pub record HasRead (got : List Tree) (b : List ℕ) (s : Stream) : Type 0 where
  pub untold : s.failed ≡ false
  pub further : (m : List ℕ) → values_of (b ++ m) ≡ got ++ (parse_values (fed s m)).items

-- a reader begins so
abbrev pub BeginsRead : Type 0
BeginsRead = HasRead [] [] begun

-- it stays so where a piece is fed
abbrev pub FeedsRead : Type 0
FeedsRead =
    (got : List Tree) (b piece : List ℕ) (s : Stream) → HasRead got b s
    → HasRead got (b ++ piece) (fed s piece)

-- where a value is answered
abbrev pub AnswersRead : Type 0
AnswersRead =
    (got : List Tree) (b r : List ℕ) (s : Stream) (x : Tree) → HasRead got b s
    → value_at s.rest ≡ Whole x r → HasRead (got ++ x ∷ []) b (moved_on s r)

-- and where all are
abbrev pub EmptiesRead : Type 0
EmptiesRead =
    (got : List Tree) (b : List ℕ) (s : Stream) → HasRead got b s → (parse_values s).fault ≡ None
    → HasRead (got ++ (parse_values s).items) b (parse_values s).stream

-- where more bytes are needed, all values of b were answered
abbrev pub WaitsRead : Type 0
WaitsRead =
    (got : List Tree) (b : List ℕ) (s : Stream) → HasRead got b s → value_at s.rest ≡ More
    → values_of b ≡ got

-- at a fault too, and nothing that follows adds any
abbrev pub StopsRead : Type 0
StopsRead =
    (got : List Tree) (b r m : List ℕ) (s : Stream) (g : Fault) → HasRead got b s
    → value_at s.rest ≡ Bad g r → values_of (b ++ m) ≡ got

-- those that were answered and those that the stream still gives are the values of b
abbrev pub HoldsRead : Type 0
HoldsRead =
    (got : List Tree) (b : List ℕ) (s : Stream) → HasRead got b s
    → values_of b ≡ got ++ (parse_values s).items

-- ---- what is whole is answered

-- x is answered, and the bytes behind it stay; or memory ran out
abbrev pub IsGiven : {A X : Type 0} → (X → A) → A → List ℕ → Stream → Result (Option X) StreamFault
    → Type 0
IsGiven view x behind new (Ok None) = ⊥
IsGiven view x behind new (Ok (Some v)) = (view v ≡ x) × (new.rest ≡ behind)
IsGiven view x behind new (Err f) = f ≡ NoMemory

-- A reader of values whose bytes begin with a whole one answers it, whatever follows.
abbrev pub WholeValues : Type 0
WholeValues =
    (b m : List ℕ) (x : Tree) (old new : Stream) (result : Result (Option Value) StreamFault)
    → value_at b ≡ Whole x [] → old.rest ≡ b ++ m → ValueGives old new result
    → IsGiven tree_of x m new result

-- A reader of requests passes over empty ones.
abbrev pub WholeRequests : Type 0
WholeRequests =
    (b m : List ℕ) (x : List (List ℕ)) (old new : Stream)
    (result : Result (Option Words) StreamFault) → request_at b ≡ Whole x []
    → (skipped old).rest ≡ b ++ m → RequestGives old new result
    → IsGiven (λ (ws : Words). ws) x m new result
