-- What the readers of requests and of values answer of a stream.
use Rattle.std.specs.Prelude.{◌≡◌, ◌-◌, ℕ, List, length, true, Option, Some, None, Result, Ok, Err}
use Rattle.resp_value.specs.ValueTree.{tree_of}
use Rattle.resp_value.specs.declared.octets.Words.{Words}
use Rattle.resp_value.specs.declared.value.Value.{Value}
use Rattle.resp_stream.specs.declared.fault.Fault.{Fault}
use Rattle.resp_stream.specs.declared.fault.StreamFault.{StreamFault}
use Rattle.resp_stream.specs.declared.fault.StreamFault.TheVariants.{NoMemory}
use Rattle.resp_stream.specs.Parsed.{Parsed, Whole, More, Bad}
use Rattle.resp_stream.specs.Request.{request_at, skip_empty}
use Rattle.resp_stream.specs.Value.{value_at}
use Rattle.resp_stream.specs.Stream.{Stream, offset_by, moved_on, stream_fault}

-- f is the fault that `read` meets in the rest of s
pub record IsFaultOf {A : Type 0} (read : List ℕ → Parsed A) (s : Stream) (f : StreamFault) : Type 0
  where
    pub fault : Fault
    pub left : List ℕ
    pub is : read s.rest ≡ Bad fault left
    pub place : f ≡ stream_fault fault (offset_by s.before (length s.rest - length left))

-- `past` is the stream after what is passed over
abbrev pub FaultGives : {A : Type 0} → (List ℕ → Parsed A) → Stream → Stream → Stream → StreamFault
    → Type 0
FaultGives read past old new NoMemory = new ≡ old
FaultGives read past old new f = IsFaultOf read past f × (new ≡ record past { failed = true })

abbrev pub ReaderGives : {A X : Type 0} → (List ℕ → Parsed A) → (X → A) → Stream → Stream → Stream
    → Result (Option X) StreamFault → Type 0
ReaderGives read view past old new (Ok None) = (read past.rest ≡ More) × (new ≡ past)
ReaderGives read view past old new (Ok (Some x)) =
    (read past.rest ≡ Whole (view x) new.rest) × (new ≡ moved_on old new.rest)
ReaderGives read view past old new (Err f) = FaultGives read past old new f

-- empty requests are passed over
abbrev pub skipped : Stream → Stream
skipped s = moved_on s (skip_empty s.rest)

abbrev pub RequestGives : Stream → Stream → Result (Option Words) StreamFault → Type 0
RequestGives old new result =
    ReaderGives request_at (λ (ws : Words). ws) (skipped old) old new result

abbrev pub ValueGives : Stream → Stream → Result (Option Value) StreamFault → Type 0
ValueGives old new result = ReaderGives value_at tree_of old old new result

abbrev pub OnItem : {X : Type 0} → Result (Option X) StreamFault → (X → Type 0) → Type 0
OnItem (Ok None) p = Unit {0}
OnItem (Ok (Some x)) p = p x
OnItem (Err f) p = Unit {0}

-- a fault of the bytes
abbrev pub NotMemory : StreamFault → Type 0
NotMemory NoMemory = ⊥
NotMemory f = Unit {0}

abbrev pub IfFault : {X : Type 0} → Result X StreamFault → (StreamFault → Type 0) → Type 0
IfFault (Ok x) p = Unit {0}
IfFault (Err f) p = p f
