-- A fault of the bytes, as a reader answers it, and a piece that was fed.
use Rattle.std.proofs.Common.{◌≡◌, ℕ, false, Option, None, arith}
use Rattle.std.specs.Prelude.{is_some}
use Rattle.resp_stream.specs.declared.fault.Fault.{Fault}
use Rattle.resp_stream.specs.declared.fault.StreamFault.{StreamFault}
use Rattle.resp_stream.specs.Readers.{NotMemory}
use Rattle.resp_stream.specs.Stream.{stream_fault}

pub none_is : (broken : Option StreamFault) → is_some broken ≡ false → broken ≡ None
none_is broken e = grind arith

pub not_memory : (g : Fault) (o : ℕ) (f : StreamFault) → f ≡ stream_fault g o → NotMemory f
not_memory g o f e = grind arith
