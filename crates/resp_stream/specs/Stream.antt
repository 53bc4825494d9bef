-- A stream as its callers see it.
use Rattle.std.specs.Prelude.{ℕ, ◌+◌, ◌-◌, min, List, [], ◌++◌, cond, false, refl, Bool, length}
use Rattle.std.specs.Prelude.{Option, Some, None}
use Rattle.std.specs.Coded.{Coded, code_by, coded×, coded_ℕ, coded_list, coded_bool}
use Rattle.resp_stream.specs.declared.fault.Fault.{Fault}
use Rattle.resp_stream.specs.declared.fault.Fault.TheVariants as fault
use Rattle.resp_stream.specs.declared.fault.StreamFault.{StreamFault}
use Rattle.resp_stream.specs.declared.fault.StreamFault.TheVariants.{BadByte, TooLong, TooDeep}
use Rattle.resp_stream.specs.declared.fault.StreamFault.TheVariants.{NotServed, NoMemory}
use Rattle.resp_stream.specs.declared.fault.FaultPlace.{FaultPlace}

-- how many bytes were before the rest, the rest that was not answered, and whether it has failed
pub record Stream : Type 0 where
  pub before : ℕ
  pub rest : List ℕ
  pub failed : Bool

abbrev pub stream_code : Coded Stream
stream_code =
    code_by (ℕ × (List ℕ × Bool)) (coded× coded_ℕ (coded× (coded_list coded_ℕ) coded_bool))
    (λ s. (s.before, (s.rest, s.failed)))
    (λ p. record { before = p.0; rest = p.1.0; failed = p.1.1 }) (λ _. refl)

abbrev pub begun : Stream
begun = record { before = 0; rest = []; failed = false }

-- Offsets have 64 bits.
abbrev pub offset_by : ℕ → ℕ → ℕ
offset_by before count = min (before + count) 18446744073709551615

-- the piece follows the rest; after a fault nothing is kept
abbrev pub fed : Stream → List ℕ → Stream
fed s piece =
    record { before = s.before; rest = cond s.failed s.rest (s.rest ++ piece); failed = s.failed }

-- the bytes before `rest` are done
abbrev pub moved_on : Stream → List ℕ → Stream
moved_on s rest =
    record {
      before = offset_by s.before (length s.rest - length rest);
      rest = rest;
      failed =
          s.failed;
    }

abbrev pub stream_fault : Fault → ℕ → StreamFault
stream_fault fault.BadByte o = BadByte o
stream_fault (fault.TooLong n) o = TooLong o n
stream_fault fault.TooDeep o = TooDeep o
stream_fault (fault.NotServed c) o = NotServed o c

-- a fault of the bytes by its number, and its place; want of memory has none
abbrev pub fault_place : StreamFault → Option FaultPlace
fault_place (BadByte o) = Some (record { number = 1; offset = o })
fault_place (TooLong o n) = Some (record { number = 2; offset = o })
fault_place (TooDeep o) = Some (record { number = 3; offset = o })
fault_place (NotServed o c) = Some (record { number = 4; offset = o })
fault_place NoMemory = None
