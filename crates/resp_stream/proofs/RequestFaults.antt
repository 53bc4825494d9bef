-- A fault of a request, as the reader keeps and answers it.
use Rattle.std.proofs.lemmas.List.{take-append-le, drop-append-le, length-append, length-drop}
use Rattle.std.proofs.Common.{append_assoc, ◌≡◌, ℕ, ◌-◌, ◌≤◌, List, ◌++◌, sym, ap, subst, ◌∙◌, Bool}
use Rattle.std.proofs.Common.{cond, length, drop, arith, Some}
use Rattle.std.specs.Prelude.{is_some, Result, OnOk, OnErr}
use Rattle.resp_value.specs.declared.octets.NoMemory.{NoMemory}
use Rattle.resp_stream.specs.declared.fault.Fault.{Fault}
use Rattle.resp_stream.specs.declared.fault.StreamFault.{StreamFault}
use Rattle.resp_stream.specs.declared.input.Input.{Input}
use Rattle.resp_stream.specs.declared.request.Progress.{Progress}
use Rattle.resp_stream.specs.declared.request.Progress.TheVariants.{Line, Words}
use Rattle.resp_stream.specs.Parsed.{Bad}
use Rattle.resp_stream.specs.Readers.{IsFaultOf, FaultGives, NotMemory, skipped}
use Rattle.resp_stream.specs.ReaderStates.{stream_of, Kept, RequestState}
use Rattle.resp_stream.specs.Request.{request_at, skip_empty}
use Rattle.resp_stream.specs.RequestSteps.{IsPast, IsProgress}
use Rattle.resp_stream.specs.Stream.{fed, offset_by, stream_fault}
use Rattle.resp_stream.proofs.Line.{passed_none}
use Rattle.resp_stream.proofs.ReaderFaults.{none_is, not_memory}
use Rattle.resp_stream.proofs.Skipping.{skip_bad}

pub fresh : (input : Input) (p : Progress) → p ≡ Line 0
    → Kept request_at skip_empty input.before input.rest input.broken → RequestState input p
fresh input p e k = grind (arith, passed_none)

progress_grows : (text piece : List ℕ) (p : Progress) → IsProgress text p
    → IsProgress (text ++ piece) p
progress_grows text piece (Line seen) h = grind (arith, length-append, take-append-le)
progress_grows text piece (Words at left words) h =
    grind (arith, length-append, append_assoc, drop-append-le)

-- with a piece more, or with none after a fault
fed_more : (i : Input) (piece : List ℕ) (p : Progress) (t : Bool) → is_some i.broken ≡ t
    → RequestState i p → RequestState (record i { rest = cond t i.rest (i.rest ++ piece) }) p
fed_more i piece p t e h = grind (arith, progress_grows, none_is)

pub fed_by : (old new : Input) (piece : List ℕ) (p : Progress)
    (r : Result (Unit {0}) NoMemory) → OnOk r (stream_of new ≡ fed (stream_of old) piece)
    → new.broken ≡ old.broken → OnErr r (new ≡ old) → RequestState old p → RequestState new p
fed_by old new piece p r e b f h = grind (arith, fed_more)

-- the fault that was answered is answered again
pub again : (i : Input) (f : StreamFault) → i.before ≤ 18446744073709551615 → i.broken ≡ Some f
    → Kept request_at skip_empty i.before i.rest i.broken
    → FaultGives request_at (skipped (stream_of i)) (stream_of i) (stream_of i) f
again i f le e kept = grind arith

-- a fault behind the first `passed` bytes of a text
abbrev pub Meets : List ℕ → ℕ → Fault → ℕ → Type 0
Meets rest passed g at = IsPast rest passed × (at ≤ length (skip_empty rest))
    × (request_at (skip_empty rest) ≡ Bad g (drop at (skip_empty rest)))

module _ (text : List ℕ) (old past : Input) (passed at : ℕ) (g : Fault) (f : StreamFault)
    (back : text ≡ old.rest) (h : Meets text passed g at)
    (n_is : past.before ≡ offset_by old.before passed) (r_is : past.rest ≡ drop passed old.rest)
    (f_is : f ≡ stream_fault g (offset_by past.before at)) where
  met : Meets old.rest passed g at
  met = subst (λ (q : List ℕ). Meets q passed g at) back h

  gone : past.rest ≡ skip_empty old.rest
  gone = r_is ∙ sym met.0.is

  count : length old.rest - length (skip_empty old.rest) ≡ passed
  count = omega (arith, met.0.within, ap length met.0.is, length-drop passed old.rest)

  place : length (skip_empty old.rest) - length (drop at (skip_empty old.rest)) ≡ at
  place = omega (arith, met.1, length-drop at (skip_empty old.rest))

  faulty : (n : ℕ) → past.before ≡ n → (t : Bool)
      → IsFaultOf request_at (record { before = n; rest = skip_empty old.rest; failed = t }) f
  faulty n e t = grind (arith, place)

  memory : NotMemory f
  memory = not_memory g (offset_by past.before at) f f_is

  pub answers : (new : Input) → new ≡ record past { broken = Some f }
      → FaultGives request_at (skipped (stream_of old)) (stream_of old) (stream_of new) f
  answers new e = grind (arith, count, memory, faulty, gone)

  pub keeps : (new : Input) → new ≡ record past { broken = Some f } → (p : Progress) → p ≡ Line 0
      → RequestState new p
  keeps new e p l = grind (arith, fresh, gone, skip_bad, faulty, memory)
