-- A fault of a value, as the reader keeps and answers it.
use Rattle.std.proofs.Common.{◌≡◌, ℕ, ◌-◌, ◌≤◌, List, [], ◌++◌, refl, sym, ap, subst, Bool}
use Rattle.std.proofs.Common.{true, false, cond, length, drop, reverse, arith, Option, Some}
use Rattle.std.specs.Prelude.{is_some, Result, Ok, Err, OnOk, OnErr}
use Rattle.resp_value.specs.declared.octets.NoMemory.{NoMemory}
use Rattle.std.proofs.lemmas.List.{length-drop}
use Rattle.resp_stream.specs.declared.fault.Fault.{Fault}
use Rattle.resp_stream.specs.declared.fault.StreamFault.{StreamFault}
use Rattle.resp_stream.specs.declared.input.Input.{Input}
use Rattle.resp_stream.specs.declared.stack.Frame.{Frame}
use Rattle.resp_stream.specs.declared.stack.ValueProgress.{ValueProgress}
use Rattle.resp_stream.specs.Parsed.{Bad}
use Rattle.resp_stream.specs.Readers.{IsFaultOf, FaultGives, NotMemory}
use Rattle.resp_stream.specs.ReaderStates.{stream_of, Kept, ValueState}
use Rattle.resp_stream.specs.Value.{value_at}
use Rattle.resp_stream.specs.ValueSteps.{IsStack, LineSeen}
use Rattle.resp_stream.specs.Stream.{fed, offset_by, stream_fault}
use Rattle.resp_stream.proofs.ReaderFaults.{none_is, not_memory}
use Rattle.resp_stream.proofs.StackSteps.{begin, grow, seen_none, seen_grows}

pub fresh : (input : Input) (p : ValueProgress) → p.at ≡ 0 → p.room ≡ 8 → p.seen ≡ 0
    → p.stack.items ≡ [] → Kept value_at (λ b. b) input.before input.rest input.broken
    → ValueState input p
fresh input p a r l f k = record {
  levels = omega (arith, ap length f);
  stack =
      subst (λ (n : ℕ). IsStack 8 input.rest n p.room (reverse p.stack.items)) (sym a)
      (subst (λ (n : ℕ). IsStack 8 input.rest 0 n (reverse p.stack.items)) (sym r)
      (subst (λ (fs : List Frame). IsStack 8 input.rest 0 8 (reverse fs)) (sym f)
      (begin 8 input.rest)));
  line =
      subst (λ (n : ℕ). LineSeen (drop n input.rest) p.seen) (sym a)
      (subst (λ (n : ℕ). LineSeen input.rest n) (sym l) (seen_none input.rest));
  kept = k;
}

-- with a piece more, or with none after a fault
fed_more : (i : Input) (piece : List ℕ) (p : ValueProgress) (t : Bool) → is_some i.broken ≡ t
    → ValueState i p → ValueState (record i { rest = cond t i.rest (i.rest ++ piece) }) p
fed_more i piece p true e h = h
fed_more i piece p false e h = record {
  levels = h.levels;
  stack = grow 8 i.rest piece p.at p.room (reverse p.stack.items) h.stack;
  line = seen_grows i.rest piece p.at p.seen h.stack.within h.line;
  kept =
      subst (λ (b : Option StreamFault). Kept value_at (λ b. b) i.before (i.rest ++ piece) b)
      (sym (none_is i.broken e))
      tt;
}

pub fed_by : (old new : Input) (piece : List ℕ) (p : ValueProgress)
    (r : Result (Unit {0}) NoMemory) → OnOk r (stream_of new ≡ fed (stream_of old) piece)
    → new.broken ≡ old.broken → OnErr r (new ≡ old) → ValueState old p → ValueState new p
fed_by old new piece p (Ok u) e b f h =
    subst (λ (i : Input). ValueState i p) (sym (grind arith))
    (fed_more old piece p (is_some old.broken) refl h)
fed_by old new piece p (Err u) e b f h = subst (λ (i : Input). ValueState i p) (sym f) h

-- a fault at this place
abbrev pub Meets : List ℕ → Fault → ℕ → Type 0
Meets rest g at = (at ≤ length rest) × (value_at rest ≡ Bad g (drop at rest))

module _ (text : List ℕ) (i : Input) (at : ℕ) (g : Fault) (f : StreamFault)
    (back : text ≡ i.rest) (h : Meets text g at)
    (f_is : f ≡ stream_fault g (offset_by i.before at)) where
  met : Meets i.rest g at
  met = subst (λ (q : List ℕ). Meets q g at) back h

  place : length i.rest - length (drop at i.rest) ≡ at
  place = omega (arith, met.0, length-drop at i.rest)

  faulty : (t : Bool)
      → IsFaultOf value_at (record { before = i.before; rest = i.rest; failed = t }) f
  faulty t = grind (arith, place)

  memory : NotMemory f
  memory = not_memory g (offset_by i.before at) f f_is

  pub answers : (new : Input) → new ≡ record i { broken = Some f }
      → FaultGives value_at (stream_of i) (stream_of i) (stream_of new) f
  answers new e = grind (arith, memory, faulty)

  pub keeps : (new : Input) → new ≡ record i { broken = Some f } → (p : ValueProgress) → p.at ≡ 0
      → p.room ≡ 8 → p.seen ≡ 0 → p.stack.items ≡ [] → ValueState new p
  keeps new e p a r l s =
      subst (λ (q : Input). ValueState q p) (sym e)
      (fresh (record i { broken = Some f }) p a r l s
      (record { here = refl; faulty = faulty true; memory = memory }))
