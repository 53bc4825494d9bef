use Rattle.std.proofs.Common.{refl, subst, sym, None, []}
use Rattle.resp_stream.specs.declared.input.Input.{Input}
use Rattle.resp_stream.specs.declared.stack.ValueProgress.{ValueProgress}
use Rattle.resp_stream.specs.ReaderStates.{ValueState}
use Rattle.resp_stream.proofs.ValueFaults.{fresh}
use Rattle.resp_stream.proofs.value_reader.ValueReader.new.Goals as goal

pub invariant_of-result : goal.invariant_of-result
invariant_of-result c =
    let p : ValueProgress = record { at = 0; room = 8; seen = 0; stack = c.new-2.result } in
    subst (λ (i : Input). ValueState i p) (sym c.new.ensures)
    (fresh (record { before = 0; rest = []; broken = None }) p refl refl refl
    c.new-2.ensures.items tt)
