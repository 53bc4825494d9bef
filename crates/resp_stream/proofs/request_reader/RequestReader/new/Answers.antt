use Rattle.std.proofs.Common.{refl, subst, sym, None, []}
use Rattle.resp_stream.specs.declared.input.Input.{Input}
use Rattle.resp_stream.specs.declared.request.Progress.TheVariants.{Line}
use Rattle.resp_stream.specs.ReaderStates.{RequestState}
use Rattle.resp_stream.proofs.RequestFaults.{fresh}
use Rattle.resp_stream.proofs.request_reader.RequestReader.new.Goals as goal

pub invariant_of-result : goal.invariant_of-result
invariant_of-result c =
    subst (λ (i : Input). RequestState i (Line 0)) (sym c.new.ensures)
    (fresh (record { before = 0; rest = []; broken = None }) (Line 0) refl tt)
