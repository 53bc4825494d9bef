use Rattle.std.proofs.Common.{arith}
use Rattle.std.proofs.lemmas.Bool.{eqb-false, eqb-true}
use Rattle.resp_stream.proofs.Line.{passed_none}
use Rattle.resp_stream.proofs.RequestLimits.{faulty_here, more_here, whole_here, place_here}
use Rattle.resp_stream.proofs.RequestLimits.{further, empty_here, no_words}
use Rattle.resp_stream.proofs.request.next_in.Goals as goal

pub returns-in-Ok-Faulty : goal.returns-in-Ok-Faulty
returns-in-Ok-Faulty c =
    faulty_here c.args.text.now c.split_at.result.1.now c.requests.passed c.requests.invariant.0
    c.requests.invariant.1 c.split_at.ensures.back c.in-Ok-Faulty.fault c.in-Ok-Faulty.at
    (rw c.in-Ok-Faulty.field-0-is at c.in-Ok-Faulty.ensures)

pub returns-in-Ok-More : goal.returns-in-Ok-More
returns-in-Ok-More c =
    let h = rw c.in-Ok-More.field-0-is at c.in-Ok-More.ensures in
    let w =
    more_here c.args.text.now c.split_at.result.1.now c.requests.passed c.requests.invariant.0
    c.requests.invariant.1 c.split_at.ensures.back h.0 in
    (w.0, w.1, rw c.split_at.ensures.back at h.1)

pub returns-then-not-is_empty : goal.returns-then-not-is_empty
returns-then-not-is_empty c = grind (arith, eqb-false, whole_here)

pub requests-smaller : goal.requests-smaller
requests-smaller c = grind (arith, further)

pub requests-preserved : goal.requests-preserved
requests-preserved c = grind (arith, eqb-true, no_words, place_here, empty_here, passed_none)
