use Rattle.std.proofs.Common.{◌≡◌, ◌-◌, ◌≤◌, length, drop}
use Rattle.resp_stream.specs.Request.{skip_empty}
use Rattle.resp_stream.specs.RequestSteps.{IsProgress}
use Rattle.resp_stream.proofs.request.next_in.Given as goal

abbrev pub invariant-requests : goal.invariant-requests
invariant-requests l =
    (l.passed ≤ length l.text) × (skip_empty l.text ≡ skip_empty (drop l.passed l.text))
    × IsProgress (drop l.passed l.text) l.progress

abbrev pub decreases-requests : goal.decreases-requests
decreases-requests l = length l.text - l.passed
