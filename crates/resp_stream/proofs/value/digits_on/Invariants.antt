use Rattle.std.proofs.Common.{◌≡◌, ◌≤◌, length, Some}
use Rattle.resp_stream.specs.Value.{digits_of_at}
use Rattle.resp_stream.proofs.value.digits_on.Given as goal

abbrev pub invariant-digits : goal.invariant-digits
invariant-digits l =
    (l.count ≤ 19) × (l.number ≤ l.most)
    × (digits_of_at l.most (Some (record { count = l.count; made = l.number })) l.rest
    ≡ digits_of_at l.most (Some (record { count = l.fn.digits; made = l.fn.first })) l.fn.bytes)

abbrev pub decreases-digits : goal.decreases-digits
decreases-digits l = length l.rest
