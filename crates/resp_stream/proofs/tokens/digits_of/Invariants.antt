use Rattle.std.proofs.Common.{◌≡◌, ◌≤◌, length}
use Rattle.resp_stream.specs.Tokens.{digits_at}
use Rattle.resp_stream.proofs.tokens.digits_of.Given as goal

abbrev pub invariant-digits : goal.invariant-digits
invariant-digits l =
    (l.number ≤ l.rule.limit)
    × (digits_at l.rule l.number l.rest ≡ digits_at l.rule l.fn.first l.fn.bytes)

abbrev pub decreases-digits : goal.decreases-digits
decreases-digits l = length l.rest
