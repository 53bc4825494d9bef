use Rattle.std.proofs.Common.{◌-◌, ◌≤◌, length, take}
use Rattle.resp_stream.specs.Tokens.{Passed}
use Rattle.resp_stream.proofs.tokens.line_of.Given as goal

abbrev pub invariant-line : goal.invariant-line
invariant-line l = (l.seen ≤ length l.bytes) × Passed l.inline l.limit (take l.seen l.bytes)

abbrev pub decreases-line : goal.decreases-line
decreases-line l = length l.bytes - l.seen
