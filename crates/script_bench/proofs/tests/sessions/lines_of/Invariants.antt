use Rattle.std.specs.List.{All}
use Rattle.script_text.specs.Scripts.{IsValidLine}
use Rattle.script_bench.proofs.tests.sessions.lines_of.Given as goal

abbrev pub invariant-loop-line : goal.invariant-loop-line
invariant-loop-line l = All IsValidLine l.lines.items
