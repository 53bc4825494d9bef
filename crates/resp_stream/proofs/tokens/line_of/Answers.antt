use Rattle.std.proofs.Common.{arith}
use Rattle.resp_stream.proofs.Line.{line_on}
use Rattle.resp_stream.proofs.tokens.line_of.Goals as goal

pub line-preserved : goal.line-preserved
line-preserved c = grind (arith, line_on)
