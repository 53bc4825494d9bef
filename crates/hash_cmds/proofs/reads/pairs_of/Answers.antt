use Rattle.std.proofs.Common.{arith}
use Rattle.hash_cmds.proofs.HashRows.{pushed}
use Rattle.hash_cmds.proofs.reads.pairs_of.Goals as goal

pub loop-place-preserved : goal.loop-place-preserved
loop-place-preserved c = grind (arith, pushed)
