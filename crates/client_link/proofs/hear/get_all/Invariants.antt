use Rattle.std.proofs.Common.{length}
use Rattle.client_link.proofs.Getting.{Getting}
use Rattle.client_link.proofs.hear.get_all.Given as goal

abbrev pub invariant-values : goal.invariant-values
invariant-values g l = Getting l.wire l.initial.reader l.reader l.initial.seat l.seat

abbrev pub decreases-values : goal.decreases-values
decreases-values g l = length l.reader.rest
