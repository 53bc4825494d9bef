use Rattle.std.proofs.Common.{length}
use Rattle.client_library.proofs.Reading.{Getting}
use Rattle.client_library.proofs.library.LibraryClient.read_values.Given as goal

abbrev pub invariant-values : goal.invariant-values
invariant-values l = Getting l.fn.self l.self-inside.state l.self-inside.reader

abbrev pub decreases-values : goal.decreases-values
decreases-values l = length l.self-inside.reader.rest
