use Rattle.std.proofs.Common.{[], ◌∷◌, Ok}
use Rattle.stream_bench.specs.Reading.{repeated, Reads}
use Rattle.stream_bench.proofs.Readers.feed_often.Given as goal

abbrev pub invariant-loop : goal.invariant-loop
invariant-loop l =
    Reads l.requests (repeated l.counter (l.piece ∷ [])) l.fn.self l.self (Ok l.count)
