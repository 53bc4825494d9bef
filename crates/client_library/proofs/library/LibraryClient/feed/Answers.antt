use Rattle.std.proofs.Common.{arith, sym, ◌∙◌}
use Rattle.client_library.proofs.Reading.{feed_cut, feed_ended, feed_reads}
use Rattle.client_library.proofs.library.LibraryClient.feed.Goals as goal

pub returns-then-has_ended : goal.returns-then-has_ended
returns-then-has_ended c =
    feed_ended c.args.self.now c.args.bytes.now (sym c.has_ended.ensures ∙ c.if-has_ended.true)

pub returns-in-Ok : goal.returns-in-Ok
returns-in-Ok c = grind (arith, feed_reads)

pub returns-in-Err : goal.returns-in-Err
returns-in-Err c = grind (arith, feed_cut)
