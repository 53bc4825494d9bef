use Rattle.std.proofs.Common.{arith}
use Rattle.lock_bench.proofs.Raising.{both_raised}
use Rattle.lock_bench.proofs.drive.+fn-play_in_threads-join+arg3+play_in_threads.Goals as goal

pub returns : goal.returns
returns g t c =
    both_raised c.args.threads c.args.share.turns c.split-other.result.number c.args.seat
    c.split-other.new.seat c.split-other.result _ _ _
    (let few = c.requires.threads in let more = c.if-threads-eq1.false in omega arith)
    c.requires.threads.1 c.split-other.ensures.old c.split-other.ensures.new
    c.join-mine.ensures.first c.join-mine.ensures.second c.join.ensures.both
