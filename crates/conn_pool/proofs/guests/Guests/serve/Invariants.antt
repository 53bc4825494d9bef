use Rattle.std.proofs.Common.{◌≡◌, false, length}
use Rattle.conn_worker.specs.Rounds.{most_read}
use Rattle.conn_pool.specs.Crew.{Goes, hosted}
use Rattle.conn_pool.proofs.guests.Guests.serve.Given as goal

abbrev pub invariant-loop-number : goal.invariant-loop-number
invariant-loop-number g l =
    Goes (hosted l.fn.crew l.fn.self.count false) (hosted l.crew l.self.count false)
    × (length l.buffer ≡ most_read)
