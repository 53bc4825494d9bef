use Rattle.std.proofs.Common.{◌≡◌, false, length}
use Rattle.conn_worker.specs.Rounds.{most_read}
use Rattle.conn_pool.specs.Crew.{Goes, hosted}
use Rattle.conn_pool.proofs.desk.Desk.work.Given as goal

abbrev pub invariant-loop : goal.invariant-loop
invariant-loop g l =
    (goal.iterator-loop g).can_next l.iterator' × (goal.iterator-loop g).is_finite l.iterator'
    × Goes (hosted l.fn.crew 0 false) (hosted l.crew l.guests.count l.has_left)
    × (length l.buffer ≡ most_read)
