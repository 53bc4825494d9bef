use Rattle.std.proofs.Common.{false}
use Rattle.conn_pool.specs.Crew.{Goes, hosted}
use Rattle.conn_pool.proofs.desk.Desk.accept.Given as goal

abbrev pub invariant-loop : goal.invariant-loop
invariant-loop g l =
    Goes (hosted l.fn.crew l.fn.guests.count false) (hosted l.crew l.guests.count false)
