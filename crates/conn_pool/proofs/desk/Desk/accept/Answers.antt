use Rattle.std.proofs.Common.{false, true}
use Rattle.conn_pool.specs.Crew.{hosted}
use Rattle.conn_pool.proofs.Hosting.{goes_any, goes_as, goes_same, goes_stay, goes_then}
use Rattle.conn_pool.proofs.Hosting.{hosts_then}
use Rattle.conn_pool.proofs.desk.Desk.accept.Goals as goal

pub returns-then-has_left : goal.returns-then-has_left
returns-then-has_left g c = record {
  goes = goes_stay c.args.crew.now c.args.guests.now.count c.args.has_left c.if-has_left.true;
}

pub loop-init : goal.loop-init
loop-init g c = goes_same (hosted c.args.crew.now c.args.guests.now.count false)

pub returns-then-not-let_in : goal.returns-then-not-let_in
returns-then-not-let_in g c = record { goes = goes_any _ _ _ _ _ _ c.loop.invariant }

pub welcome-requires-clause-hosts : goal.welcome-requires-clause-hosts
welcome-requires-clause-hosts g c κs within =
    hosts_then _ _ _ _ _ _ _ _ _ c.requires.hosts c.loop.invariant

pub returns-then-welcome : goal.returns-then-welcome
returns-then-welcome g c = record {
  goes = goes_any _ _ _ _ _ _
      (goes_then _ _ _ c.loop.invariant
      (goes_as _ _ _ _ true c.if-welcome.true c.welcome.ensures.goes));
}

pub loop-preserved : goal.loop-preserved
loop-preserved g c =
    goes_then _ _ _ c.loop.invariant
    (goes_as _ _ _ _ false c.if-welcome.false c.welcome.ensures.goes)

pub returns : goal.returns
returns g c = record { goes = goes_any _ _ _ _ _ _ c.loop.invariant }
