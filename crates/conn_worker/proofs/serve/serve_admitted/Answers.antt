use Rattle.turn_lock.proofs.Growing.{grows_none}
use Rattle.edge_links.proofs.Bytes.{consumes_none, appends_none}
use Rattle.resp_stream.proofs.Onward.{requests_begun, no_requests}
use Rattle.std.proofs.Common.{arith, ◌∙◌}
use Rattle.conn_worker.specs.Rounds.{Start}
use Rattle.conn_worker.proofs.serve.serve_admitted.Goals as goal

pub loop-init : goal.loop-init
loop-init g c =
    grind (arith, grows_none, consumes_none, requests_begun, no_requests, appends_none, Start)

pub go_round-requires-clause-served : goal.go_round-requires-clause-served
go_round-requires-clause-served g c =
    record { id = _; start = _; serving = c.loop.invariant.2 }

pub loop-preserved : goal.loop-preserved
loop-preserved g c = (
  tt,
  tt,
  (c.in-Ok.ensures.ok _ _ c.loop.invariant.2).0,
  c.go_round.ensures.buffer ∙ c.loop.invariant.3,
)

pub returns-in-Err-clause-works : goal.returns-in-Err-clause-works
returns-in-Err-clause-works g c = (c.in-Err.ensures.err _ _ c.loop.invariant.2).works

pub returns-in-Err-clause-counts : goal.returns-in-Err-clause-counts
returns-in-Err-clause-counts g c = (c.in-Err.ensures.err _ _ c.loop.invariant.2).counts

pub returns-in-Err-clause-rounds : goal.returns-in-Err-clause-rounds
returns-in-Err-clause-rounds g c = (c.in-Err.ensures.err _ _ c.loop.invariant.2).serves
