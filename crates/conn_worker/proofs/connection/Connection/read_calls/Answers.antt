use Rattle.conn_worker.proofs.Running.{reading_more, reading_quit, reading_over, reading_bad}
use Rattle.conn_worker.proofs.Running.{reading_less, runs_more, gives_at}
use Rattle.conn_worker.proofs.connection.Connection.read_calls.Goals as goal
use Rattle.std.proofs.Common.{arith, sym, ◌∙◌}

pub requests-init : goal.requests-init
requests-init g c = grind arith

pub requests-smaller : goal.requests-smaller
requests-smaller g c = grind (arith, gives_at, reading_less)

pub requests-preserved : goal.requests-preserved
requests-preserved g c =
    let given = gives_at _ _ _ _ c.in-Ok-Some.ensures.gives c.in-Ok-Some.field-0-is in
    let inv = c.requests.invariant in (
      reading_more c.args.self.now c.requests.self c.requests.calls.items inv.0
          c.in-Ok-Some.words c.next_request.new.self c.args.now given.0 given.1
          c.push.new.self.items c.in-Ok.ensures.items
          (sym c.is_quit-is_last.ensures ∙ c.if-is_last.false),
      grind (arith, runs_more),
    )

pub returns-then-is_last-clause-ok : goal.returns-then-is_last-clause-ok
returns-then-is_last-clause-ok g c =
    let given = gives_at _ _ _ _ c.in-Ok-Some.ensures.gives c.in-Ok-Some.field-0-is in
    reading_quit c.args.self.now c.requests.self c.requests.calls.items c.requests.invariant.0
    c.in-Ok-Some.words c.next_request.new.self c.args.now given.0 given.1
    c.push.new.self.items c.in-Ok.ensures.items
    (sym c.is_quit-is_last.ensures ∙ c.if-is_last.true)

pub returns-in-Ok-None-clause-ok : goal.returns-in-Ok-None-clause-ok
returns-in-Ok-None-clause-ok g c =
    let given = gives_at _ _ _ _ c.in-Ok-None.ensures.gives c.in-Ok-None.field-0-is in
    reading_over c.args.self.now c.requests.self c.requests.calls.items c.requests.invariant.0
    c.next_request.new.self given.0 given.1

pub returns-in-Some-clause-ok : goal.returns-in-Some-clause-ok
returns-in-Some-clause-ok g c =
    reading_bad c.args.self.now c.requests.self c.requests.calls.items c.requests.invariant.0
    c.next_request.new.self c.in-Err.fault c.in-Some.field-0 (grind arith) (grind arith)
