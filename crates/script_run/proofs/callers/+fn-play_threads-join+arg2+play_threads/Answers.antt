use denote.Param.Send.{sendable}
use Rattle.turn_lock.proofs.lock.TurnLock.TheSendSync as lock
use Rattle.shared_client.proofs.Crossing.{shared_send}
use Rattle.std.proofs.Common.{◌≤◌, ◌-◌, sym, subst, arith}
use Rattle.script_run.specs.Lines.{PlaysThreads}
use Rattle.script_run.proofs.Crossing.{crossing, board_sync, task_send}
use Rattle.script_run.proofs.Threads.{no_thread, thread_joined}
use Rattle.script_run.proofs.callers.+fn-play_threads-join+arg2+play_threads.Goals as goal

pub returns-then-threads-eq0-clause-plays : goal.returns-then-threads-eq0-clause-plays
returns-then-threads-eq0-clause-plays g t c = grind (arith, no_thread)

pub join-others-requires-send-F : goal.join-others-requires-send-F
join-others-requires-send-F g t c κs within =
    search (sendable, lock.the_sync, shared_send, board_sync, task_send) depth 20

pub join-others-requires-send-A : goal.join-others-requires-send-A
join-others-requires-send-A g t c κs within = search crossing depth 20

pub returns-clause-plays : goal.returns-clause-plays
returns-clause-plays g t c =
    let cut = c.split_off-other in
    let both = c.join-others in
    let lines = c.args.board.now.lines.items in
    let some : 1 ≤ c.args.task.threads = omega (arith, c.if-threads-eq0.false) in
    subst (λ xs. PlaysThreads lines c.args.task.threads xs c.args.task.seat c.join.new.seat)
    (sym c.push_reserved.ensures.items)
    (thread_joined lines (c.args.task.threads - 1) c.args.task.threads (omega (arith, some))
    c.args.task.seat
    cut.new.seat cut.result cut.result.number cut.ensures.old cut.ensures.new
    (omega (arith, some, c.requires.parts)) both.result.1.seat both.result.0.seat c.join.new.seat
    c.join.ensures.both c.join.ensures.seen.0 c.join.ensures.seen.1 both.result.1.answers
    both.result.0.answers.items both.ensures.second.2 both.ensures.first.3)

pub returns-clause-same : goal.returns-clause-same
returns-clause-same g t c =
    let p = returns-clause-plays g t c in (p.grows.lock, p.grows.within)
