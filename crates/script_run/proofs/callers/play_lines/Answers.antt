use Rattle.std.proofs.Common.{◌+◌, arith}
use Rattle.script_run.proofs.Threads.{no_line, first_lines, line_played, line_passed, held}
use Rattle.script_run.proofs.callers.play_lines.Goals as goal
use Rattle.script_run.proofs.callers.play_lines.Goals.{then-line-thread+else-is_err}
use Rattle.script_run.proofs.callers.play_lines.Goals.{else-line-thread}

pub loop-line-init : goal.loop-line-init
loop-line-init g c = grind (arith, no_line)

pub returns-then-is_err-clause-plays : goal.returns-then-is_err-clause-plays
returns-then-is_err-clause-plays g c = grind (arith, first_lines)

pub loop-line-preserved : goal.loop-line-preserved
loop-line-preserved g c =
    let inv = c.loop-line.invariant in
    let i = c.loop-line.line-index in
    let line = c.line-item.result in
    let rs = c.loop-line.items.items in
    let held_to = held c.args.thread c.args.lines.now (i + 1) c.args.seat in
    elim c.if-line-thread.branch [
      | then-line-thread+else-is_err w ↦
          let p = line_played c.args.thread c.args.lines.now i line c.line-item.is
          c.loop-line-test.true rs w.play_line-answer.result c.args.seat c.loop-line.seat
          w.play_line-answer.new.seat w.if-line-thread.true inv.0 inv.1
          w.play_line-answer.ensures in
          grind arith
      | else-line-thread w ↦
          let p = line_passed c.args.thread c.args.lines.now i line c.line-item.is
          c.loop-line-test.true rs c.args.seat c.loop-line.seat w.if-line-thread.false inv.0
          inv.1 in
          grind arith
    ]
