use Rattle.script_run.proofs.Closing.{side_left, side_kept}
use Rattle.script_run.proofs.session.call_all.Goals as goal
use Rattle.script_run.proofs.session.call_all.Goals.{then-board, else-board}

pub returns-clause-calls : goal.returns-clause-calls
returns-clause-calls g c =
    let has = c.args.board.now.has_side in
    let left = c.end_link.new.seat in
    record {
      played = c.play_threads-seat.result.seat;
      plays = c.play_threads-seat.ensures.plays;
      left = left;
      leaves = c.end_link.ensures;
      side_leaves = elim c.if-board.branch [
        | then-board w ↦
            side_left has left w.end_link-then-board.new.seat c.if-board.seat w.if-board.true
            w.end_link-then-board.ensures w.seat-is
        | else-board w ↦ side_kept has left c.if-board.seat w.if-board.false w.seat-is
      ];
    }
