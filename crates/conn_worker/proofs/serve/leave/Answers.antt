use Rattle.std.proofs.Common.{subst, sym}
use Rattle.conn_worker.specs.Visits.{Leaves, QuitLeaves}
use Rattle.conn_worker.proofs.Parting.{quit_late, quit_leaves}
use Rattle.conn_worker.proofs.serve.leave.Goals as goal

pub returns-in-Err : goal.returns-in-Err
returns-in-Err g c =
    subst (λ z. Leaves z c.ended_by.result c.args.id c.args.seat.now c.close.new.seat)
    (sym c.in-Quit.is)
    (subst (λ e. QuitLeaves e c.args.id c.args.seat.now c.close.new.seat)
    (sym c.ended_by.ensures)
    (quit_late c.args.id c.args.seat.now c.close.new.seat c.in-Err.refusal c.in-Err.ensures.err))

pub returns-in-Ok : goal.returns-in-Ok
returns-in-Ok g c =
    subst (λ z. Leaves z z c.args.id c.args.seat.now c.close.new.seat) (sym c.in-Quit.is)
    (quit_leaves c.args.id c.args.seat.now c.close.new.seat c.in-Ok.ensures.ok)
