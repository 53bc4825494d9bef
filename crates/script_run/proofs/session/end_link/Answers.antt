use Rattle.script_run.proofs.Closing.{leaves_ended}
use Rattle.script_run.proofs.session.end_link.Goals as goal

pub returns-in-Ok : goal.returns-in-Ok
returns-in-Ok g c = leaves_ended c.args.wire c.args.seat.now c.end.new.seat c.in-Ok.ensures.ok
