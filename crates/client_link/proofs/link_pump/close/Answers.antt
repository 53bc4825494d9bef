use Rattle.std.proofs.Common.{sym, ◌∙◌}
use Rattle.client_link.proofs.Pumping.{closes_ended}
use Rattle.client_link.proofs.link_pump.close.Goals as goal

pub returns-in-Ok : goal.returns-in-Ok
returns-in-Ok g c =
    closes_ended c.args.wire c.args.ended c.args.seat.now c.end.new.seat
    (sym c.is_known.ensures ∙ c.if-is_known.false) c.in-Ok.ensures.ok
