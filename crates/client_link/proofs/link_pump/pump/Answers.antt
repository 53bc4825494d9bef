use Rattle.client_link.proofs.Pumping.{closes_pumps}
use Rattle.client_link.proofs.link_pump.pump.Goals as goal
use Rattle.std.proofs.Common.{arith}

pub returns-clause-pumps : goal.returns-clause-pumps
returns-clause-pumps g c =
    closes_pumps c.args.wire c.run-ended.result c.close-ended.result (g.L.Link.left c.args.link.now)
    (g.L.Link.left c.run-ended.new.link) (g.L.Link.contents c.args.link.now)
    (g.L.Link.contents c.run-ended.new.link) c.args.seat.now c.run-ended.new.seat
    c.close-ended.new.seat c.run-ended.ensures.runs c.close-ended.ensures

pub returns-clause-counts : goal.returns-clause-counts
returns-clause-counts g c = grind arith
