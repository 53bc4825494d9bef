use Rattle.script_run.specs.Ends.{BothPump, link_end, side_end}
use Rattle.script_run.proofs.Closing.{one_pump, two_pumps}
use Rattle.shared_client.specs.Turns.{setup_at}
use Rattle.std.proofs.Common.{refl, subst, sym, Some}
use Rattle.script_run.proofs.session.run_links.Goals as goal

pub returns-in-None-clause-pumps : goal.returns-in-None-clause-pumps
returns-in-None-clause-pumps g c =
    let r = c.pump_and_call-seat in
    one_pump (setup_at c.args.seat)
    (link_end g.L.Link.left g.L.Link.contents g.L.Link.counts c.args.main r.result.0.1)
    c.args.seat r.result.0.0
    c.requires.fresh.0 c.requires.fresh.1 refl r.ensures.pumps

pub returns-in-Some-clause-pumps : goal.returns-in-Some-clause-pumps
returns-in-Some-clause-pumps g c =
    let cut = c.split_off-side_seat in
    let r = c.pump_beside-side_seat in
    let left = g.L.Link.left in
    let contents = g.L.Link.contents in
    let counts = g.L.Link.counts in
    let main = link_end left contents counts c.args.main r.result.1.0.1 in
    subst (λ o. BothPump (setup_at c.args.seat) main
    (side_end left contents counts o (Some r.result.0.1)) c.join.new.seat) (sym c.in-Some.is)
    (two_pumps (setup_at c.args.seat) main
    (link_end left contents counts c.in-Some.side r.result.0.1) c.args.seat cut.new.seat cut.result
    cut.result.number _ c.requires.fresh.0 c.requires.fresh.1 refl cut.ensures.old
    cut.ensures.new r.result.1.0.0 r.result.0.0 c.join.new.seat c.join.ensures.both
    c.join.ensures.seen.0 c.join.ensures.seen.1 r.ensures.pumps r.ensures.side_pumps)
