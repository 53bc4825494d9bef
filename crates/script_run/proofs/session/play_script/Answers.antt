use Rattle.std.proofs.Common.{arith, ap, subst}
use Rattle.shared_client.specs.Turns.{setup_in}
use Rattle.script_run.specs.Ends.{BothPump, link_end, side_end}
use Rattle.script_run.proofs.Closing.{kept_first, session, side_told, split_first}
use Rattle.script_run.proofs.Complete.{completes, side_counted}
use Rattle.std.specs.Prelude.{is_some}
use Rattle.script_run.proofs.session.play_script.Goals as goal

pub run_links-seat-requires-clause-fresh : goal.run_links-seat-requires-clause-fresh
run_links-seat-requires-clause-fresh g c κs within =
    let cut = c.split_off-callers in
    let kept = kept_first c.args.setup c.in_ok-lock.lock c.in_ok-lock.seat cut.new.seat _
    c.in_ok-lock.ensures.seat cut.ensures.old in
    (kept.0, kept.1)

pub returns-clause-session : goal.returns-clause-session
returns-clause-session g c =
    let cut = c.split_off-callers in
    let ran = c.run_links-seat in
    let closed = c.in-Ok-close in
    let left = g.L.Link.left in
    let contents = g.L.Link.contents in
    let counts = g.L.Link.counts in
    let main = link_end left contents counts c.args.main ran.result.main in
    let side = side_end left contents counts c.args.side ran.result.side in
    let u = c.args.setup in
    let k = c.in_ok-lock.seat in
    let ours = kept_first u c.in_ok-lock.lock k cut.new.seat _ c.in_ok-lock.ensures.seat
    cut.ensures.old in
    let theirs = split_first u c.in_ok-lock.lock k cut.result cut.result.number _
    c.in_ok-lock.ensures.seat cut.ensures.new in
    session u c.args.lines.items ran.result.called.answers.items main side (is_some c.args.side)
    (side_told left contents counts c.args.side ran.result.side ran.ensures.side_counts)
    cut.result ran.result.seat ran.result.called.seat c.join.new.seat
    (grind arith) theirs.0 (ap setup_in theirs.1)
    c.join.ensures.both c.join.ensures.seen.0 c.join.ensures.seen.1
    (subst (λ s. BothPump s main side ran.result.seat) (ap setup_in ours.2) ran.ensures.pumps)
    ran.ensures.calls closed.client.state.past closed.client.tickets c.requires.lines
    closed.ensures.ok.1 closed.ensures.tickets.1 closed.ensures.all.0 c.close.ensures.sound

pub returns-clause-complete : goal.returns-clause-complete
returns-clause-complete g c =
    let ran = c.run_links-seat in
    let left = g.L.Link.left in
    let contents = g.L.Link.contents in
    let counts = g.L.Link.counts in
    completes _ c.args.lines.items _ (link_end left contents counts c.args.main ran.result.main)
    (side_end left contents counts c.args.side ran.result.side) _ _ (returns-clause-session g c)
    ran.ensures.counts
    (side_counted left contents counts c.args.side ran.result.side ran.ensures.side_counts)
