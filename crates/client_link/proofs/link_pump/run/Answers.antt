use Rattle.turn_lock.proofs.Growing.{grows_none}
use Rattle.edge_links.proofs.Bytes.{consumes_none, appends_none}
use Rattle.resp_stream.proofs.Onward.{values_begun, no_values}
use Rattle.std.proofs.Common.{ap, ◌∙◌, arith}
use Rattle.edge_links.specs.declared.counts.Counts.{Counts}
use Rattle.client_link.proofs.Pumping.{delivered, drained, delivery_stops, hears_on, hears_stops}
use Rattle.client_link.proofs.link_pump.run.Goals as goal

pub loop-init : goal.loop-init
loop-init g c = grind (arith, grows_none, consumes_none, values_begun, no_values, appends_none)

pub returns-in-Err-clause-runs : goal.returns-in-Err-clause-runs
returns-in-Err-clause-runs g c =
    delivery_stops c.args.wire c.loop.reader (g.L.Link.left c.args.link.now)
    (g.L.Link.left c.loop.link)
    (g.L.Link.contents c.args.link.now) (g.L.Link.contents c.loop.link) c.args.seat.now c.loop.seat
    c.loop.invariant.2 (g.L.Link.left c.deliver.new.link) (g.L.Link.contents c.deliver.new.link)
    c.in-Err.ensures.unread c.deliver.new.seat c.in-Err.ended c.in-Err.ensures.err

pub returns-in-Err-hear-clause-runs : goal.returns-in-Err-hear-clause-runs
returns-in-Err-hear-clause-runs g c =
    let d = delivered c.args.wire c.loop.reader (g.L.Link.left c.args.link.now)
    (g.L.Link.left c.loop.link)
    (g.L.Link.contents c.args.link.now) (g.L.Link.contents c.loop.link) c.args.seat.now c.loop.seat
    c.loop.invariant.2 (g.L.Link.left c.deliver.new.link) (g.L.Link.contents c.deliver.new.link)
    c.in-Ok.ensures.unread c.deliver.new.seat c.in-Ok.ensures.ok in
    let done = drained c.args.wire c.loop.reader (g.L.Link.left c.args.link.now)
    (g.L.Link.left c.loop.link)
    (g.L.Link.contents c.args.link.now) (g.L.Link.contents c.loop.link) c.args.seat.now c.loop.seat
    c.loop.invariant.2 (g.L.Link.left c.deliver.new.link) (g.L.Link.contents c.deliver.new.link)
    c.in-Ok.ensures.unread c.deliver.new.seat c.in-Ok.ensures.ok in
    hears_stops c.args.wire c.loop.reader (g.L.Link.left c.args.link.now)
    (g.L.Link.left c.deliver.new.link)
    (g.L.Link.contents c.args.link.now) (g.L.Link.contents c.deliver.new.link) c.args.seat.now
    c.deliver.new.seat d (g.L.Link.left c.hear.new.link) (g.L.Link.contents c.hear.new.link)
    c.in-Err-hear.ensures.written done c.in-Err-hear.ended c.hear.new.seat
    c.in-Err-hear.ensures.err

pub loop-preserved : goal.loop-preserved
loop-preserved g c =
    let d = delivered c.args.wire c.loop.reader (g.L.Link.left c.args.link.now)
    (g.L.Link.left c.loop.link)
    (g.L.Link.contents c.args.link.now) (g.L.Link.contents c.loop.link) c.args.seat.now c.loop.seat
    c.loop.invariant.2 (g.L.Link.left c.deliver.new.link) (g.L.Link.contents c.deliver.new.link)
    c.in-Ok.ensures.unread c.deliver.new.seat c.in-Ok.ensures.ok in
    let same = c.in-Ok.ensures.counts in
    let heard = c.in-Ok-hear.ensures in (
      tt,
      tt,
      hears_on c.args.wire c.loop.reader (g.L.Link.left c.args.link.now)
          (g.L.Link.left c.deliver.new.link)
          (g.L.Link.contents c.args.link.now) (g.L.Link.contents c.deliver.new.link)
          c.args.seat.now c.deliver.new.seat d (g.L.Link.left c.hear.new.link)
          (g.L.Link.contents c.hear.new.link) heard.written c.hear.new.reader c.hear.new.seat
          heard.ok,
      heard.counts.0 ∙ (ap (λ (k : Counts). k.faults) same ∙ c.loop.invariant.3),
      heard.counts.1 ∙ (ap (λ (k : Counts). k.ends) same ∙ c.loop.invariant.4),
    )
