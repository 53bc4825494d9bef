use Rattle.std.proofs.Common.{arith, sym, subst, refl, ◌∙◌, append-nil, []}
use Rattle.edge_links.proofs.Bytes.{keeps_same, keeps_trans}
use Rattle.shared_book.specs.Batches.{requests_in}
use Rattle.conn_worker.specs.Visits.{standing}
use Rattle.conn_worker.specs.Parts.{BreaksAt}
use Rattle.conn_worker.proofs.Progress.{held_here, progress_begins, progress_breaks}
use Rattle.conn_worker.proofs.Progress.{progress_counts, progress_ends, progress_more}
use Rattle.conn_worker.proofs.Progress.{progress_refused, taken_begins, taken_here}
use Rattle.conn_worker.proofs.connection.Connection.run_parts.Goals as goal

pub loop-init : goal.loop-init
loop-init g c = grind (arith, progress_begins, keeps_same)

pub returns-in-Refused-clause-err : goal.returns-in-Refused-clause-err
returns-in-Refused-clause-err g c =
    let t = rw c.in-Refused.is at c.run_all-requests.ensures in
    subst (λ e. BreaksAt c.args.now e c.args.self.now.id (requests_in c.args.calls.items)
    c.args.self.now.requests c.run_all-requests.result.requests
    (standing (g.L.Link.left c.args.link.now) (g.L.Link.contents c.args.link.now)
    (g.L.Link.counts c.args.link.now) c.args.seat.now)
    (standing (g.L.Link.left c.loop.link) (g.L.Link.contents c.loop.link)
    (g.L.Link.counts c.loop.link) c.run_all-requests.new.seat)) (sym c.ended_by.ensures)
    (progress_refused _ _ _ _ _ _ _ _ c.loop.invariant.2 c.run_all-requests.result.requests
    c.in-Refused.refusal c.run_all-requests.new.seat _ t refl)

pub deliver_from-requires-clause-lock : goal.deliver_from-requires-clause-lock
deliver_from-requires-clause-lock g c =
    let t = rw c.in-Taken.is at c.run_all-requests.ensures in
    (taken_here _ _ _ _ _ _ _ _ c.loop.invariant.2 _ _ _ t).0 ∙ c.requires.lock

pub returns-in-Err-clause-err : goal.returns-in-Err-clause-err
returns-in-Err-clause-err g c =
    let t = rw c.in-Taken.is at c.run_all-requests.ensures in
    let s = c.loop.invariant.2 in
    progress_breaks _ _ _ _ _ _ _ _ s c.run_all-requests.result.requests
    (requests_in c.loop.calls.items) [] c.in-Err.ended t.middle _
    (sym (append-nil (requests_in c.loop.calls.items))) t.counted t.each
    (c.in-Err.ensures.err t.middle (taken_begins _ _ _ _ _ _ _ _ s _ _ _ t))
    c.in-Err.ensures.counts c.in-Err.ensures.unread

pub returns-in-Taken-clause-ok : goal.returns-in-Taken-clause-ok
returns-in-Taken-clause-ok g c =
    let t = rw c.in-Taken.is at c.run_all-requests.ensures in
    let s = c.loop.invariant.2 in
    progress_ends _ _ _ _ _ _ _ _ s _ _ _ _ t
    (c.in-Ok.ensures.ok t.middle (taken_begins _ _ _ _ _ _ _ _ s _ _ _ t))
    c.in-Ok.ensures.unread c.in-Ok.ensures.counts

pub returns-in-Taken-clause-counted : goal.returns-in-Taken-clause-counted
returns-in-Taken-clause-counted g c =
    let t = rw c.in-Taken.is at c.run_all-requests.ensures in
    let s = c.loop.invariant.2 in
    progress_counts _ _ _ _ _ _ _ _ s _ _ _
    (standing (g.L.Link.left c.deliver_from.new.link) (g.L.Link.contents c.deliver_from.new.link)
    (g.L.Link.counts c.deliver_from.new.link) c.deliver_from.new.seat) t
    (c.in-Ok.ensures.ok t.middle (taken_begins _ _ _ _ _ _ _ _ s _ _ _ t))

pub deliver-requires-clause-lock : goal.deliver-requires-clause-lock
deliver-requires-clause-lock g c =
    let h = rw c.in-Held.is at c.run_all-requests.ensures in
    (held_here _ _ _ _ _ _ _ _ c.loop.invariant.2 _ _ _ h).0 ∙ c.requires.lock

pub deliver-requires-clause-within : goal.deliver-requires-clause-within
deliver-requires-clause-within g c =
    let h = rw c.in-Held.is at c.run_all-requests.ensures in
    (held_here _ _ _ _ _ _ _ _ c.loop.invariant.2 _ _ _ h).1

pub deliver-requires-clause-admitted : goal.deliver-requires-clause-admitted
deliver-requires-clause-admitted g c =
    let h = rw c.in-Held.is at c.run_all-requests.ensures in
    (held_here _ _ _ _ _ _ _ _ c.loop.invariant.2 _ _ _ h).2

pub returns-in-Err-deliver-clause-err : goal.returns-in-Err-deliver-clause-err
returns-in-Err-deliver-clause-err g c =
    let h = rw c.in-Held.is at c.run_all-requests.ensures in
    progress_breaks _ _ _ _ _ _ _ _ c.loop.invariant.2 c.run_all-requests.result.requests h.first
    (requests_in c.in-Held.held.items) c.in-Err-deliver.ended c.run_all-requests.new.seat _ h.parts
    h.counted h.each c.in-Err-deliver.ensures.err c.in-Err-deliver.ensures.counts
    c.in-Err-deliver.ensures.unread

pub loop-preserved : goal.loop-preserved
loop-preserved g c =
    let h = rw c.in-Held.is at c.run_all-requests.ensures in (
      tt,
      tt,
      progress_more _ _ _ _ _ _ _ _ c.loop.invariant.2 _ _ _ _ h c.in-Ok-deliver.ensures.ok
          c.in-Ok-deliver.ensures.unread c.in-Ok-deliver.ensures.counts,
      c.loop.invariant.3,
      c.loop.invariant.4,
      keeps_trans _ _ _ c.loop.invariant.5 c.in-Ok-deliver.ensures.unread,
      c.in-Ok-deliver.ensures.counts ∙ c.loop.invariant.6,
    )
