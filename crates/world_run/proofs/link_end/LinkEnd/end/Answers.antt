use Rattle.std.proofs.Common.{List, append-nil, subst, sym}
use Rattle.resp_stream.specs.Stream.{Stream}
use Rattle.shared_cache.specs.declared.log.ClientCall.TheVariants as call
use Rattle.script_text.specs.declared.line.Line.{Line}
use Rattle.server_links.specs.LinksState.{LinksState}
use Rattle.server_links.proofs.Outcomes.{Ends}
use Rattle.world_run.specs.ClientMoves.{turn}
use Rattle.world_run.specs.Members.{seat}
use Rattle.world_run.specs.WorldState.{LinkEnd, MemberState}
use Rattle.world_run.proofs.Answering.{end_fault, ends_always, seen, step_like}
use Rattle.world_run.proofs.Answering.{turn_ends, turned_like}
use Rattle.world_run.proofs.Counts.{counts_kept, turn_gots}
use Rattle.world_run.proofs.link_end.LinkEnd.end.Goals as goal

pub unreachable-requires : goal.unreachable-requires
unreachable-requires c =
    ends_always c.self.inside.wire c.member.inside.state.setup c.member.inside.state.past
    c.in-Err.ensures.room

pub invariant_of-member : goal.invariant_of-member
invariant_of-member c =
    let i = c.member.inside in
    counts_kept i.shape i.got_main i.got_side i.link i.name i.state c.turn.new.state
    c.turn.ensures.setup
    (λ u. turn_gots u i.state.setup i.state.past c.turn.new.state.past
    (call.End c.self.inside.wire) c.in-Ok.field-0 tt c.in-Ok.ensures.step) c.member.invariant

pub returns-clause-gives : goal.returns-clause-gives
returns-clause-gives c =
    let o = c.self.inside in
    let i = c.member.inside in
    let old = c.args.member.now in
    let new : MemberState = record (seen i) { state = c.turn.new.state } in
    let end = call.End o.wire in
    let like = turned_like _ old c.turn.new.state c.member.view_is c.turn.ensures.setup in
    let is = step_like _ old end c.in-Ok.field-0 new.state.past c.member.view_is
    c.in-Ok.ensures.step in
    let none = end_fault o.wire i.state.setup i.state.past new.state.past c.in-Ok.field-0
    c.in-Ok.ensures.step in
    subst (λ (e : LinkEnd). (links : LinksState) (r : Stream) (lines : List Line)
    → Ends (turn (call.End e.wire) e (seat links old r)) lines (seat links new r) lines)
    c.self.view_is
    (λ links r lines. turn_ends
    (record { client = o.client; wire = o.wire; link = o.link; place = o.place })
    (seat links old r) end new c.in-Ok.field-0 like is lines lines none (sym (append-nil lines)))
