use Rattle.std.proofs.Common.{◌<◌, [], Some, length, slice_set, sym, ap, subst}
use Rattle.server_links.specs.Outcome.{Gives}
use Rattle.world_run.specs.ClientMoves as client
use Rattle.world_run.specs.Members.{world}
use Rattle.world_run.specs.World.{client_does}
use Rattle.world_run.specs.WorldState.{LinkEnd, WorldState}
use Rattle.world_run.proofs.WorldCode as code
use Rattle.world_run.proofs.world.World.flow_end.Goals as goal
use Rattle.world_run.proofs.world.World.flow_end.Goals.{After-flow}

below : (c : After-flow) → c.args.at < length c.self.inside.ends.items
below c = subst (λ (w : WorldState). c.args.at < length w.ends) (sym c.self.view_is) c.requires

gave : (c : After-flow) → let i = c.self.inside in
    Gives (client_does c.args.at client.flow (world i.log_max i.links i.members.items i.ends.items))
    c.args.lines.now c.flow.result
    (world i.log_max c.flow.new.links
    (slice_set i.members.items c.end.inside.client c.flow.new.member)
    (slice_set i.ends.items c.args.at
    (record { end = c.index_mut-2.inside.end; reader = c.flow.new.reader })))
    c.flow.new.lines
gave c =
    let i = c.self.inside in
    let e = c.index_mut-2.inside in
    code.taken_gives i.log_max i.links i.members.items i.ends.items c.args.at
    c.index_mut.result.now (record { end = e.end; reader = e.reader }) c.end.inside.client
    c.index_mut-member.result.now c.self.invariant.1 (below c) c.index_mut.ensures.value
    c.index_mut-2.view_is (ap (λ (l : LinkEnd). l.client) c.end.view_is)
    c.index_mut-member.ensures.value client.flow c.flow.new.links c.flow.new.member
    c.flow.new.reader c.args.lines.now c.flow.result c.flow.new.lines c.flow.ensures.gives

pub returns-clause-gives : goal.returns-clause-gives
returns-clause-gives c =
    let i = c.self.inside in
    let t = world i.log_max c.flow.new.links
    (slice_set i.members.items c.end.inside.client c.flow.new.member)
    (slice_set i.ends.items c.args.at
    (record { end = c.index_mut-2.inside.end; reader = c.flow.new.reader })) in
    subst (λ (w : WorldState). Gives (client_does c.args.at client.flow w) c.args.lines.now
    c.flow.result t c.flow.new.lines) c.self.view_is
    (gave (goal.at.returns-clause-gives c).After-flow)

pub invariant_of-self : goal.invariant_of-self
invariant_of-self c = (
  code.over_flow _ (Some c.args.at) [] _ _ _ _ _
      (gave (goal.at.invariant_of-self c).After-flow) c.self.invariant.0,
  (let i = c.self.inside in
      let e = c.index_mut-2.inside in
      code.read_clients i.log_max i.links i.members.items i.ends.items c.args.at
      c.index_mut.result.now (record { end = e.end; reader = e.reader }) c.end.inside.client
      c.index_mut-member.result.now c.self.invariant.1
      (below (goal.at.invariant_of-self c).After-flow) c.index_mut.ensures.value
      c.index_mut-2.view_is (ap (λ (l : LinkEnd). l.client) c.end.view_is)
      c.index_mut-member.ensures.value c.flow.new.member c.flow.ensures.setup c.flow.new.links
      c.flow.new.reader),
  c.self.invariant.2,
)
