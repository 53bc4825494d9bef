use Rattle.std.proofs.Common.{◌<◌, length, slice_set, refl, sym, ap, subst, ◌∙◌}
use Rattle.script_text.specs.declared.event.Event.TheVariants as event
use Rattle.server_links.specs.declared.link.LinkMove.TheVariants as moves
use Rattle.server_links.specs.LinkEvent.{Over}
use Rattle.world_run.specs.ClientMoves as client
use Rattle.world_run.specs.Members.{world}
use Rattle.world_run.specs.World.{StepGives, recv_step, step}
use Rattle.world_run.specs.WorldState.{EndState, LinkEnd, WorldState}
use Rattle.world_run.proofs.Names.{end_there}
use Rattle.world_run.proofs.WorldCode as code
use Rattle.world_run.proofs.world.World.recv.Goals as goal
use Rattle.world_run.proofs.world.World.recv.Goals.{After-receive, After-play}

below : (c : After-receive) → c.in-Some.at < length c.self.inside.ends.items
below c =
    subst (λ (w : WorldState). c.in-Some.at < length w.ends) (sym c.self.view_is)
    (end_there c.args.name.now c.args.self.now.ends c.in-Some.at
    (sym c.end_of_link.ensures ∙ c.in-Some.is)).0

gave : (c : After-receive) → let i = c.self.inside in
    StepGives c.args.self.now (event.Recv c.args.name.now c.args.count) c.args.lines.now
    c.receive.result
    (world i.log_max c.receive.new.links
    (slice_set i.members.items c.end.inside.client c.receive.new.member)
    (slice_set i.ends.items c.in-Some.at
    (record { end = c.index_mut-in-Some.inside.end; reader = c.receive.new.reader })))
    c.receive.new.lines
unfolding step
gave c =
    let i = c.self.inside in
    let w = c.args.self.now in
    let e = c.index_mut-in-Some.inside in
    let read : EndState = record { end = e.end; reader = c.receive.new.reader } in
    code.owned (λ o. recv_step o c.args.name.now c.args.count w) c.args.name.now
    (client.receive c.args.count) w (world i.log_max i.links i.members.items i.ends.items)
    c.in-Some.at c.args.lines.now c.receive.result
    (world i.log_max c.receive.new.links
    (slice_set i.members.items c.end.inside.client c.receive.new.member)
    (slice_set i.ends.items c.in-Some.at read)) c.receive.new.lines c.self.view_is
    (sym c.end_of_link.ensures ∙ c.in-Some.is) refl
    (code.taken_gives i.log_max i.links i.members.items i.ends.items c.in-Some.at
    c.index_mut.result.now (record { end = e.end; reader = e.reader }) c.end.inside.client
    c.index_mut-member.result.now c.self.invariant.1 (below c) c.index_mut.ensures.value
    c.index_mut-in-Some.view_is (ap (λ (l : LinkEnd). l.client) c.end.view_is)
    c.index_mut-member.ensures.value (client.receive c.args.count) c.receive.new.links
    c.receive.new.member c.receive.new.reader c.args.lines.now c.receive.result
    c.receive.new.lines c.receive.ensures.gives)

played : (c : After-play) → StepGives c.args.self.now (event.Recv c.args.name.now c.args.count)
    c.args.lines.now c.play.result (world c.self.inside.log_max c.play.new.self
    c.self.inside.members.items c.self.inside.ends.items) c.play.new.lines
unfolding step
played c =
    let i = c.self.inside in
    let w = c.args.self.now in
    code.unowned i.log_max (λ o. recv_step o c.args.name.now c.args.count w) c.args.name.now
    (Over c.args.name.now (moves.Recv c.args.count)) w i.links c.play.new.self i.members.items
    i.ends.items c.args.lines.now c.play.result c.play.new.lines c.self.view_is
    (sym c.end_of_link.ensures ∙ c.in-None.is) refl c.play.ensures

pub returns-in-Some : goal.returns-in-Some
returns-in-Some c = gave (goal.at.returns-in-Some c).After-receive

pub returns-in-None : goal.returns-in-None
returns-in-None c = played (goal.at.returns-in-None c).After-play

pub invariant_of-self : goal.invariant_of-self
invariant_of-self c = (
  code.still_over _ _ _ _ _ _ _ _ c.self.view_is
      (gave (goal.at.invariant_of-self c).After-receive) c.self.invariant.0,
  (let i = c.self.inside in
      let e = c.index_mut-in-Some.inside in
      code.read_clients i.log_max i.links i.members.items i.ends.items c.in-Some.at
      c.index_mut.result.now (record { end = e.end; reader = e.reader }) c.end.inside.client
      c.index_mut-member.result.now c.self.invariant.1
      (below (goal.at.invariant_of-self c).After-receive) c.index_mut.ensures.value
      c.index_mut-in-Some.view_is (ap (λ (l : LinkEnd). l.client) c.end.view_is)
      c.index_mut-member.ensures.value c.receive.new.member c.receive.ensures.setup
      c.receive.new.links c.receive.new.reader),
  c.self.invariant.2,
)

pub invariant_of-self-in-None : goal.invariant_of-self-in-None
invariant_of-self-in-None c = (
  code.still_over _ _ _ _ _ _ _ _ c.self.view_is
      (played (goal.at.invariant_of-self-in-None c).After-play) c.self.invariant.0,
  c.self.invariant.1,
  c.self.invariant.2,
)
