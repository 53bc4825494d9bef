use Rattle.std.proofs.Common.{slice_set, sym, ◌∙◌, arith}
use Rattle.shared_cache.specs.declared.log.ClientCall.TheVariants as call
use Rattle.script_text.specs.declared.event.Event.TheVariants as event
use Rattle.world_run.specs.Members.{world}
use Rattle.world_run.specs.ClientMoves.{turn}
use Rattle.world_run.specs.World.{StepGives, step}
use Rattle.world_run.proofs.WorldCode.{named_acts, named_clients, named_none, still_over}
use Rattle.world_run.proofs.world.World.send.Goals as goal
use Rattle.world_run.proofs.world.World.send.Goals.{After-send}

pub returns-in_default : goal.returns-in_default
unfolding step
returns-in_default c = grind (arith, named_none)

gave : (c : After-send) → StepGives c.args.self.now (event.Do c.args.name.now c.args.words.now)
    c.args.lines.now c.send.result (world c.self.inside.log_max c.self.inside.links
    (slice_set c.self.inside.members.items c.client-client.result c.send.new.self)
    c.self.inside.ends.items) c.send.new.lines
unfolding step
gave c =
    let i = c.self.inside in
    named_acts i.log_max c.args.name.now c.args.self.now i.links i.members.items i.ends.items
    c.in-Some.at c.index.result.now c.client-client.result c.index_mut.result.now c.self.view_is
    c.self.invariant.1 (sym c.end_named.ensures ∙ c.in-Some.is) c.index.ensures
    c.client-client.ensures c.index_mut.ensures.value (turn (call.Send c.args.words.now))
    c.send.new.self c.args.lines.now c.send.result c.send.new.lines c.send.ensures.gives

pub returns : goal.returns
returns c = gave (goal.at.returns c).After-send

pub invariant_of-self : goal.invariant_of-self
invariant_of-self c = (
  still_over _ _ _ _ _ _ _ _ c.self.view_is (gave (goal.at.invariant_of-self c).After-send)
      c.self.invariant.0,
  (let i = c.self.inside in
      named_clients i.log_max c.args.name.now c.args.self.now i.links i.members.items i.ends.items
      c.in-Some.at c.index.result.now c.client-client.result c.index_mut.result.now c.self.view_is
      c.self.invariant.1 (sym c.end_named.ensures ∙ c.in-Some.is) c.index.ensures
      c.client-client.ensures c.index_mut.ensures.value c.send.new.self c.send.ensures.setup),
  c.self.invariant.2,
)
