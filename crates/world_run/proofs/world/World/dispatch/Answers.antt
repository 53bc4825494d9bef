use Rattle.std.proofs.Common.{Ok, subst, sym, arith}
use Rattle.script_text.specs.declared.event.Event.{Event}
use Rattle.script_text.specs.declared.event.Event.TheVariants.{Now, Tick}
use Rattle.server_links.specs.LinkEvent as link_event
use Rattle.world_run.specs.Members.{world}
use Rattle.world_run.specs.World.{StepGives, step}
use Rattle.world_run.specs.WorldState.{WorldState}
use Rattle.world_run.proofs.WorldCode.{clock_gives, links_give, over_step}
use Rattle.world_run.proofs.world.World.dispatch.Goals as goal

pub returns-in-Serve : goal.returns-in-Serve
unfolding step
returns-in-Serve c = grind arith

pub returns-in-Send : goal.returns-in-Send
unfolding step
returns-in-Send c = grind arith

pub returns-in-Cut : goal.returns-in-Cut
unfolding step
returns-in-Cut c = grind arith

pub invariant_of-self : goal.invariant_of-self
unfolding step
invariant_of-self c = (
  (let i = c.self.inside in
      over_step i.living (Now c.in-Now.moment)
      (world i.log_max i.links i.members.items i.ends.items)
      (world i.log_max c.set_clock.new.self i.members.items i.ends.items) c.args.lines.now
      (Ok (tt {0})) c.args.lines.now
      (clock_gives i.log_max i.links c.set_clock.new.self i.members.items i.ends.items
      c.args.lines.now c.in-Now.moment c.set_clock.ensures) c.self.invariant.0),
  c.self.invariant.1,
  c.self.invariant.2,
)

pub returns-in-Now : goal.returns-in-Now
unfolding step
returns-in-Now c =
    let i = c.self.inside in
    let v = world i.log_max c.set_clock.new.self i.members.items i.ends.items in
    subst (λ (e : Event). StepGives c.args.self.now e c.args.lines.now (Ok (tt {0})) v
    c.args.lines.now) (sym c.in-Now.is)
    (subst (λ (w : WorldState). StepGives w (Now c.in-Now.moment) c.args.lines.now (Ok (tt {0})) v
    c.args.lines.now) c.self.view_is
    (clock_gives i.log_max i.links c.set_clock.new.self i.members.items i.ends.items
    c.args.lines.now c.in-Now.moment c.set_clock.ensures))

pub invariant_of-self-in-Tick : goal.invariant_of-self-in-Tick
unfolding step
invariant_of-self-in-Tick c = (
  (let i = c.self-in-Tick.inside in
      over_step i.living Tick (world i.log_max i.links i.members.items i.ends.items)
      (world i.log_max c.tick.new.self i.members.items i.ends.items) c.args.lines.now c.tick.result
      c.tick.new.lines
      (links_give i.log_max link_event.Tick i.links c.tick.new.self i.members.items i.ends.items
      c.args.lines.now c.tick.result c.tick.new.lines c.tick.ensures) c.self-in-Tick.invariant.0),
  c.self-in-Tick.invariant.1,
  c.self-in-Tick.invariant.2,
)

pub returns-in-Tick : goal.returns-in-Tick
unfolding step
returns-in-Tick c = grind (arith, links_give)
