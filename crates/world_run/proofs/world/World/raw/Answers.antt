use Rattle.std.proofs.Common.{arith, cond, sym, ap, subst, ◌∙◌}
use Rattle.script_text.specs.declared.event.Event.TheVariants as event
use Rattle.server_links.specs.declared.fault.WorldFault.TheVariants as taken
use Rattle.server_links.specs.LinkEvent.{Raw}
use Rattle.server_links.specs.Outcome.{Gives, refuses}
use Rattle.world_run.specs.Members.{world}
use Rattle.world_run.specs.World.{StepGives, is_taken, links_step, raw_step, step}
use Rattle.world_run.specs.WorldState.{WorldState}
use Rattle.world_run.proofs.WorldCode as code
use Rattle.world_run.proofs.world.World.raw.Goals as goal
use Rattle.world_run.proofs.world.World.raw.Goals.{After-raw}

pub returns-then-is_taken : goal.returns-then-is_taken
unfolding step
returns-then-is_taken c =
    let w = c.args.self.now in
    let name = c.args.name.now in
    code.name_taken w (raw_step name w) c.args.lines.now
    (grind arith)

gave : (c : After-raw) → StepGives c.args.self.now (event.Raw c.args.name.now) c.args.lines.now
    c.raw.result (world c.self.inside.log_max c.raw.new.self c.self.inside.members.items
    c.self.inside.ends.items)
    c.raw.new.lines
unfolding step
gave c =
    let i = c.self.inside in
    let e = Raw c.args.name.now in
    let w = world i.log_max i.links i.members.items i.ends.items in
    let t = world i.log_max c.raw.new.self i.members.items i.ends.items in
    subst (λ (v : WorldState). Gives (cond (is_taken c.args.name.now v)
    (refuses v taken.NameTaken) (links_step e v)) c.args.lines.now c.raw.result t c.raw.new.lines)
    c.self.view_is
    (subst (λ b. Gives (cond b (refuses w taken.NameTaken) (links_step e w)) c.args.lines.now
    c.raw.result t c.raw.new.lines)
    (sym (ap (is_taken c.args.name.now) c.self.view_is ∙ sym c.is_taken.ensures
    ∙ c.if-is_taken.false))
    (code.links_give i.log_max e i.links c.raw.new.self i.members.items i.ends.items
    c.args.lines.now c.raw.result c.raw.new.lines c.raw.ensures))

pub returns : goal.returns
returns c = gave (goal.at.returns c).After-raw

pub invariant_of-self : goal.invariant_of-self
invariant_of-self c = (
  (code.still_over _ _ _ _ _ _ _ _ c.self.view_is
      (gave (goal.at.invariant_of-self c).After-raw) c.self.invariant.0),
  c.self.invariant.1,
  c.self.invariant.2,
)
