use Rattle.std.proofs.Common.{sym, subst, ◌∙◌, arith}
use Rattle.script_text.specs.declared.event.Event.TheVariants as event
use Rattle.world_run.specs.WorldState.{WorldState}
use Rattle.world_run.specs.ClientMoves.{show}
use Rattle.world_run.specs.World.{StepGives, step}
use Rattle.world_run.proofs.WorldCode.{named_none, named_shows}
use Rattle.world_run.proofs.world.World.show.Goals as goal

pub returns-in_default : goal.returns-in_default
unfolding step
returns-in_default c = grind (arith, named_none)

pub returns : goal.returns
unfolding step
returns c =
    let i = c.self.inside in
    let name = c.args.name.now in
    subst (λ (w : WorldState). StepGives c.args.self.now (event.Show name) c.args.lines.now
    c.show.result w c.show.new.lines) c.self.view_is
    (named_shows i.log_max name c.args.self.now i.links i.members.items i.ends.items c.in-Some.at
    c.index.result.now c.client-client.result c.index-2.result.now c.self.view_is c.self.invariant.1
    (sym c.end_named.ensures ∙ c.in-Some.is) c.index.ensures c.client-client.ensures
    c.index-2.ensures (λ e. show) c.args.lines.now c.show.result c.show.new.lines
    (λ e. c.show.ensures))
