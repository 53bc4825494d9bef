use Rattle.std.proofs.Common.{◌<◌, length, slice_set, refl, sym, subst}
use Rattle.server_links.specs.LinkEvent.{Over}
use Rattle.server_links.specs.Session.{world}
use Rattle.server_links.specs.LinkSteps.{StepGives}
use Rattle.server_links.specs.LinksState.{LinksState, at_place}
use Rattle.server_links.proofs.NameLists.{own_place}
use Rattle.server_links.proofs.Stepping.{step_gives, step_stands}
use Rattle.server_links.proofs.server_links.ServerLinks.play_at.Goals as goal

pub invariant_of-self : goal.invariant_of-self
invariant_of-self c =
    let i = c.self.inside in
    let below : c.args.at < length i.links.items =
    subst (λ (w : LinksState). c.args.at < length w.links) (sym c.self.view_is) c.requires in
    let name = (at_place i.links.items c.args.at).name in
    step_stands name (Over name c.args.movement) refl i.server i.links.items c.args.at
    (own_place i.server.names (world i.server i.links.items) c.self.invariant.1 c.args.at below)
    below c.play.new.server c.index_mut.result.now c.play.new.self c.index_mut.ensures.value
    c.self.invariant.1.all c.args.lines.now c.play.result c.play.new.lines c.play.ensures
    c.self.invariant

pub returns : goal.returns
returns c =
    let i = c.self.inside in
    let below : c.args.at < length i.links.items =
    subst (λ (w : LinksState). c.args.at < length w.links) (sym c.self.view_is) c.requires in
    let name = (at_place i.links.items c.args.at).name in
    subst (λ (w : LinksState). StepGives w (Over (at_place w.links c.args.at).name
    c.args.movement) c.args.lines.now c.play.result
    (world c.play.new.server (slice_set i.links.items c.args.at c.play.new.self))
    c.play.new.lines) c.self.view_is
    (step_gives name (Over name c.args.movement) refl i.server i.links.items c.args.at
    (own_place i.server.names (world i.server i.links.items) c.self.invariant.1 c.args.at below)
    below c.play.new.server c.index_mut.result.now c.play.new.self c.index_mut.ensures.value
    c.self.invariant.1.all c.args.lines.now c.play.result c.play.new.lines c.play.ensures)
