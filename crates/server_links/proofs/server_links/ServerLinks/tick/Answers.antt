use Rattle.std.proofs.Common.{subst, sym}
use Rattle.server_links.specs.LinkSteps.{step, tick}
use Rattle.server_links.specs.LinksState.{AreNames, LinksState}
use Rattle.server_links.specs.Outcome.{Gives}
use Rattle.server_links.specs.Session.{world}
use Rattle.server_links.proofs.Moments.{tick_fits}
use Rattle.server_links.proofs.server_links.ServerLinks.tick.Goals as goal

pub invariant_of-self : goal.invariant_of-self
invariant_of-self c =
    let i = c.self.inside in
    let gives = c.tick.ensures.gives i.links.items (sym c.self.invariant.1.all) in (
      tick_fits i.server c.tick.new.self i.links.items c.args.lines.now c.tick.new.lines
          c.tick.result gives c.self.invariant.0,
      subst (λ ns. AreNames ns i.links.items) (sym c.tick.ensures.names) c.self.invariant.1,
    )

pub returns : goal.returns
unfolding step
returns c =
    let i = c.self.inside in
    subst (λ (w : LinksState). Gives (tick w) c.args.lines.now c.tick.result
    (world c.tick.new.self i.links.items) c.tick.new.lines) c.self.view_is
    (c.tick.ensures.gives i.links.items (sym c.self.invariant.1.all))
