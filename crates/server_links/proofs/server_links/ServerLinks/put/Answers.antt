use Rattle.std.proofs.Common.{arith, ◌≡◌, [], Some, slice_set, refl, sym, ap, subst, ◌∙◌}
use Rattle.std.specs.Str.{bytes_eq}
use Rattle.std.proofs.lemmas.List.Quantifiers.{position-Some}
use Rattle.server_links.specs.declared.fault.WorldFault.TheVariants.{NoName}
use Rattle.server_links.specs.declared.link.Link.{Link}
use Rattle.server_links.specs.LinkEvent.{LinkEvent, Put}
use Rattle.server_links.specs.Outcome.{Stops}
use Rattle.server_links.specs.Session.{session, world}
use Rattle.server_links.specs.LinkSteps.{place_of, step, StepGives}
use Rattle.server_links.specs.LinksState.{LinksState, fresh_link}
use Rattle.server_links.proofs.Stepping.{no_such_link, step_gives, step_stands}
use Rattle.server_links.proofs.server_links.ServerLinks.put.Goals as goal

pub returns-in_default : goal.returns-in_default
returns-in_default c =
    let i = c.self.inside in
    let e : LinkEvent = Put c.args.name.now c.args.bytes.now in
    subst (λ (w : LinksState). Stops (step w e) c.args.lines.now NoName w c.args.lines.now)
    c.self.view_is
    (no_such_link c.args.name.now e refl (world i.server i.links.items) c.args.lines.now
    (grind arith))

pub invariant_of-self : goal.invariant_of-self
invariant_of-self c =
    let i = c.self.inside in
    let e : LinkEvent = Put c.args.name.now c.args.bytes.now in
    let place : place_of c.args.name.now (world i.server i.links.items) ≡ Some c.in-Some.at =
    ap (place_of c.args.name.now) c.self.view_is ∙ sym c.place_of.ensures ∙ c.in-Some.is in
    let below = (position-Some (λ (l : Link). bytes_eq l.name c.args.name.now) i.links.items
    c.in-Some.at (fresh_link 0 []) place).0 in
    step_stands c.args.name.now e refl i.server i.links.items c.in-Some.at place
    below i.server c.index_mut.result.now c.put.new.self c.index_mut.ensures.value
    c.self.invariant.1.all c.args.lines.now c.put.result c.args.lines.now
    (c.put.ensures (session i.server c.index_mut.result.now) c.args.lines.now)
    c.self.invariant

pub returns : goal.returns
returns c =
    let i = c.self.inside in
    let e : LinkEvent = Put c.args.name.now c.args.bytes.now in
    let place : place_of c.args.name.now (world i.server i.links.items) ≡ Some c.in-Some.at =
    ap (place_of c.args.name.now) c.self.view_is ∙ sym c.place_of.ensures ∙ c.in-Some.is in
    let below = (position-Some (λ (l : Link). bytes_eq l.name c.args.name.now) i.links.items
    c.in-Some.at (fresh_link 0 []) place).0 in
    subst (λ (w : LinksState). StepGives w e c.args.lines.now c.put.result
    (world i.server (slice_set i.links.items c.in-Some.at c.put.new.self))
    c.args.lines.now) c.self.view_is
    (step_gives c.args.name.now e refl i.server i.links.items c.in-Some.at
    place below i.server c.index_mut.result.now c.put.new.self
    c.index_mut.ensures.value
    c.self.invariant.1.all c.args.lines.now c.put.result c.args.lines.now
    (c.put.ensures (session i.server c.index_mut.result.now) c.args.lines.now))
