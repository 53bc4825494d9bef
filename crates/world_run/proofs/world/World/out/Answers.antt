use Rattle.std.proofs.Common.{◌≡◌, ◌<◌, ℕ, List, Option, Some, None, append-nil, length}
use Rattle.std.proofs.Common.{slice_set, refl, sym, ap, subst, ◌∙◌, arith}
use Rattle.std.specs.Prelude.{not}
use Rattle.script_text.specs.declared.line.Line.{Line}
use Rattle.server_links.specs.declared.fault.WorldFault.TheVariants.{NoName, NothingThere}
use Rattle.server_links.specs.LinkSteps.{place_of}
use Rattle.server_links.specs.Outcome.{Stops}
use Rattle.server_links.proofs.Outcomes.{Ends}
use Rattle.script_text.specs.declared.event.Event.TheVariants as event
use Rattle.world_run.specs.ClientMoves as client
use Rattle.world_run.specs.Members.{world}
use Rattle.world_run.specs.World.{StepGives, out_step, step}
use Rattle.world_run.specs.WorldState.{LinkEnd, WorldState, end_of_link}
use Rattle.world_run.proofs.Names.{end_there}
use Rattle.world_run.proofs.WorldCode as code
use Rattle.world_run.proofs.world.World.out.Goals as goal
use Rattle.world_run.proofs.world.World.out.Goals.{After-out, in-None-count, in-Some-count}

below : (c : After-out) → c.in-Some.at < length c.self.inside.ends.items
below c =
    subst (λ (w : WorldState). c.in-Some.at < length w.ends) (sym c.self.view_is)
    (end_there c.args.name.now c.args.self.now.ends c.in-Some.at
    (sym c.end_of_link.ensures ∙ c.in-Some.is)).0

gave : (c : After-out) → let i = c.self.inside in
    StepGives c.args.self.now (event.Out c.args.name.now c.args.count) c.args.lines.now
    c.out.result
    (world i.log_max c.out.new.links
    (slice_set i.members.items c.end.inside.client c.out.new.member) i.ends.items)
    c.out.new.lines
unfolding step
gave c =
    let i = c.self.inside in
    let w = c.args.self.now in
    let e = c.index-in-Some.inside in
    code.owned (λ o. out_step o c.args.name.now c.args.count w) c.args.name.now
    (client.out c.args.count) w (world i.log_max i.links i.members.items i.ends.items)
    c.in-Some.at c.args.lines.now c.out.result
    (world i.log_max c.out.new.links
    (slice_set i.members.items c.end.inside.client c.out.new.member) i.ends.items)
    c.out.new.lines c.self.view_is (sym c.end_of_link.ensures ∙ c.in-Some.is) refl
    (code.taken_acts i.log_max i.links i.members.items i.ends.items c.in-Some.at
    c.index.result.now (record { end = e.end; reader = e.reader }) c.end.inside.client
    c.index_mut-member.result.now c.self.invariant.1 (below c) c.index.ensures
    c.index-in-Some.view_is (ap (λ (l : LinkEnd). l.client) c.end.view_is)
    c.index_mut-member.ensures.value (client.out c.args.count) c.out.new.links
    c.out.new.member c.args.lines.now c.out.result c.out.new.lines
    (c.out.ensures.gives e.reader))

pub returns-in-Some : goal.returns-in-Some
returns-in-Some c = gave (goal.at.returns-in-Some c).After-out

module _ (w : WorldState) (name : List ℕ) (lines : List Line)
    (free : end_of_link name w.ends ≡ None) where
  nowhere : (count : Option ℕ) → place_of name w.links ≡ None
      → Stops (step w (event.Out name count)) lines NoName w lines
  unfolding step
  nowhere count none = grind (arith, append-nil)

  module _ (at : ℕ) (there : place_of name w.links ≡ Some at) where
    nothing : Ends (step w (event.Out name None)) lines w lines
    unfolding step
    nothing = grind (arith, append-nil)

    too_many : (n : ℕ) → Stops (step w (event.Out name (Some n))) lines NothingThere w lines
    unfolding step
    too_many n = grind (arith, append-nil)

pub returns-in-None : goal.returns-in-None
returns-in-None c =
    let name = c.args.name.now in
    nowhere c.args.self.now name c.args.lines.now (sym c.end_of_link.ensures ∙ c.in-None.is)
    c.args.count (grind arith)

pub returns-after-count : goal.returns-after-count
returns-after-count c =
    let w = c.args.self.now in
    let name = c.args.name.now in
    let lines = c.args.lines.now in
    let free = sym c.end_of_link.ensures ∙ c.in-None-2.is in
    let some = code.a_some c.place_of.result (c.is_none.ensures ∙ ap not c.if-is_none.false) in
    let there : place_of name w.links ≡ Some some.0 =
    grind arith in
    grind (arith, in-None-count, nothing, in-Some-count, too_many)

pub invariant_of-self : goal.invariant_of-self
invariant_of-self c = (
  code.still_over _ _ _ _ _ _ _ _ c.self.view_is
      (gave (goal.at.invariant_of-self c).After-out) c.self.invariant.0,
  (let i = c.self.inside in
      let e = c.index-in-Some.inside in
      code.taken_clients i.log_max i.links i.members.items i.ends.items c.in-Some.at
      c.index.result.now (record { end = e.end; reader = e.reader }) c.end.inside.client
      c.index_mut-member.result.now c.self.invariant.1
      (below (goal.at.invariant_of-self c).After-out) c.index.ensures
      c.index-in-Some.view_is (ap (λ (l : LinkEnd). l.client) c.end.view_is)
      c.index_mut-member.ensures.value c.out.new.member c.out.ensures.setup c.out.new.links),
  c.self.invariant.2,
)
