use Rattle.std.proofs.Common.{arith, ◌≡◌, not, refl, sym, ap, ◌∙◌}
use Rattle.std.proofs.lemmas.Result.{err_from_is_err_and}
use Rattle.resp_value.specs.Spelling.{request_spelling}
use Rattle.script_text.specs.declared.event.Event.TheVariants as event
use Rattle.server_links.specs.declared.fault.WorldFault.TheVariants.{NoName, NoMemory}
use Rattle.server_links.specs.LinkEvent.{Put}
use Rattle.server_links.specs.LinkSteps.{place_of}
use Rattle.world_run.specs.Members.{world}
use Rattle.world_run.specs.World.{StepGives, said_step, step}
use Rattle.world_run.specs.WorldState.{WorldState, end_of_link}
use Rattle.world_run.proofs.WorldCode as code
use Rattle.world_run.proofs.world.World.say.Goals as goal
use Rattle.world_run.proofs.world.World.say.Goals.{After-put}

pub returns-then-is_some : goal.returns-then-is_some
unfolding step
returns-then-is_some c =
    let w = c.args.self.now in
    let name = c.args.name.now in
    let bytes = request_spelling c.args.words.now in
    let o = end_of_link name w.ends in
    code.no_name w (said_step o name bytes w) c.args.lines.now
    (grind arith)

pub returns-then-is_none : goal.returns-then-is_none
unfolding step
returns-then-is_none c =
    let w = c.args.self.now in
    let name = c.args.name.now in
    let bytes = request_spelling c.args.words.now in
    let none = sym c.end_of_link.ensures
    ∙ code.a_none c.end_of_link.result (sym c.is_some.ensures ∙ c.if-is_some.false) in
    let nowhere = ap (λ (v : WorldState). place_of name v.links) (sym c.self.view_is)
    ∙ sym c.place_of.ensures
    ∙ code.a_none c.place_of.result (c.is_none.ensures ∙ ap not c.if-is_none.true) in
    code.said_stops name bytes w c.args.lines.now NoName none
    (code.put_nowhere name bytes w c.args.lines.now nowhere)

pub returns-in_err-put_request : goal.returns-in_err-put_request
unfolding step
returns-in_err-put_request c =
    let w = c.args.self.now in
    let name = c.args.name.now in
    let bytes = request_spelling c.args.words.now in
    let none = sym c.end_of_link.ensures
    ∙ code.a_none c.end_of_link.result (sym c.is_some.ensures ∙ c.if-is_some.false) in
    let at = code.a_some c.place_of.result (c.is_none.ensures ∙ ap not c.if-is_none.false) in
    let p = err_from_is_err_and c.from_residual.result c.from_residual.ensures.1 in
    rw p.1 (rw p.2
    (code.said_stops name bytes w c.args.lines.now NoMemory none
    (code.put_before name bytes at.0 w c.args.lines.now
    (ap (λ (v : WorldState). place_of name v.links) (sym c.self.view_is)
    ∙ sym c.place_of.ensures ∙ at.1))))

gave : (c : After-put) → StepGives c.args.self.now
    (event.Say c.args.name.now c.args.words.now) c.args.lines.now c.put.result
    (world c.self.inside.log_max c.put.new.self c.self.inside.members.items
    c.self.inside.ends.items) c.put.new.lines
unfolding step
gave c =
    let i = c.self.inside in
    let w = c.args.self.now in
    let name = c.args.name.now in
    let bytes = request_spelling c.args.words.now in
    let written : c.as_slice.result.now ≡ bytes = grind arith in
    code.unowned i.log_max (λ o. said_step o name bytes w) name (Put name bytes) w i.links
    c.put.new.self i.members.items i.ends.items c.args.lines.now c.put.result c.put.new.lines
    c.self.view_is (grind arith) refl
    (grind arith)

pub returns : goal.returns
returns c = gave (goal.at.returns c).After-put

pub invariant_of-self : goal.invariant_of-self
invariant_of-self c = (
  (code.still_over _ _ _ _ _ _ _ _ c.self.view_is
      (gave (goal.at.invariant_of-self c).After-put) c.self.invariant.0),
  c.self.invariant.1,
  c.self.invariant.2,
)
