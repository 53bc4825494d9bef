use Rattle.std.proofs.Common.{◌<◌, ◌∙◌, sym, arith}
use Rattle.script_text.proofs.Storms.{none_left, opening_taken, second_taken, step_taken}
use Rattle.script_text.proofs.Storms.{valid_is, valid_parts}
use Rattle.script_text.proofs.storm.Storm.next.Goals as goal

-- ---- an event of the opening
pub returns-in-Some-clause-given : goal.returns-in-Some-clause-given
returns-in-Some-clause-given c =
    let s = c.self.inside in
    sym c.self.view_is
    ∙ opening_taken s.given s.second s.steps s.generator.state s.generator.clock c.in-Some.event
    (sym c.in_ok-event.ensures ∙ c.in-Some.is)

pub invariant_of-self : goal.invariant_of-self
invariant_of-self c =
    (valid_parts _ c.in-Some.event _ (c.self.view_is ∙ returns-in-Some-clause-given c)
    c.self.invariant).1

-- ---- the second event of a step
pub returns-in-Some-take-clause-given : goal.returns-in-Some-take-clause-given
returns-in-Some-take-clause-given c =
    let s = c.self.inside in
    sym c.self.view_is
    ∙ second_taken s.given s.second c.take.new.self s.steps s.generator.state s.generator.clock
    c.in-Some-take.event (sym c.in_ok-event.ensures ∙ c.in_default.is)
    c.in-Some-take.ensures.value c.in-Some-take.ensures.after

pub invariant_of-self-in-Some-take : goal.invariant_of-self-in-Some-take
invariant_of-self-in-Some-take c =
    (valid_parts _ c.in-Some-take.event _
    (c.self.view_is ∙ returns-in-Some-take-clause-given c) c.self.invariant).1

pub returns-in-Some-take-clause-valid : goal.returns-in-Some-take-clause-valid
returns-in-Some-take-clause-valid c =
    valid_is c.in-Some-take.event (valid_parts _ c.in-Some-take.event _
    (c.self.view_is ∙ returns-in-Some-take-clause-given c) c.self.invariant).0

-- ---- no event
pub returns-then-is_over-clause-ended : goal.returns-then-is_over-clause-ended
returns-then-is_over-clause-ended c = λ e.
    let s = c.self.inside in
    sym c.self.view_is
    ∙ none_left s.given s.second s.steps s.generator.state s.generator.clock
    (sym c.in_ok-event.ensures ∙ c.in_default.is)
    (sym c.take.ensures.value ∙ c.in_default-take.is) (omega (arith, c.if-is_over.true))

-- ---- the first event of a step
pub returns-clause-given : goal.returns-clause-given
returns-clause-given c =
    let s = c.self.inside in
    let some : 0 < s.steps = omega (arith, c.if-is_over.false) in
    sym c.self.view_is
    ∙ step_taken s.given s.second c.in_ok-first.field-0.second s.steps s.generator.state
    s.generator.clock c.step.new.self.state c.step.new.self.clock c.in_ok-first.field-0.first
    (sym c.in_ok-event.ensures ∙ c.in_default.is)
    (sym c.take.ensures.value ∙ c.in_default-take.is) some c.in_ok-first.ensures.events
    c.in_ok-first.ensures.state c.in_ok-first.ensures.clock

pub invariant_of-self-2 : goal.invariant_of-self-2
invariant_of-self-2 c =
    (valid_parts _ c.in_ok-first.field-0.first _ (c.self.view_is ∙ returns-clause-given c)
    c.self.invariant).1

pub returns-clause-valid : goal.returns-clause-valid
returns-clause-valid c =
    valid_is c.in_ok-first.field-0.first (valid_parts _ c.in_ok-first.field-0.first _
    (c.self.view_is ∙ returns-clause-given c) c.self.invariant).0
