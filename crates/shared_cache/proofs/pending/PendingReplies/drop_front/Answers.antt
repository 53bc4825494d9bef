use Rattle.std.proofs.Common.{arith, ◌∙◌}
use Rattle.std.proofs.lemmas.List.{length-drop}
use Rattle.shared_cache.proofs.PendingFront.{one_more, first_gone}
use Rattle.shared_cache.proofs.pending.PendingReplies.drop_front.Goals as goal

pub overflow_add-self : goal.overflow_add-self
overflow_add-self c = omega (arith, c.loop-self.invariant.within)

pub loop-self-smaller : goal.loop-self-smaller
loop-self-smaller c = grind arith

pub loop-self-preserved : goal.loop-self-preserved
loop-self-preserved c = grind (arith, one_more, first_gone, length-drop)

pub invariant_of-self : goal.invariant_of-self
invariant_of-self c = c.loop-self.invariant.within

pub invariant_of-self-in_default-2 : goal.invariant_of-self-in_default-2
invariant_of-self-in_default-2 c = c.loop-self.invariant.within

pub returns-in_default : goal.returns-in_default
returns-in_default c = c.loop-self.invariant.same ∙ c.self.view_is

pub returns-in_default-2 : goal.returns-in_default-2
returns-in_default-2 c = c.loop-self.invariant.same ∙ c.self.view_is
