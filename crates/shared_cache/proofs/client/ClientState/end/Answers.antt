use Rattle.std.proofs.Common.{sym, ◌∙◌, arith}
use Rattle.shared_cache.proofs.StepCases.{end_over, end_ok}
use Rattle.shared_cache.proofs.client.ClientState.end.Goals as goal

pub returns-then-has_ended_on-clause-step : goal.returns-then-has_ended_on-clause-step
returns-then-has_ended_on-clause-step c =
    end_over _ _ c.args.wire (sym c.has_ended_on.ensures ∙ c.if-has_ended_on.true)

pub returns-clause-step : goal.returns-clause-step
returns-clause-step c = grind (arith, end_ok)
