use Rattle.std.proofs.Common.{ap, sym, ◌∙◌, arith}
use Rattle.shared_cache.specs.declared.log.LogEntry.TheVariants as entry
use Rattle.shared_cache.specs.ClientFields.{Client}
use Rattle.shared_cache.proofs.StepCases.{take_down, take_quiet, take_full, take_ok, ran_out}
use Rattle.shared_cache.proofs.client.ClientState.take_out.Goals as goal

pub returns-then-has_ended_on-clause-step : goal.returns-then-has_ended_on-clause-step
returns-then-has_ended_on-clause-step c = grind (arith, take_down)

pub returns-then-is_drained-clause-step : goal.returns-then-is_drained-clause-step
returns-then-is_drained-clause-step c = grind (arith, take_quiet)

pub returns-then-is_log_full-clause-step : goal.returns-then-is_log_full-clause-step
returns-then-is_log_full-clause-step c = grind (arith, take_full)

pub returns-in-Ok-clause-step : goal.returns-in-Ok-clause-step
returns-in-Ok-clause-step c = grind (arith, take_ok)

pub returns-in-Err-clause-step : goal.returns-in-Err-clause-step
returns-in-Err-clause-step c =
    ran_out _ _ _ _ (entry.TakeOut c.args.wire c.args.most) _ tt
    (take_ok _ _ c.args.wire c.args.most (sym c.has_ended_on.ensures ∙ c.if-has_ended_on.false)
    (sym c.is_drained.ensures ∙ c.if-is_drained.false)
    (sym c.is_log_full.ensures ∙ c.if-is_log_full.false))
    (ap (λ (st : Client). st.past) c.in-Err.ensures.err)
