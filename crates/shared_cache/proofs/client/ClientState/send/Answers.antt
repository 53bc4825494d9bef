use Rattle.std.proofs.Common.{ap, sym, ◌∙◌, arith}
use Rattle.shared_cache.specs.declared.log.LogEntry.TheVariants as entry
use Rattle.shared_cache.specs.ClientFields.{Client}
use Rattle.shared_cache.proofs.StepCases.{send_down, send_unready, send_control, send_full, send_ok}
use Rattle.shared_cache.proofs.StepCases.{ran_out}
use Rattle.shared_cache.proofs.client.ClientState.send.Goals as goal

pub returns-then-has_ended-clause-step : goal.returns-then-has_ended-clause-step
returns-then-has_ended-clause-step c = grind (arith, send_down)

pub returns-then-not-is_ready-clause-step : goal.returns-then-not-is_ready-clause-step
returns-then-not-is_ready-clause-step c = grind (arith, send_unready)

pub returns-then-is_control-clause-step : goal.returns-then-is_control-clause-step
returns-then-is_control-clause-step c = grind (arith, send_control)

pub returns-then-is_log_full-clause-step : goal.returns-then-is_log_full-clause-step
returns-then-is_log_full-clause-step c = grind (arith, send_full)

pub returns-in-Ok-clause-step : goal.returns-in-Ok-clause-step
returns-in-Ok-clause-step c = grind (arith, send_ok)

pub returns-in-Err-clause-step : goal.returns-in-Err-clause-step
returns-in-Err-clause-step c =
    ran_out _ _ _ _ (entry.Send c.args.words) _ tt
    (send_ok _ _ c.args.words (sym c.has_ended.ensures ∙ c.if-has_ended.false)
    (sym c.is_ready.ensures ∙ c.if-not-is_ready.false)
    (sym c.is_control.ensures ∙ c.if-is_control.false)
    (sym c.is_log_full.ensures ∙ c.if-is_log_full.false))
    (ap (λ (st : Client). st.past) c.in-Err.ensures.err)
