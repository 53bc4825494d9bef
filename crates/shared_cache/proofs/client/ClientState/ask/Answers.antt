use Rattle.std.proofs.Common.{ap, sym, ◌∙◌, arith}
use Rattle.shared_cache.specs.declared.log.LogEntry.TheVariants as entry
use Rattle.shared_cache.specs.ClientFields.{Client}
use Rattle.shared_cache.proofs.StepCases.{stepped, ask_down, ask_unready, ask_full, ask_ok, ran_out}
use Rattle.shared_cache.proofs.client.ClientState.ask.Goals as goal

pub returns-then-has_ended-clause-step : goal.returns-then-has_ended-clause-step
returns-then-has_ended-clause-step c = grind (arith, ask_down)

pub returns-then-not-is_ready-clause-step : goal.returns-then-not-is_ready-clause-step
returns-then-not-is_ready-clause-step c = grind (arith, ask_unready)

pub returns-then-is_log_full-clause-step : goal.returns-then-is_log_full-clause-step
returns-then-is_log_full-clause-step c = grind (arith, ask_full)

pub returns-in-Ok-clause-step : goal.returns-in-Ok-clause-step
returns-in-Ok-clause-step c = grind (arith, stepped, ask_ok)

pub returns-in-Err-clause-step : goal.returns-in-Err-clause-step
returns-in-Err-clause-step c =
    ran_out _ _ _ _ (entry.Ask c.args.query) _ tt
    (ask_ok _ _ c.args.query (sym c.has_ended.ensures ∙ c.if-has_ended.false)
    (sym c.is_ready.ensures ∙ c.if-not-is_ready.false)
    (sym c.is_log_full.ensures ∙ c.if-is_log_full.false))
    (ap (λ (st : Client). st.past) c.in-Err.ensures.err)
