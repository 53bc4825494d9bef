use Rattle.std.proofs.Common.{ap, sym, ◌∙◌, arith}
use Rattle.shared_cache.specs.ClientFields.{Client}
use Rattle.shared_cache.specs.declared.log.LogEntry.TheVariants as entry
use Rattle.shared_cache.proofs.StepCases.{got_full, got_ok, fault_push, ran_out}
use Rattle.shared_cache.proofs.client.ClientState.got_push.Goals as goal

pub returns-then-is_log_full-clause-step : goal.returns-then-is_log_full-clause-step
returns-then-is_log_full-clause-step c = grind (arith, got_full, fault_push)

pub returns-in-Ok-clause-step : goal.returns-in-Ok-clause-step
returns-in-Ok-clause-step c = grind (arith, got_ok, fault_push)

pub returns-in-Err-clause-step : goal.returns-in-Err-clause-step
returns-in-Err-clause-step c =
    ran_out _ _ _ _ (entry.Got c.args.wire c.args.value) _ tt
    (got_ok _ _ c.args.wire c.args.value c.requires.open
    (fault_push _ _ c.args.wire c.args.value c.args.notice c.requires.notice c.requires.push)
    (sym c.is_log_full.ensures ∙ c.if-is_log_full.false))
    (ap (λ (st : Client). st.past) c.in-Err.ensures.err)
