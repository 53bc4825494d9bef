use Rattle.std.proofs.Common.{ap, sym, ◌∙◌, arith}
use Rattle.std.proofs.lemmas.Bool.{not-true, not-false, leb-false}
use Rattle.shared_cache.specs.declared.log.ClientReply.TheVariants.{Refused}
use Rattle.shared_cache.specs.declared.log.ClientRefusal.TheVariants.{Unexpected, SetupRefused}
use Rattle.shared_cache.specs.ClientFields.{Client}
use Rattle.shared_cache.specs.declared.log.LogEntry.TheVariants as entry
use Rattle.shared_cache.proofs.StepCases.{got_bad, got_full, got_ok, fault_unexpected, ran_out}
use Rattle.shared_cache.proofs.StepCases.{fault_refused, fault_none}
use Rattle.shared_cache.proofs.client.ClientState.got_reply.Goals as goal

pub returns-then-not-is_awaiting-clause-step : goal.returns-then-not-is_awaiting-clause-step
returns-then-not-is_awaiting-clause-step c =
    got_bad _ _ c.args.wire c.args.value (Unexpected c.args.wire) c.requires.open
    (grind (arith, fault_unexpected, not-false))
    ∙ ap (λ (st : Client). record { reply = Refused (Unexpected c.args.wire); past = st.past })
    (sym c.finish.ensures)

pub welcomes-requires : goal.welcomes-requires
welcomes-requires c = leb-false _ _ (not-true _ (grind arith))

pub returns-then-not-welcomes-clause-step : goal.returns-then-not-welcomes-clause-step
returns-then-not-welcomes-clause-step c =
    got_bad _ _ c.args.wire c.args.value (SetupRefused c.args.wire) c.requires.open
    (grind (arith, fault_refused, not-true))
    ∙ ap (λ (st : Client). record { reply = Refused (SetupRefused c.args.wire); past = st.past })
    (sym c.finish-then-not-welcomes.ensures)

pub returns-then-is_log_full-clause-step : goal.returns-then-is_log_full-clause-step
returns-then-is_log_full-clause-step c = grind (arith, got_full, fault_none, not-true)

pub settle_on-requires-clause-awaited : goal.settle_on-requires-clause-awaited
settle_on-requires-clause-awaited c = grind (arith, fault_none, not-true)

pub returns-in-Ok-clause-step : goal.returns-in-Ok-clause-step
returns-in-Ok-clause-step c = grind (arith, got_ok, fault_none, not-true)

pub returns-in-Err-clause-step : goal.returns-in-Err-clause-step
returns-in-Err-clause-step c =
    ran_out _ _ _ _ (entry.Got c.args.wire c.args.value) _ tt
    (got_ok _ _ c.args.wire c.args.value c.requires.open
    (grind (arith, fault_none, not-true))
    (sym c.is_log_full.ensures ∙ c.if-is_log_full.false))
    (ap (λ (st : Client). st.past) c.in-Err.ensures.err)
