use Rattle.std.proofs.Common.{ap, sym, ◌∙◌, arith}
use Rattle.shared_cache.specs.declared.log.ClientReply.TheVariants.{Refused}
use Rattle.shared_cache.specs.declared.log.ClientRefusal.TheVariants.{BadPush}
use Rattle.shared_cache.specs.ClientFields.{Client}
use Rattle.shared_cache.proofs.StepCases.{got_down, got_bad, fault_malformed}
use Rattle.shared_cache.proofs.client.ClientState.got.Goals as goal

pub returns-then-has_ended_on-clause-step : goal.returns-then-has_ended_on-clause-step
returns-then-has_ended_on-clause-step c = grind (arith, got_down)

pub returns-in-Malformed-clause-step : goal.returns-in-Malformed-clause-step
returns-in-Malformed-clause-step c =
    got_bad _ _ c.args.wire c.args.value (BadPush c.args.wire)
    (sym c.has_ended_on.ensures ∙ c.if-has_ended_on.false)
    (fault_malformed _ _ c.args.wire c.args.value (sym c.in-Malformed.ensures))
    ∙ ap (λ (st : Client). record { reply = Refused (BadPush c.args.wire); past = st.past })
    (sym c.finish.ensures)
