use Rattle.script_bench.proofs.Filling.{fetches, on_ok}
use Rattle.script_bench.proofs.client.fill.Goals as goal

pub returns-in-Ok-Sent : goal.returns-in-Ok-Sent
returns-in-Ok-Sent g c =
    let sent = c.in-Ok-Sent in
    on_ok c.answer.result _ _ (λ h. (
      sent.number,
      fetches c.args.key sent.number _ _ _ _ _ _ c.in_ok-query.ensures c.in_ok-value.ensures
          sent.field-0-is sent.ensures.ok h,
    )) c.answer.ensures
