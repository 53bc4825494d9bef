use Rattle.std.proofs.Common.{◌≡◌, ◌∙◌, ap, subst}
use Rattle.std.specs.Prelude.{Option}
use Rattle.turn_lock.specs.History.{past_after}
use Rattle.shared_cache.specs.declared.log.LogEntry.{LogEntry}
use Rattle.shared_client.specs.Setups.{Shared, TurnStep}
use Rattle.shared_client.proofs.Did.{turned}
use Rattle.shared_client.proofs.logged.SharedClientLogged.turn.Goals as goal

pub returns-clause-step : goal.returns-clause-step
returns-clause-step c past same =
    let i = c.self.inside.client in
    let new = c.turn.new.self in
    subst (λ (s : Shared). (e : Option LogEntry) × TurnStep s.setup past c.args.call c.turn.result e
    × (new.past ≡ past_after past e)) c.self.view_is
    (turned i.setup new.setup i.past past new.past c.args.call c.turn.result c.turn.ensures.step
    c.turn.ensures.legal c.turn.ensures.setup (ap (λ (s : Shared). s.past) c.self.view_is ∙ same))
