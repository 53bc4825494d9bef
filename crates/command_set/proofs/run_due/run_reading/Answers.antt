use Rattle.std.proofs.Common.{◌≡◌, ap, subst, sym, ◌∙◌}
use Rattle.command_words.specs.Effect.{Effect}
use Rattle.command_words.specs.Effects.{effect}
use Rattle.command_words.specs.Expiry.{without_due}
use Rattle.command_set.specs.InStep.{InStep}
use Rattle.command_set.specs.Priors.{shown}
use Rattle.command_set.proofs.Unchanged.{nothing_due, reading_stays, settled_shown}
use Rattle.command_set.proofs.run_due.run_reading.Goals as goal

pub returns-clause-turn : goal.returns-clause-turn
returns-clause-turn c =
    let m = c.args.moment in
    let command = c.args.command.now in
    let parts = c.args.parts.now in
    let row : effect command parts.space m ≡ effect command (without_due m (shown parts)) m =
    ap (λ s. effect command s m) (sym (nothing_due m parts c.requires.step c.requires.settled
    (sym c.requires.expired ∙ c.requires.none))) in (
      c.in_ok-done.ensures.0 ∙ ap (λ (e : Effect). e.reply) row,
      c.in_ok-done.ensures.1 ∙ ap (λ (e : Effect). e.signalled) row,
      settled_shown (record parts { space = c.run_row.new.space }) c.requires.settled
          ∙ (c.in_ok-done.ensures.2 ∙ ap (λ (e : Effect). e.space) row),
    )

pub returns-clause-undo : goal.returns-clause-undo
returns-clause-undo c =
    let parts = c.args.parts.now in
    settled_shown (record parts { space = c.run_row.new.space }) c.requires.settled
    ∙ (c.in_ok-done.ensures.2
    ∙ (reading_stays c.args.command.now parts.space c.args.moment c.requires.keys
    ∙ sym (settled_shown parts c.requires.settled)))

pub returns-clause-step : goal.returns-clause-step
returns-clause-step c =
    let parts = c.args.parts.now in
    subst (InStep parts.index)
    (sym (c.in_ok-done.ensures.2
    ∙ reading_stays c.args.command.now parts.space c.args.moment c.requires.keys)) c.requires.step
