use Rattle.std.proofs.Common.{◌∙◌, ◌++◌, None, ap, sym}
use Rattle.serial_model.specs.Tracking.{signal_group, told_to}
use Rattle.past_effects.specs.Seen.{passes}
use Rattle.past_effects.specs.Sendings.{told_sent}
use Rattle.past_effects.proofs.Told.{unpassed_nobody}
use Rattle.past_effects.proofs.sendings.Sendings.tell_signalled.Goals as goal

pub returns-in_ok-tell-in-All-clause-told : goal.returns-in_ok-tell-in-All-clause-told
returns-in_ok-tell-in-All-clause-told c =
    let cs = c.args.connections.now in
    let ids = c.args.tracking.now in
    c.in_ok-tell-in-All.ensures
    ∙ ap (λ l. c.args.self.now ++ told_sent cs l) (unpassed_nobody (told_to None ids))
    ∙ ap (λ x. c.args.self.now ++ told_sent cs (signal_group x (passes c.args.passed) ids
    c.args.table.now.rows c.args.prefixes.now)) (sym c.in-All.is)
