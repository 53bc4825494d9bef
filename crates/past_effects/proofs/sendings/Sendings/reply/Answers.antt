use Rattle.std.proofs.Common.{◌++◌, ◌∙◌, append-nil, ap, sym}
use Rattle.serial_model.specs.Actions.{to_one}
use Rattle.past_effects.specs.Sendings.{outlines}
use Rattle.past_effects.proofs.Told.{no_outlines}
use Rattle.past_effects.proofs.sendings.Sendings.reply.Goals as goal

pub returns-in-None : goal.returns-in-None
returns-in-None c =
    let cs = c.args.connections.now in
    sym (ap (λ r. c.args.self.now ++ outlines cs (to_one c.args.to c.args.proto r)) c.in-None.is
    ∙ ap (λ l. c.args.self.now ++ l) (no_outlines cs) ∙ append-nil c.args.self.now)
