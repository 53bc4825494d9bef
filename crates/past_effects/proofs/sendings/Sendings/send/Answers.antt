use Rattle.std.proofs.Common.{◌∙◌, ◌++◌, ap, append-nil, arith, sym}
use Rattle.serial_model.specs.Actions.{Message}
use Rattle.past_effects.proofs.Told.{one_off, one_on}
use Rattle.past_effects.proofs.sendings.Sendings.send.Goals as goal

pub returns-in_ok-push : goal.returns-in_ok-push
returns-in_ok-push c =
    let cs = c.args.connections.now in
    let on = sym c.is_live.ensures.live ∙ c.if-is_live.true in
    let is = one_on cs c.args.to (Message c.args.proto c.args.value.now) on in
    grind (arith, is)

pub returns-else-is_live : goal.returns-else-is_live
returns-else-is_live c =
    let cs = c.args.connections.now in
    let off = sym c.is_live.ensures.live ∙ c.if-is_live.false in
    sym (ap (λ l. c.args.self.now ++ l)
    (one_off cs c.args.to (Message c.args.proto c.args.value.now) off)
    ∙ append-nil c.args.self.now)
