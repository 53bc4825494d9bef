use Rattle.std.proofs.lemmas.Result.{on_ok_weaker}
use Rattle.serial_model.specs.Tracking.{group, prefix_group}
use Rattle.past_effects.proofs.Told.{unpassed_both}
use Rattle.past_effects.proofs.sendings.Sendings.tell_keys.Goals as goal

pub returns-clause-told : goal.returns-clause-told
returns-clause-told c =
    on_ok_weaker c.tell_prefixes.result
    (λ e. unpassed_both c.args.connections.now c.args.passed
    (group c.args.keys.now c.args.table.now.rows)
    (prefix_group c.args.keys.now c.args.prefixes.now) c.args.self.now
    c.tell_holders.new.self c.tell_prefixes.new.self c.in_ok-tell_holders.ensures.told e)
    c.tell_prefixes.ensures
