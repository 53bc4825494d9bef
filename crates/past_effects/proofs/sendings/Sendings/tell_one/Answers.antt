use Rattle.std.proofs.Common.{◌∙◌, sym, option_map}
use Rattle.past_effects.proofs.Told.{passed_one}
use Rattle.past_effects.proofs.sendings.Sendings.tell_one.Goals as goal

pub returns-then-passes : goal.returns-then-passes
returns-then-passes c =
    passed_one c.args.connections.now c.args.passed (option_map (λ w. w.now) c.args.keys)
    c.args.id c.args.self.now (sym c.passes.ensures ∙ c.if-passes.true)
