use Rattle.std.proofs.Common.{ap, cond, false, ◌∙◌}
use Rattle.track_table.specs.Holdings.{has_age}
use Rattle.track_table.proofs.Aged.{at_age}
use Rattle.track_table.proofs.Coverings.{not_age, or_false}
use Rattle.track_table.proofs.holdings.remove_age.Goals as goal

pub returns-clause-kept : goal.returns-clause-kept
returns-clause-kept c =
    λ a other is. c.remove.ensures.updates.0 a
    ∙ ap (λ t. cond t false (has_age a c.args.ages.now.keys)) (not_age a c.args.age other) ∙ is

pub returns-clause-less : goal.returns-clause-less
returns-clause-less c =
    λ a none. c.remove.ensures.updates.0 a
    ∙ or_false (at_age c.args.age a) (has_age a c.args.ages.now.keys) none
