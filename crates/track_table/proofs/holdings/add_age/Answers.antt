use Rattle.std.proofs.Common.{◌∙◌}
use Rattle.track_table.specs.Holdings.{has_age}
use Rattle.track_table.proofs.Aged.{at_age}
use Rattle.track_table.proofs.Coverings.{or_true}
use Rattle.track_table.proofs.holdings.add_age.Goals as goal

pub returns-clause-kept : goal.returns-clause-kept
returns-clause-kept c =
    λ a is. c.in_ok-insert.ensures.updates.0 a
    ∙ or_true (at_age c.args.age a) (has_age a c.args.ages.now.keys) is
