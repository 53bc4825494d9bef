use Rattle.std.proofs.Common.{◌≡◌, length}
use Rattle.command_set.specs.Aside.{filled}
use Rattle.command_set.specs.Priors.{priors_of}
use Rattle.command_set.proofs.aside.fill.Given as goal

abbrev pub invariant-priors : goal.invariant-priors
invariant-priors l =
    filled (priors_of l.left.items) l.space ≡ filled (priors_of l.fn.aside.items) l.fn.space

abbrev pub decreases-priors : goal.decreases-priors
decreases-priors l = length l.left.items
