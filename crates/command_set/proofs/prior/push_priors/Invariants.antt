use Rattle.std.proofs.Common.{◌≡◌, ◌++◌, drop}
use Rattle.command_set.specs.Priors.{priors_of, what_held}
use Rattle.command_set.proofs.prior.push_priors.Given as goal

abbrev pub invariant-loop-key : goal.invariant-loop-key
invariant-loop-key l =
    priors_of l.out.items ++ what_held (drop l.key-index l.keys) l.space
    ≡ priors_of l.fn.out.items ++ what_held l.keys l.space
