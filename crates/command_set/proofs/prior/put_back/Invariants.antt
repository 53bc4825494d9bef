use Rattle.std.proofs.Common.{◌≡◌, length}
use Rattle.command_set.specs.InStep.{InStep}
use Rattle.command_set.specs.Priors.{priors_of, put_back}
use Rattle.command_set.proofs.prior.put_back.Given as goal

abbrev pub invariant-priors : goal.invariant-priors
invariant-priors l = record {
  same : put_back (priors_of l.priors.items) l.space
      ≡ put_back (priors_of l.fn.priors.items) l.fn.space;
  step : InStep l.index l.space;
}

abbrev pub decreases-priors : goal.decreases-priors
decreases-priors l = length l.priors.items
