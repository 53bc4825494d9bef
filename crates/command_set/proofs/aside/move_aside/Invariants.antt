use Rattle.std.proofs.Common.{◌≡◌, ◌++◌, drop}
use Rattle.command_set.specs.Aside.{filled, hollowed, moved}
use Rattle.command_set.specs.Priors.{priors_of}
use Rattle.command_set.proofs.aside.move_aside.Given as goal

abbrev pub invariant-loop-key : goal.invariant-loop-key
invariant-loop-key l = record {
  aside : priors_of l.aside.items ++ moved (drop l.key-index l.keys) l.space
      ≡ priors_of l.fn.aside.items ++ moved l.keys l.fn.space;
  space : hollowed (drop l.key-index l.keys) l.space ≡ hollowed l.keys l.fn.space;
  back : filled (priors_of l.aside.items) l.space
      ≡ filled (priors_of l.fn.aside.items) l.fn.space;
}
