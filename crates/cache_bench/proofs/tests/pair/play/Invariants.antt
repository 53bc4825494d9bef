use Rattle.std.proofs.Common.{◌≡◌}
use Rattle.shared_cache.specs.declared.log.Shape.TheVariants.{Pair}
use Rattle.cache_bench.proofs.tests.pair.play.Given as goal

abbrev pub invariant-loop-line : goal.invariant-loop-line
invariant-loop-line g l = l.client.setup.mode.shape ≡ Pair
