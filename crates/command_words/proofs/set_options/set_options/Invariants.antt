use Rattle.std.proofs.Common.{◌≡◌, length}
use Rattle.command_words.specs.declared.command.SetWhen.TheVariants.{Always}
use Rattle.command_words.specs.declared.command.SetLife.TheVariants.{Cleared}
use Rattle.command_words.specs.SetOptions.{set_options}
use Rattle.command_words.proofs.set_options.set_options.Given as goal

abbrev pub invariant-loop-rest : goal.invariant-loop-rest
invariant-loop-rest l = set_options Always Cleared l.words ≡ set_options l.when l.life l.rest

abbrev pub decreases-loop-rest : goal.decreases-loop-rest
decreases-loop-rest l = length l.rest
