use Rattle.std.proofs.Common.{◌≡◌, length}
use Rattle.command_words.specs.TrackingWords.{track_options}
use Rattle.command_words.proofs.tracking_words.track_options.Given as goal

abbrev pub invariant-loop-rest : goal.invariant-loop-rest
invariant-loop-rest l = track_options l.fn.options l.words ≡ track_options l.options l.rest

abbrev pub decreases-loop-rest : goal.decreases-loop-rest
decreases-loop-rest l = length l.rest
