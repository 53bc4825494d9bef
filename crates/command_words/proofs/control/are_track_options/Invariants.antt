use Rattle.std.proofs.Common.{◌≡◌, length, true, false}
use Rattle.std.specs.Prelude.{is_ok}
use Rattle.command_words.specs.TrackingWords.{no_options, track_options}
use Rattle.command_words.proofs.TrackingFits.{fits_options}
use Rattle.command_words.proofs.control.are_track_options.Given as goal

abbrev pub invariant-loop-rest : goal.invariant-loop-rest
invariant-loop-rest l =
    (is_ok (track_options (no_options true) l.words) ≡ fits_options l.redirected l.rest)
    × (is_ok (track_options (no_options false) l.words) ≡ fits_options l.redirected l.rest)

abbrev pub decreases-loop-rest : goal.decreases-loop-rest
decreases-loop-rest l = length l.rest
