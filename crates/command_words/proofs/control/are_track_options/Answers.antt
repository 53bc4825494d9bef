use Rattle.std.proofs.Common.{true, false}
use Rattle.command_words.specs.TrackingWords.{no_options}
use Rattle.command_words.proofs.TrackingFits.{fits}
use Rattle.command_words.proofs.control.are_track_options.Goals as goal

pub loop-rest-init : goal.loop-rest-init
loop-rest-init c =
    (fits (no_options true) c.args.words.now, fits (no_options false) c.args.words.now)
