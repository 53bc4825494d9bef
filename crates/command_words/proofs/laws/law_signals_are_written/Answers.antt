use Rattle.command_words.proofs.SignalledKeys.{signalled_only}
use Rattle.command_words.proofs.laws.law_signals_are_written.Goals as goal

pub returns : goal.returns
returns c command space moment key signalled =
    (signalled_only command space moment).is key signalled
