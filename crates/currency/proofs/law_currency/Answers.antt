use Rattle.currency.proofs.law_currency.Goals as goal
use Rattle.currency.proofs.Client.{currency}

pub returns : goal.returns
returns c =
    currency c.law_change_is_signalled.ensures c.law_before_the_reply.ensures
    c.law_signals_are_written.ensures c.law_registered_is_mode.ensures
    c.law_redirected_is_sent.ensures
