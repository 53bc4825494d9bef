use Rattle.serial_model.proofs.laws.law_before_the_reply.Goals as goal
use Rattle.serial_model.proofs.BeforeReply.{before_the_reply}

pub returns : goal.returns
returns c =
    before_the_reply c.law_replies_are_of_keys_read.ensures c.law_signals_are_written.ensures
