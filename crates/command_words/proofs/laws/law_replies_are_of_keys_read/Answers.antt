use Rattle.command_words.proofs.KeysRead.{replies_alike}
use Rattle.command_words.proofs.laws.law_replies_are_of_keys_read.Goals as goal

pub returns : goal.returns
returns c = replies_alike
