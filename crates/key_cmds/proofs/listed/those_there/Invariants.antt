use Rattle.std.proofs.Common.{◌≡◌, ◌++◌, drop}
use Rattle.command_words.specs.Keys.{there}
use Rattle.key_cmds.proofs.Wanted.{wanted}
use Rattle.key_cmds.proofs.listed.those_there.Given as goal

abbrev pub invariant-loop-key : goal.invariant-loop-key
invariant-loop-key l =
    l.keys ++ wanted l.space l.met (drop l.key-index l.words) ≡ there l.words l.space
