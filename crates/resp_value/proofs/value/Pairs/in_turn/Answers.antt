use Rattle.std.proofs.Common.{arith}
use Rattle.resp_value.proofs.InTurn.{next_key, next_pair, all_turns, none_left}
use Rattle.resp_value.proofs.value.Pairs.in_turn.Goals as goal

pub values-preserved-in-None-key : goal.values-preserved-in-None-key
values-preserved-in-None-key c = grind (arith, next_key)

pub values-preserved : goal.values-preserved
values-preserved c = grind (arith, next_pair)

pub returns : goal.returns
returns c = grind (arith, all_turns, none_left)
