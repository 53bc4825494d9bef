use Rattle.std.proofs.Common.{arith, map}
use Rattle.resp_value.specs.Tree.{in_turn}
use Rattle.command_words.specs.KeyLists.{each_once}
use Rattle.string_cmds.proofs.KeysOnce.{all_fresh, looked_on}
use Rattle.string_cmds.proofs.keys.few_once.Goals as goal

pub keys-init : goal.keys-init
keys-init c = grind (arith, all_fresh)

pub keys-preserved : goal.keys-preserved
keys-preserved c =
    looked_on c.key-item.result c.keys.keys c.keys.left.now
    (each_once (map (λ p. p.0) (in_turn c.args.words.now))) c.in-len2-up.len_at_least
    c.key-item.is c.keys.invariant c.push_once.new.keys c.in_ok-push_once.ensures
