use Rattle.std.proofs.Common.{◌≡◌, take}
use Rattle.resp_value.proofs.value.+copies.Given as goal

abbrev pub invariant-Pairs::copy-loop-key : goal.invariant-Pairs::copy-loop-key
invariant-Pairs::copy-loop-key l = l.out.items ≡ take l.key-index l.key-items

abbrev pub invariant-Values::copy-loop-value : goal.invariant-Values::copy-loop-value
invariant-Values::copy-loop-value l = l.out.items ≡ take l.value-index l.value-items
