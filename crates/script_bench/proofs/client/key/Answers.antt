use Rattle.std.proofs.Common.{refl, arith}
use Rattle.script_bench.proofs.Keys.{key_begins, key_goes_on, key_ends}
use Rattle.script_bench.proofs.client.key.Goals as goal

pub loop-init : goal.loop-init
loop-init c = key_begins _ c.args.number c.in_ok-bytes.ensures.items

pub loop-preserved : goal.loop-preserved
loop-preserved c =
    key_goes_on c.args.number _ c.loop.rest c.loop.counter _ _ c.loop-test.true c.loop.invariant
    refl c.in_ok-push.ensures.items

pub returns : goal.returns
returns c =
    key_ends c.args.number c.loop.rest c.loop.counter c.loop.bytes.items
    (omega (arith, c.loop-test.false, c.loop.auto.counter-end)) c.loop.invariant
