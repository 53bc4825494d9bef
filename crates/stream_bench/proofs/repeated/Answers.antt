use Rattle.std.proofs.Common.{sym, ap, ◌∙◌, arith}
use Rattle.stream_bench.specs.Reading as reading
use Rattle.stream_bench.proofs.Repeating.{not_once, one_longer}
use Rattle.stream_bench.proofs.repeated.Goals as goal

pub loop-init : goal.loop-init
loop-init c = c.new-piece.ensures.items ∙ sym (not_once c.args.bytes.now)

pub loop-preserved : goal.loop-preserved
loop-preserved c =
    one_longer c.args.bytes.now c.loop.counter _ _ c.loop.invariant c.in-Ok.ensures.items

pub returns-clause-ok : goal.returns-clause-ok
returns-clause-ok c =
    c.loop.invariant
    ∙ ap (λ n. reading.repeated n c.args.bytes.now)
    (omega (arith, c.loop-test.false, c.loop.auto.counter-end))
