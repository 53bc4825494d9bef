use Rattle.std.proofs.Common.{refl}
use Rattle.script_bench.proofs.Mapped.{one_more}
use Rattle.script_bench.proofs.map.map_of.Goals as goal

pub loop-number-preserved : goal.loop-number-preserved
loop-number-preserved c =
    one_more c.loop-number.number _ c.in_ok-key.field-0 c.loop-number.map c.insert.new.self
    c.in_ok-content.field-0 c.in_ok-key.ensures c.in_ok-content.ensures refl
    c.in_ok-insert.ensures.updates c.loop-number.invariant
