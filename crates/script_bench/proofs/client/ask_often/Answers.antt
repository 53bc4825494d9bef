use Rattle.script_bench.proofs.Asking.{asks_then}
use Rattle.script_bench.proofs.client.ask_often.Goals as goal

pub loop-place-preserved : goal.loop-place-preserved
loop-place-preserved g c =
    asks_then _ c.loop-place.place c.loop-place.hits _ _ _ _ _ c.loop-place.invariant
    (c.spread.result, c.spread.ensures.below, c.in-Ok.ensures) c.ask_once.ensures
    c.saturating_add-hits.ensures
