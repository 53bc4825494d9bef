use denote.Param.Send.{IsSend, IsSync, param_send}
use contract.Lifetimes.{Lfts}
use Rattle.std.proofs.Common.{refl, rules, arith, ◌-◌}
use Rattle.script_bench.proofs.Asking.{asks_joined}
use Rattle.script_bench.proofs.Crossing.{crossing}
use Rattle.script_bench.proofs.client.+ask_in_threads+fn-ask_in_threads-join+arg3 as cycle
use Rattle.script_bench.proofs.client.+ask_in_threads+fn-ask_in_threads-join+arg3.Given.{Over}
use Rattle.script_bench.proofs.client.+ask_in_threads+fn-ask_in_threads-join+arg3.Goals as goal

-- the first thread's work may cross
asker_send : (g : Over) (κs : Lfts 17) → IsSync g.row.R
    → IsSend (cycle.Lts-ask_in_threads.arg-3-1 g.row.R g.R.laws g.R.Threads-dict g.R.Wait-dict κs)
asker_send g κs sync = search crossing depth 20

pub join-mine-requires-send-F : goal.join-mine-requires-send-F
join-mine-requires-send-F g t c κs within = param_send 1 _ (asker_send g κs (search rules))

pub join-mine-requires-send-A : goal.join-mine-requires-send-A
join-mine-requires-send-A g t c κs within = search crossing depth 20

pub returns : goal.returns
returns g t c =
    let cut = c.split_off-other in
    let both = c.join-mine in
    asks_joined c.args.seat cut.new.seat cut.result cut.result.number cut.ensures.old
    cut.ensures.new (omega (arith, c.if-parts-lt2.false, c.parts.ensures.value)) _ _ _
    c.join.ensures.both c.join.ensures.seen.0 c.join.ensures.seen.1 c.args.threads
    (c.args.threads - 1) c.args.times _ _ _ (omega (arith, c.if-threads-le1.false)) refl
    both.ensures.first both.ensures.second c.saturating_add.ensures
