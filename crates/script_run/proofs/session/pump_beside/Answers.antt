use Rattle.script_run.proofs.Crossing.{crossing}
use Rattle.script_run.proofs.session.pump_beside.Goals as goal

pub join-requires-send-F : goal.join-requires-send-F
join-requires-send-F g c κs within = search crossing depth 20

pub join-requires-send-A : goal.join-requires-send-A
join-requires-send-A g c κs within = search crossing depth 20
