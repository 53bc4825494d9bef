use Rattle.storm_run.proofs.Storming.{no_other}
use Rattle.storm_run.proofs.play.play_event.Goals as goal

pub unreachable-requires : goal.unreachable-requires
unreachable-requires c =
    no_other c.args.world.now c.args.event.now c.requires.played c.in-Err.fault _ _ _
    c.in-Err.ensures.gives c.in_default.not-NoMemory c.in_default.not-HistoryFull
