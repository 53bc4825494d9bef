use Rattle.client_library.proofs.TurnLaws.{ends_always}
use Rattle.client_library.proofs.turns.close.Goals as goal

pub unreachable-requires : goal.unreachable-requires
unreachable-requires c =
    ends_always c.args.state.now.setup c.args.state.now.past c.in-Err.ensures.room
