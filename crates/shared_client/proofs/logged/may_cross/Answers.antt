use denote.Param.Send.{sendable}
use Rattle.shared_client.proofs.Crossing.{shared_send}
use Rattle.shared_client.proofs.logged.may_cross.Goals as goal

pub is_send-requires-send-T : goal.is_send-requires-send-T
is_send-requires-send-T c κs = search (sendable, shared_send) depth 8
