-- A client's seat and what its threads share may cross threads.
use denote.Param.Send.{sendable}
use Rattle.std.proofs.alloc.Global.TheSendSync as heap
use Rattle.std.proofs.Crossing.{frees}
use Rattle.turn_lock.proofs.lock.Seat.TheSendSync as seat
use Rattle.turn_lock.proofs.lock.TurnLock.TheSendSync as lock
use Rattle.shared_client.proofs.Crossing.{shared_send}

pub ruleset crossing =
    (sendable, heap.the_send, heap.the_sync, frees, shared_send, seat.the_send, lock.the_sync)
