-- Answers, seats and what their threads share may cross threads.
use denote.Param.Send.{IsSend, IsSync, sendable, view_send}
use denote.Param.SendFields.{declared_send, declared_sync, as_row_send}
use Rattle.std.proofs.vec.Vec.TheSendSync as vec
use Rattle.std.proofs.collections.VecDeque.TheSendSync as deque
use Rattle.std.proofs.alloc.Global.TheSendSync as heap
use Rattle.std.proofs.Crossing.{frees}
use Rattle.resp_value.proofs.octets.Octets.TheSendSync as octets
use Rattle.resp_value.proofs.value.Pairs.TheLaws.TheKnot.{crosses}
use Rattle.turn_lock.proofs.lock.Seat.TheSendSync as seat
use Rattle.turn_lock.proofs.lock.TurnLock.TheSendSync as lock
use Rattle.script_text.proofs.script_line.ScriptLine.TheSendSync as line
use Rattle.client_link.proofs.waiters.Waiters.TheSendSync as waiters
use Rattle.client_link.proofs.pump_end.PumpEnd.TheSendSync as ended
use Rattle.shared_client.proofs.Crossing.{shared_send}
use Rattle.script_run.specs.contracts.answer.Answer as answer
use Rattle.script_run.specs.contracts.callers.Answers as answers
use Rattle.script_run.specs.contracts.callers.Board as board
use Rattle.script_run.specs.contracts.callers.Task as task
use Rattle.script_run.proofs.session.PumpedLink.TheSendSync as pumped
use Rattle.script_run.specs.contracts.callers.Answers.TheInside as answers_parts

pub ruleset vectors = (vec.the_send, vec.the_sync, heap.the_send, heap.the_sync, frees)

answer_send : IsSend answer.the_row
answer_send = search (sendable, crosses, vectors, octets.the_send) depth 20 fits 100000

answers_inside : IsSend answers_parts.the_row
answers_inside =
    declared_send answers_parts.the_type (
      search (sendable, deque.the_send, heap.the_send, frees, answer_send, as_row_send) depth 10,
      tt,
    )

pub answers_send : IsSend answers.the_row
answers_send = view_send _ _ _ _ _ answers_inside

pub board_sync : IsSync board.the_row
board_sync =
    declared_sync board.the_type (
      search (sendable, waiters.the_sync) depth 20,
      (search sendable depth 20, (search (sendable, vectors, line.the_sync) depth 20, tt)),
    )

pub task_send : IsSend task.the_row
task_send =
    declared_send task.the_type (
      search (sendable, heap.the_send) depth 20,
      (
        search sendable depth 20,
        (
          search (sendable, seat.the_send, shared_send) depth 20,
          (search (sendable, vectors, answers_send) depth 20, tt),
        ),
      ),
    )

pub ruleset crossing = (
  sendable,
  vectors,
  shared_send,
  answers_send,
  board_sync,
  seat.the_send,
  lock.the_sync,
  line.the_sync,
  waiters.the_sync,
  ended.the_send,
  pumped.the_send,
)
