use Rattle.turn_lock.proofs.Turns.{none_turned, all_turned}
use Rattle.turn_lock.proofs.lock.TurnLock.play_all.Goals.{in-Ok-next_tickets, in-Err}
use Rattle.turn_lock.proofs.lock.TurnLock.play_all.Goals as goal
use Rattle.std.proofs.Common.{arith}

pub returns-then-is_empty-clause-all : goal.returns-then-is_empty-clause-all
returns-then-is_empty-clause-all g c = grind (arith, none_turned)

pub returns-clause-all : goal.returns-clause-all
returns-clause-all g c = elim c.match-next_tickets.branch [
  | in-Ok-next_tickets w ↦ rw (w.result-is, w.seat-inside-is)
      (all_turned g.S.Logged.step c.args.calls.items w.take_turns.new.replies.items
      c.seat.inside.place.table_id c.next_tickets.new.place.table_id c.seat.inside.place.me.0
      c.next_tickets.new.place.me _ c.args.seat.now _ _ _ w.in-Ok-next_tickets.ensures.ok
      c.next_tickets.ensures.same.0 c.seat.view_is w.take_turns.ensures.turns)
  | in-Err w ↦ rw w.result-is tt
]
