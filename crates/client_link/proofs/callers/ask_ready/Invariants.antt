use Rattle.std.proofs.Common.{[]}
use Rattle.turn_lock.specs.Own.{Grows}
use Rattle.client_link.proofs.callers.ask_ready.Given as goal

abbrev pub invariant-loop : goal.invariant-loop
invariant-loop g l =
    (goal.iterator-loop g).can_next l.iterator' × (goal.iterator-loop g).is_finite l.iterator'
    × Grows l.initial.seat l.seat []
