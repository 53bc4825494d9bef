use Rattle.std.proofs.Common.{◌≡◌, ℕ, ◌≤◌}
use Rattle.turn_lock.proofs.steps.next_tickets.Given as goal

abbrev pub invariant-loop : goal.invariant-loop
invariant-loop g l =
    (goal.iterator-loop g).can_next l.iterator' × (goal.iterator-loop g).is_finite l.iterator'
    × (l.place.table_id ≡ l.initial.place.table_id) × (l.place.id ≡ l.initial.place.id)
    × ((n : ℕ) × (l.place.me ≡ (record l.initial.place.me.0 { tickets = n }, l.initial.place.me.1))
    × (l.initial.place.me.0.tickets ≤ n))
