use Rattle.std.proofs.Common.{◌≡◌, ◌+◌, ◌≤◌, length}
use Rattle.past_effects.specs.Sendings.{bytes_for}
use Rattle.past_effects.proofs.sendings.waiting_with.Given as goal

abbrev pub invariant-sent : goal.invariant-sent
invariant-sent l = record {
  few : l.sum ≤ l.most;
  whole : l.sum + bytes_for l.id l.left ≡ l.waiting + bytes_for l.id l.sent;
}

abbrev pub decreases-sent : goal.decreases-sent
decreases-sent l = length l.left
