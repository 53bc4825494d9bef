use Rattle.std.proofs.Common.{◌≡◌, ◌+◌, ◌-◌, ◌<◌, ◌≤◌, ℕ, length, slice_index_or}
use Rattle.past_effects.specs.Ends.{settled_one}
use Rattle.past_effects.specs.Seen.{admitted_one}
use Rattle.past_effects.proofs.connections.Connections.settle.Given as goal

abbrev pub invariant-places : goal.invariant-places
invariant-places l = record {
  count : length l.self-inside.items.items ≡ length l.initial.self-inside.items.items;
  done : (k : ℕ) → k < l.place
      → slice_index_or l.self-inside.items.items k admitted_one
      ≡ settled_one l.causes l.sent (k + 1)
      (slice_index_or l.initial.self-inside.items.items k admitted_one);
  rest : (k : ℕ) → l.place ≤ k
      → slice_index_or l.self-inside.items.items k admitted_one
      ≡ slice_index_or l.initial.self-inside.items.items k admitted_one;
}

abbrev pub decreases-places : goal.decreases-places
decreases-places l = length l.self-inside.items.items - l.place
