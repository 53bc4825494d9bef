use Rattle.std.proofs.Common.{◌≡◌, ◌+◌, ◌++◌, ◌≤◌, ◌^◌, length, replicate}
use Rattle.shared_cache.specs.declared.entry.PendingReply.TheVariants.{Gone}
use Rattle.shared_cache.proofs.pending.PendingReplies.drop_front.Given as goal

abbrev pub invariant-loop-self : goal.invariant-loop-self
invariant-loop-self l =
    record {
      same : replicate l.self-inside.gone Gone ++ l.self-inside.rest.items
          ≡ replicate l.initial.self-inside.gone Gone ++ l.initial.self-inside.rest.items;
      within : l.self-inside.gone + length l.self-inside.rest.items ≤ 2 ^ 62;
    }

abbrev pub decreases-loop-self : goal.decreases-loop-self
decreases-loop-self l = length l.self-inside.rest.items
