use Rattle.std.proofs.Common.{take}
use Rattle.past_effects.proofs.Pasts.{HasFound}
use Rattle.past_effects.proofs.posts.sent_slow.Given as goal

abbrev pub invariant-loop-effect : goal.invariant-loop-effect
invariant-loop-effect l =
    HasFound l.limits l.id (take l.effect-index l.effects) l.scan l.posts.items
