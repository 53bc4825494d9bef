use Rattle.std.proofs.Common.{◌≡◌, ◌+◌, max, length}
use Rattle.shared_cache.specs.declared.log.Wire.TheVariants.{Main}
use Rattle.shared_cache.specs.Log.{replies}
use Rattle.world_run.proofs.Replied.{named_to}
use Rattle.world_run.proofs.member.Member.replied_past.Given as goal

-- the entries of the replies past those that are left are no greater than `least`
abbrev pub invariant-replies : goal.invariant-replies
invariant-replies l =
    max l.least (named_to (l.self.main + 1) l.links.past l.key l.left)
    ≡ max l.least (named_to (l.self.main + 1) l.links.past l.key
    (length (replies l.self.state.setup.mode Main l.self.state.past)))

abbrev pub decreases-replies : goal.decreases-replies
decreases-replies l = l.left
