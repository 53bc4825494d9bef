use Rattle.std.proofs.Common.{arith}
use Rattle.world_run.proofs.Replied.{named_here, named_to, named_within, not_named, without}
use Rattle.world_run.proofs.member.Member.replied_past.Goals as goal

pub replies-preserved-in_default : goal.replies-preserved-in_default
replies-preserved-in_default c = grind (arith, without)

pub returns-then-entry-least : goal.returns-then-entry-least
returns-then-entry-least c = grind (arith, named_within, named_to)

pub returns-then-branch : goal.returns-then-branch
returns-then-branch c = grind (arith, named_here, named_to)

pub replies-preserved : goal.replies-preserved
replies-preserved c = grind (arith, not_named)
