use Rattle.std.proofs.Common.{sym, ◌∙◌}
use Rattle.server_book.proofs.Plans.{none_where}
use Rattle.server_book.proofs.plan.command_of.Goals as goal

pub returns-else-runs : goal.returns-else-runs
returns-else-runs c = λ mode is. sym (none_where _ (sym is ∙ c.if-runs.false))
