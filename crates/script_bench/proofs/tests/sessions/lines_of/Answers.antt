use Rattle.std.proofs.Common.{sym, ◌∙◌}
use Rattle.script_bench.proofs.Lines.{one_more}
use Rattle.script_bench.proofs.tests.sessions.lines_of.Goals as goal

pub loop-line-preserved : goal.loop-line-preserved
loop-line-preserved c =
    one_more _ _ _ _ (sym c.in-Ok-Some.ensures ∙ c.in-Ok-Some.field-0-is)
    c.in_ok-push.ensures.items c.loop-line.invariant
