use Rattle.serve_run.specs.Reports.{tally_line}
use Rattle.serve_run.proofs.report.tally_line.Goals as goal

pub returns : goal.returns
unfolding tally_line
returns c = c.in_ok-format.ensures.ok
