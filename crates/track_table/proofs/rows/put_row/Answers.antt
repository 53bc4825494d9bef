use Rattle.std.proofs.Common.{ap, ◌∙◌}
use Rattle.std.specs.Map.{remove_entry}
use Rattle.track_table.proofs.Aged.{at_age, removed_last}
use Rattle.track_table.proofs.rows.put_row.Goals as goal

pub returns-in-Err-clause-err : goal.returns-in-Err-clause-err
returns-in-Err-clause-err c = (
  c.take_out.ensures.entries
      ∙ ap (remove_entry (at_age c.args.age)) c.in_ok-put_last.ensures.ok
      ∙ removed_last c.args.age c.args.row c.args.rows.now.entries c.requires,
  c.in-Err.ensures.err.0,
  c.in-Err.ensures.err.1,
)
