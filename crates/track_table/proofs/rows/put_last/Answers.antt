use Rattle.std.proofs.Common.{◌∙◌}
use Rattle.track_table.proofs.Aged.{inserted_last}
use Rattle.track_table.proofs.rows.put_last.Goals as goal

pub returns-clause-ok : goal.returns-clause-ok
returns-clause-ok c =
    c.in_ok-insert.ensures.entries
    ∙ inserted_last c.args.age c.args.row c.args.rows.now.entries c.requires
