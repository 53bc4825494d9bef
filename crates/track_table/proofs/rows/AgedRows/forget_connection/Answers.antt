use Rattle.std.proofs.Common.{ap, sym, ◌∙◌}
use Rattle.track_table.specs.Aged.{rows_of}
use Rattle.track_table.specs.Table.{without_connection}
use Rattle.track_table.proofs.Coverings.{none_at, none_had}
use Rattle.track_table.proofs.Parts.{all_left}
use Rattle.track_table.proofs.rows.AgedRows.forget_connection.Goals as goal

pub returns-in_default : goal.returns-in_default
returns-in_default c =
    sym (all_left c.args.id (rows_of c.self.inside.rows.entries) c.self.invariant.indexed.table
    (none_at c.args.id c.self.inside.rows.entries c.self.invariant.indexed.ordered
    (none_had c.args.id c.self.inside.held.ages.entries c.self.inside.rows.entries
    c.self.invariant.covered c.in_default.ensures.ages)))
    ∙ ap (without_connection c.args.id) c.self.view_is
