use Rattle.std.proofs.Common.{ap, sym, ◌∙◌, ◌++◌}
use Rattle.track_table.specs.Table.{without_connection, TableState}
use Rattle.track_table.proofs.Parts.{whole_without_connection, without_connection_parts}
use Rattle.track_table.proofs.table.TrackTable.forget_connection.Goals as goal

pub invariant_of-self : goal.invariant_of-self
invariant_of-self c =
    whole_without_connection c.self.inside.limit c.self.inside.oldest.items c.self.inside.rows
    c.self.invariant c.args.id c.forget_among.new.rows.items c.forget_connection.new.self
    c.forget_among.ensures c.forget_connection.ensures

pub returns-clause-rows : goal.returns-clause-rows
returns-clause-rows c =
    (λ i. c.forget_among.ensures i ++ c.forget_connection.ensures i)
    ∙ sym (without_connection_parts c.args.id c.self.inside.oldest.items c.self.inside.rows)
    ∙ ap (λ (t : TableState). without_connection c.args.id t.rows) c.self.view_is
