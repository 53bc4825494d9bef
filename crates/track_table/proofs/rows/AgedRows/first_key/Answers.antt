use Rattle.std.proofs.Common.{ap, ◌∙◌, Some}
use Rattle.track_table.specs.Aside.{first_key}
use Rattle.track_table.proofs.Asides.{first_of}
use Rattle.track_table.proofs.rows.AgedRows.first_key.Goals as goal

pub returns-in_ok-copy-in-Some : goal.returns-in_ok-copy-in-Some
returns-in_ok-copy-in-Some c =
    ap (λ k. Some k) c.in_ok-copy-in-Some.ensures
    ∙ first_of (c.in-Some.field-0-0.now, c.in-Some.row.now) c.self.inside.rows.entries
    c.in-Some.ensures.first
    ∙ ap first_key c.self.view_is
