use Rattle.std.proofs.Common.{◌∙◌, ap, length, sym}
use Rattle.server_book.specs.Roster.{seen}
use Rattle.server_book.proofs.Rosters.{listed_length}
use Rattle.server_book.proofs.roster.Roster.len.Goals as goal

pub returns-clause-count : goal.returns-clause-count
returns-clause-count c =
    let i = c.self.inside in
    sym (listed_length (seen i.places.items i.kept.items i.quits.items) 0 i.count)
    ∙ ap length c.self.view_is
