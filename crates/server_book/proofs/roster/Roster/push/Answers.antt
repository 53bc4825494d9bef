use Rattle.std.proofs.Common.{◌∙◌, ◌++◌, ◌∷◌, [], ap, List, ℕ}
use Rattle.server_book.specs.Places.{Connection}
use Rattle.server_book.proofs.Rosters.{pushed}
use Rattle.server_book.proofs.roster.Roster.push.Goals as goal

pub returns-clause-ok : goal.returns-clause-ok
returns-clause-ok c =
    let i = c.self.inside in
    pushed i.places.items i.quits.items c.make_room.new.words.items i.kept.items i.count
    c.args.connection c.push_reserved.new.self.items c.push_reserved-2.new.self.items
    (c.push_reserved.ensures.items
    ∙ ap (λ (ps : List ℕ). ps ++ i.count ∷ []) c.reserve.ensures.items)
    (c.push_reserved-2.ensures.items
    ∙ ap (λ (cs : List Connection). cs ++ c.args.connection ∷ []) c.reserve-2.ensures.items)
    c.self.invariant.0 c.make_room.ensures.bits
    ∙ ap (λ (all : List Connection). all ++ c.args.connection ∷ []) c.self.view_is
