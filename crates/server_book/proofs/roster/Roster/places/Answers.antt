use Rattle.std.proofs.Common.{◌∙◌, List, ℕ, ap, arith, length, subst, sym}
use Rattle.server_book.specs.Places.{Connection}
use Rattle.server_book.specs.Roster.{AreKept, seen}
use Rattle.server_book.proofs.Rosters.{are_kept, listed_length}
use Rattle.server_book.proofs.roster.Roster.places.Goals as goal

pub returns-clause-kept : goal.returns-clause-kept
returns-clause-kept c =
    let i = c.self.inside in
    subst (λ (ps : List ℕ). AreKept c.args.self.now ps) (sym c.as_slice.ensures.value)
    (subst (λ (all : List Connection). AreKept all i.places.items) c.self.view_is
    (are_kept i.places.items i.kept.items i.quits.items i.count c.self.invariant.0))

pub returns-clause-below : goal.returns-clause-below
returns-clause-below c =
    let i = c.self.inside in
    let count = sym (listed_length (seen i.places.items i.kept.items i.quits.items) 0 i.count)
    ∙ ap length c.self.view_is in
    omega (arith, c.self.invariant.0.below, count)
