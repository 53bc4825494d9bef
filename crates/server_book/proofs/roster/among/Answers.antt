use Rattle.std.proofs.Common.{arith, inl, inr, Err}
use Rattle.std.proofs.lemmas.Bool.{cases_lt}
use Rattle.std.proofs.lemmas.List.Sorted.{searched}
use Rattle.server_book.proofs.Rosters.{rise_below}
use Rattle.server_book.proofs.roster.among.Goals as goal

pub returns-in-Err : goal.returns-in-Err
returns-in-Err c k lt is =
    let ps = c.args.places.now in
    let at = c.in-Err.field-0 in
    let found = searched ps c.args.place (Err at) c.in-Err.ensures.position
    (rise_below ps c.requires) in
    elim (cases_lt k at) [
      | inl low ↦ let no : ⊥ = omega (arith, found.1 k low, is) in no
      | inr high ↦ let no : ⊥ = omega (arith, found.2 k high lt, is) in no
    ]
