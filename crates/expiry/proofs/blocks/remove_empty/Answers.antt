use Rattle.std.proofs.Common.{arith, ◌≡◌, ◌<◌, List, [], ◌∷◌, length, refl, ap, ◌∙◌}
use Rattle.std.proofs.lemmas.Bool.Decides.{nat_tests}
use Rattle.std.proofs.lemmas.List.{get_or_read}
use Rattle.expiry.specs.declared.index.Deadline.{Deadline}
use Rattle.expiry.specs.Blocks.{block_at, joined}
use Rattle.expiry.proofs.Joined.{held_back, joined_remove}
use Rattle.expiry.proofs.blocks.remove_empty.Goals as goal

no_length : (ds : List Deadline) → length ds ≡ 0 → ds ≡ []
no_length [] e = refl
no_length (d ∷ ds) e = absurd (omega arith)

pub returns-then-is_empty-clause-same : goal.returns-then-is_empty-clause-same
returns-then-is_empty-clause-same c =
    let none : length (block_at c.args.blocks.now.items c.args.place) ≡ 0 =
    grind (arith, nat_tests, get_or_read) in
    ap joined c.remove.ensures.items ∙ joined_remove _ _ c.requires.there (no_length _ none)

pub returns-else-is_empty-clause-held : goal.returns-else-is_empty-clause-held
returns-else-is_empty-clause-held c =
    let some : 0 < length (block_at c.args.blocks.now.items c.args.place) =
    grind (arith, nat_tests, get_or_read) in
    held_back _ _ c.requires.held c.requires.there some
