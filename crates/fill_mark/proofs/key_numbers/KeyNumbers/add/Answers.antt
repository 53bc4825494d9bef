use Rattle.std.proofs.Common.{ap, ◌∙◌, ◌++◌, ◌∷◌, []}
use Rattle.std.specs.FinMap.{insert}
use Rattle.fill_mark.specs.Tables.{marked_among}
use Rattle.fill_mark.proofs.Keyed.{put_seen}
use Rattle.fill_mark.proofs.key_numbers.KeyNumbers.add.Goals as goal

pub returns-clause-ok : goal.returns-clause-ok
returns-clause-ok c =
    let key = c.in_ok-from_slice.field-0 in
    let numbers = c.in_ok-push.ensures.items
    ∙ ap (λ l. l ++ c.args.number ∷ [])
    (c.in_ok-numbers.ensures ∙ ap (marked_among c.args.marks.now) c.numbers.ensures) in
    put_seen key.items c.self.inside.table c.insert.new.self c.push.new.self
    c.in_ok-insert.ensures.updates
    ∙ (λ i. insert (c.self.view_is i) (c.in_ok-from_slice.ensures.items i) (numbers i))
