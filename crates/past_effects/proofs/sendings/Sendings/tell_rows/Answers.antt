use Rattle.std.proofs.Common.{◌<◌, ◌∙◌, ◌++◌, ◌∷◌, [], Some, ap, arith, length}
use Rattle.serial_model.specs.Tracking.{told_to}
use Rattle.past_effects.specs.Sendings.{told_sent}
use Rattle.past_effects.proofs.Groups.{rows_all, rows_next}
use Rattle.past_effects.proofs.Told.{unpassed_nobody}
use Rattle.past_effects.proofs.sendings.Sendings.tell_rows.Goals as goal

pub loop-place-preserved : goal.loop-place-preserved
loop-place-preserved c =
    let cs = c.args.connections.now in
    let rows = c.args.rows.now in
    let row = c.index-rows-place.result in
    let now = c.loop-place.self in
    let one = c.in_ok-one.one in
    let ids = c.holders.result.now in
    let lt : c.loop-place.place < length rows = omega arith in
    rows_next cs rows c.loop-place.place now _ c.loop-place.invariant c.tell.new.self row lt
    c.index-rows-place.is
    (c.in_ok-tell.ensures
    ∙ ap (λ l. now ++ told_sent cs l) (unpassed_nobody (told_to (Some one) ids))
    ∙ ap (λ l. now ++ told_sent cs (told_to (Some l) ids))
    (c.in_ok-one.ensures ∙ ap (λ k. k ∷ []) c.key.ensures)
    ∙ ap (λ l. now ++ told_sent cs (told_to (Some (row.key ∷ [])) l)) c.holders.ensures)

pub returns : goal.returns
returns c =
    rows_all c.args.connections.now c.args.rows.now c.loop-place.place c.loop-place.self _
    c.loop-place.invariant c.loop-place-test.false
