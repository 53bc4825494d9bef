use Rattle.std.proofs.Common.{◌<◌, ap, sym, ◌∙◌, arith, length, take}
use Rattle.track_table.specs.Table.{without_key, without_keys}
use Rattle.track_table.proofs.Asides.{last_without, nobody_left, none_held}
use Rattle.track_table.proofs.Lookups.{one_more}
use Rattle.track_table.proofs.table.TrackTable.remembers_any.Goals as goal

pub loop-place-preserved : goal.loop-place-preserved
loop-place-preserved c =
    let rows = c.args.self.now.rows in
    let keys = c.args.keys.now in
    let k = c.loop-place.place in
    let lt : k < length keys = omega (arith, c.loop-place-test.true) in
    let more = one_more keys k c.index-keys-place.result c.as_slice.result.now c.as_slice.ensures lt
    c.index-keys-place.is in
    ap (λ l. without_keys l rows) more
    ∙ last_without (take k keys) _ rows
    ∙ ap (without_key c.as_slice.result.now) c.loop-place.invariant
    ∙ none_held c.as_slice.result.now rows c.requires.held
    (sym c.holders.ensures.list
    ∙ nobody_left c.holders.result.now c.is_empty.result c.is_empty.ensures
    c.if-not-is_empty.false)
