use Rattle.std.proofs.Common.{◌<◌, ap, sym, ◌∙◌, arith, length, take}
use Rattle.track_table.specs.Table.{remembered, with_keys}
use Rattle.track_table.proofs.Releases.{last_remembered}
use Rattle.track_table.proofs.Lookups.{one_more}
use Rattle.track_table.proofs.table.TrackTable.remember_all.Goals as goal

pub loop-place-preserved : goal.loop-place-preserved
loop-place-preserved c =
    let rows = c.args.self.now.rows in
    let keys = c.args.keys.now in
    let k = c.loop-place.place in
    let lt : k < length keys = omega (arith, c.loop-place-test.true) in
    let more = one_more keys k c.index-keys-place.result c.as_slice.result.now c.as_slice.ensures lt
    c.index-keys-place.is in record {
      limit = c.in-Ok.ensures.limit ∙ c.loop-place.invariant.limit;
      rows =
          c.in-Ok.ensures.ok
          ∙ ap (remembered c.args.id c.as_slice.result.now) c.loop-place.invariant.rows
          ∙ sym (ap (λ ks. with_keys c.args.id ks rows) more
          ∙ last_remembered c.args.id (take k keys) _ rows);
      back = c.in-Ok.ensures.back ∙ c.loop-place.invariant.back;
    }
