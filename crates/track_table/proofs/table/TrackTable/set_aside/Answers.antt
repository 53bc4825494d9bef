use Rattle.std.proofs.Common.{◌<◌, ap, sym, ◌∙◌, arith, length, take}
use Rattle.track_table.specs.Table.{without_key, without_keys}
use Rattle.track_table.specs.Aside.{all_put}
use Rattle.track_table.proofs.Asides.{last_without, room_for}
use Rattle.track_table.proofs.Lookups.{one_more}
use Rattle.track_table.proofs.table.TrackTable.set_aside.Goals as goal

pub put_back-requires-clause-room : goal.put_back-requires-clause-room
put_back-requires-clause-room c =
    let same = c.in-Err.ensures.err in λ some.
    room_for c.part.new.parted.items c.part.new.self.rows c.args.self.now.rows _
    ((λ i. all_put (same.1 i) (same.0 i)) ∙ c.loop-place.invariant.back)
    (omega (arith, c.in_ok-spare.ensures.capacity, c.len-count.ensures.count))

pub loop-place-preserved : goal.loop-place-preserved
loop-place-preserved c =
    let rows = c.args.self.now.rows in
    let keys = c.args.keys.now in
    let k = c.loop-place.place in
    let lt : k < length keys = omega (arith, c.loop-place-test.true) in
    let more = one_more keys k c.index-keys-place.result c.as_slice.result.now c.as_slice.ensures lt
    c.index-keys-place.is in record {
      limit = c.in-Ok.ensures.limit ∙ c.loop-place.invariant.limit;
      rows =
          c.in-Ok.ensures.rows
          ∙ ap (without_key c.as_slice.result.now) c.loop-place.invariant.rows
          ∙ sym (last_without (take k keys) _ rows)
          ∙ ap (λ l. without_keys l rows) (sym more);
      back = c.in-Ok.ensures.back ∙ c.loop-place.invariant.back;
    }

pub returns-clause-room : goal.returns-clause-room
returns-clause-room c = λ some.
    room_for c.loop-place.parted.items c.loop-place.self.rows c.args.self.now.rows _
    c.loop-place.invariant.back
    (omega (arith, c.in_ok-spare.ensures.capacity, c.len-count.ensures.count))
