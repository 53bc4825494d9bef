use Rattle.std.proofs.Common.{◌<◌, ap, sym, ◌∙◌, arith, length, take, ◌+◌, ◌-◌, ◌≡◌}
use Rattle.track_table.specs.Table.{all_released}
use Rattle.track_table.proofs.Releases.{last_released}
use Rattle.track_table.proofs.Lookups.{one_more}
use Rattle.track_table.proofs.table.TrackTable.release_all.Goals as goal

pub keys-preserved : goal.keys-preserved
keys-preserved c =
    let keys = c.args.keys.now in
    let n = c.keys.left - 1 in
    let lt : n < length keys = omega (arith, c.keys-test.true, c.keys.invariant.within) in
    let next : n + 1 ≡ c.keys.left = omega (arith, c.keys-test.true) in
    let more = one_more keys n c.index-keys-left.result c.as_slice.result.now c.as_slice.ensures lt
    c.index-keys-left.is in record {
      limit = c.release.ensures.limit ∙ c.keys.invariant.limit;
      within = omega (arith, c.keys.invariant.within);
      rows =
          ap (all_released c.args.id (take n keys)) c.release.ensures.rows
          ∙ sym (last_released c.args.id (take n keys) c.as_slice.result.now c.keys.self.rows)
          ∙ sym (ap (λ ks. all_released c.args.id ks c.keys.self.rows)
          (sym (ap (λ m. take m keys) next) ∙ more))
          ∙ c.keys.invariant.rows;
    }
