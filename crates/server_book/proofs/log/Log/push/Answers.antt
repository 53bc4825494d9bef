use Rattle.std.proofs.Common.{◌≡◌, ◌≢◌, ◌+◌, ◌-◌, ◌<◌, ◌≤◌, ◌∷◌, ◌^◌, length, sym, ap, ◌∙◌, subst}
use Rattle.std.proofs.Common.{arith, length-append, vec_len, vec_capacity}
use Rattle.serial_model.specs.History.{latest}
use Rattle.server_book.specs.Log.{AreCounted, IsLog, LogState}
use Rattle.server_book.proofs.Keeping.{counted_more, has_counter, log_folded, log_more, place_fits}
use Rattle.server_book.proofs.log.Log.push.Goals as goal

pub count-requires : goal.count-requires
count-requires c =
    let i = c.self.inside in
    let numbers = c.self.invariant.0.numbers in
    has_counter i.counts.items i.past c.self.invariant.1 c.args.self.now
    (vec_capacity i.counts - vec_len i.counts) c.args.entry
    (sym (ap (λ (g : LogState). g.past) c.self.view_is))
    (ap (λ (g : LogState). g.ids) c.self.view_is)
    (subst (λ (g : LogState). length i.past + g.closable + g.free < 2 ^ 64) c.self.view_is
    (omega (arith, numbers))) c.requires

pub invariant_of-self : goal.invariant_of-self
invariant_of-self c =
    let i = c.self.inside in
    let e = c.args.entry in
    let g = c.self.invariant.0 in
    let room = vec_capacity i.recent - vec_len i.recent in
    let fits = place_fits c.args.self.now e room (length i.past) i.closable c.requires
    (ap (λ (x : LogState). x.closable) c.self.view_is)
    (ap (λ (x : LogState). x.free) c.self.view_is) g.closes g.numbers in
    let m = c.moment_with-moment.result in
    let k = c.closable_with-closable.result in
    let left = vec_capacity c.clear.new.self - vec_len c.clear.new.self in
    let now : m ≡ latest (e ∷ i.past) = c.moment_with-moment.ensures
    ∙ sym (ap (λ (x : LogState). latest (e ∷ x.past)) c.self.view_is) in
    let same : length i.recent.items + 1 ≡ i.most = grind (arith, length-append) in
    let closes : k ≤ left = grind (arith, fits) in
    let numbers : length i.past + 1 + k < 2 ^ 64 = grind (arith, fits) in
    subst (λ p. IsLog i.most c.moment_with-moment.result (i.base + i.most)
    c.closable_with-closable.result (vec_capacity c.clear.new.self - vec_len c.clear.new.self)
    c.clear.new.self.items p × AreCounted c.count.new.counts.items p) (sym c.record.ensures) (
      subst (λ es. IsLog i.most m (i.base + i.most) k left es (e ∷ i.past))
          (sym c.clear.ensures.items)
          (log_folded i.most i.moment i.base i.closable room i.recent.items i.past g e m k left now
          same closes numbers),
      subst (λ ns. AreCounted ns (e ∷ i.past)) (sym c.count.ensures)
          (counted_more i.counts.items i.past c.self.invariant.1 c.args.self.now e
          (sym (ap (λ (x : LogState). x.past) c.self.view_is)) c.requires),
    )

pub invariant_of-self-else-len-self : goal.invariant_of-self-else-len-self
invariant_of-self-else-len-self c =
    let i = c.self.inside in
    let e = c.args.entry in
    let g = c.self.invariant.0 in
    let room = vec_capacity i.recent - vec_len i.recent in
    let fits = place_fits c.args.self.now e room (length i.past) i.closable c.requires
    (ap (λ (x : LogState). x.closable) c.self.view_is)
    (ap (λ (x : LogState). x.free) c.self.view_is) g.closes g.numbers in
    let m = c.moment_with-moment.result in
    let k = c.closable_with-closable.result in
    let left = vec_capacity c.push_reserved.new.self - vec_len c.push_reserved.new.self in
    let now : m ≡ latest (e ∷ i.past) = c.moment_with-moment.ensures
    ∙ sym (ap (λ (x : LogState). latest (e ∷ x.past)) c.self.view_is) in
    let more : length i.recent.items + 1 ≢ i.most = grind (arith, length-append) in
    let closes : k ≤ left = grind (arith, fits) in
    let numbers : length i.past + 1 + k < 2 ^ 64 = grind (arith, fits) in
    subst (λ p. IsLog i.most c.moment_with-moment.result i.base
    c.closable_with-closable.result
    (vec_capacity c.push_reserved.new.self - vec_len c.push_reserved.new.self)
    c.push_reserved.new.self.items p × AreCounted c.count.new.counts.items p)
    (sym c.record.ensures) (
      subst (λ es. IsLog i.most m i.base k left es (e ∷ i.past))
          (sym c.push_reserved.ensures.items)
          (log_more i.most i.moment i.base i.closable room i.recent.items i.past g e m k left now
          more closes numbers),
      subst (λ ns. AreCounted ns (e ∷ i.past)) (sym c.count.ensures)
          (counted_more i.counts.items i.past c.self.invariant.1 c.args.self.now e
          (sym (ap (λ (x : LogState). x.past) c.self.view_is)) c.requires),
    )
