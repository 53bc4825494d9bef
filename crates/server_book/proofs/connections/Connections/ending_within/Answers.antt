use Rattle.std.proofs.Common.{◌≡◌, ◌<◌, ◌+◌, ap, ◌∙◌, arith, length, subst, sym, take}
use Rattle.std.proofs.Common.{refl}
use Rattle.std.proofs.lemmas.List.{take_all}
use Rattle.server_book.specs.Connections.{ArePosted, ConnectionsState}
use Rattle.server_book.proofs.Endings.{AreWithin, are_within, posted_at, within_more, within_wider}
use Rattle.server_book.proofs.connections.Connections.ending_within.Goals as goal
use Rattle.server_book.proofs.connections.Connections.ending_within.Goals.{then-is_past}
use Rattle.server_book.proofs.connections.Connections.ending_within.Goals.{else-is_past}

pub loop-place-preserved : goal.loop-place-preserved
loop-place-preserved c =
    let s = c.args.self.now in
    let limit = c.args.ends.limit in
    let ps = c.deref-post-items.result.now in
    let k = c.loop-place.place in
    let h = c.loop-place.invariant in
    let same : ps ≡ s.posts = c.deref-post-items.ensures.value
    ∙ ap (λ (x : ConnectionsState). x.posts) c.self.view_is in
    let lt : k < length ps = c.loop-place-test.true in
    let posted : AreWithin limit s.items (take k ps) c.loop-place.after c.loop-place.last =
    subst (λ qs. AreWithin limit s.items (take k qs) c.loop-place.after c.loop-place.last)
    (sym same) h.posted in
    let after = c.if-is_past.after in
    let last = c.if-is_past.last in
    let all : ArePosted s.items ps = subst (ArePosted s.items) (sym same)
    (subst (λ (x : ConnectionsState). ArePosted x.items x.posts) c.self.view_is
    c.self.invariant.there) in
    elim c.if-is_past.branch [
      | then-is_past w ↦
          let on = posted_at limit s.items ps k _ _ c.is_past.ensures lt all in
          record {
            after_there = omega (arith, h.after_there, w.after-is, w.min-after.ensures);
            last_there = omega (arith, h.last_there, w.last-is, w.max-last.ensures, on.1);
            by = λ q. let both = h.by q in (
              omega (arith, both.0, w.after-is, w.min-after.ensures),
              omega (arith, both.1, w.last-is, w.max-last.ensures),
            );
            posted =
                subst (λ qs. AreWithin limit s.items (take (k + 1) qs) after last) same
                (within_more limit s.items ps k (k + 1) after last _ _
                c.is_past.ensures lt refl
                (within_wider limit s.items (take k ps) c.loop-place.after c.loop-place.last
                after last
                (omega (arith, w.after-is, w.min-after.ensures))
                (omega (arith, w.last-is, w.max-last.ensures)) posted)
                (λ past. (
                  omega (arith, w.after-is, w.min-after.ensures, on.0),
                  omega (arith, w.last-is, w.max-last.ensures),
                )));
          }
      | else-is_past w ↦ record {
        after_there = omega (arith, h.after_there, w.after-is);
        last_there = omega (arith, h.last_there, w.last-is);
        by = λ q. let both = h.by q in (
          omega (arith, both.0, w.after-is),
          omega (arith, both.1, w.last-is),
        );
        posted =
            subst (λ qs. AreWithin limit s.items (take (k + 1) qs) after last) same
            (within_more limit s.items ps k (k + 1) after last _ _
            c.is_past.ensures lt refl
            (within_wider limit s.items (take k ps) c.loop-place.after c.loop-place.last
            after last
            (omega (arith, w.after-is)) (omega (arith, w.last-is)) posted)
            (λ past. absurd (let no : ⊥ = cc (past, c.is_past.ensures, w.if-is_past.false) in no)));
      }
    ]

pub returns : goal.returns
returns c =
    let s = c.args.self.now in
    let same : length c.deref-post-items.result.now ≡ length s.posts =
    ap length c.deref-post-items.ensures.value
    ∙ ap (λ (x : ConnectionsState). length x.posts) c.self.view_is in
    let h = c.loop-place.invariant in
    are_within c.args.ends s.items s.posts c.loop-place.after c.loop-place.last c.max.result
    c.if-ends.false h.by
    (subst (λ qs. AreWithin c.args.ends.limit s.items qs c.loop-place.after c.loop-place.last)
    (take_all c.loop-place.place s.posts (omega (arith, c.loop-place-test.false, same)))
    h.posted)
    c.requires.posted h.after_there h.last_there c.max.ensures
