use Rattle.std.proofs.Common.{◌≡◌, ◌∙◌, ◌≤◌, ap, arith, length, refl, slice_index_or, subst}
use Rattle.server_book.specs.Connections.{ConnectionsState}
use Rattle.server_book.specs.Places.{fresh}
use Rattle.server_book.specs.Roster.{AreKept}
use Rattle.server_book.proofs.Walking.{all_track, none_track, track_one}
use Rattle.server_book.proofs.connections.Connections.tracking.Goals as goal
use Rattle.server_book.proofs.connections.Connections.tracking.Goals.{then-tracks+in_ok-push}
use Rattle.server_book.proofs.connections.Connections.tracking.Goals.{else-tracks}

pub loop-nth-init : goal.loop-nth-init
loop-nth-init c =
    let ps = c.places-places.result.now in
    let kept = subst (λ (s : ConnectionsState). AreKept s.items ps) c.self.view_is
    c.places-places.ensures.kept in
    c.new-ids.ensures.items ∙ none_track c.args.self.now.items ps kept

pub overflow_add-place : goal.overflow_add-place
overflow_add-place c =
    omega (
      arith,
      c.places-places.ensures.below,
      c.places-places.ensures.kept.there c.loop-nth.nth c.loop-nth-test.true,
    )

pub loop-nth-preserved : goal.loop-nth-preserved
loop-nth-preserved c =
    let all = c.args.self.now.items in
    let ps = c.places-places.result.now in
    let n = c.loop-nth.nth in
    let place = slice_index_or ps n 0 in
    let kept = subst (λ (s : ConnectionsState). AreKept s.items ps) c.self.view_is
    c.places-places.ensures.kept in
    let read : c.get.result.now ≡ slice_index_or all place fresh = c.get.ensures
    ∙ ap (λ (s : ConnectionsState). slice_index_or s.items place fresh) c.self.view_is in
    let next = track_one all ps c.loop-nth.ids.items c.if-tracks.ids.items n place
    c.get.result.now c.tracks.result kept c.loop-nth-test.true refl read c.tracks.ensures
    c.loop-nth.invariant in
    elim c.if-tracks.branch [
      | then-tracks+in_ok-push w ↦
          next (rw (w.ids-is, w.if-tracks.true) w.in_ok-push.ensures.items)
      | else-tracks w ↦
          next (rw (w.ids-is, w.if-tracks.false) refl)
    ]

pub returns : goal.returns
returns c =
    let ps = c.places-places.result.now in
    let kept = subst (λ (s : ConnectionsState). AreKept s.items ps) c.self.view_is
    c.places-places.ensures.kept in
    c.loop-nth.invariant
    ∙ all_track c.args.self.now.items ps c.loop-nth.nth
    (let past : length ps ≤ c.loop-nth.nth = c.loop-nth-test.false in past)
