use Rattle.std.proofs.Common.{arith, ap, ◌∙◌, ◌++◌, ◌∷◌, [], length, sym}
use Rattle.std.proofs.lemmas.List.{take_all}
use Rattle.resp_value.specs.Spelling.{counted, head}
use Rattle.out_queue.proofs.Ends.{two_added, blob_added, blob_counted, spelling_counted}
use Rattle.out_queue.proofs.OutQueue.add_blob.Goals as goal

pub invariant_of-self-2 : goal.invariant_of-self-2
invariant_of-self-2 c = (
  blob_counted c.in-Some.size c.self.inside.older_size _ _ _ _ _ _
      (two_added c.self.inside.older.items _ _ _ _ _ _ _ c.in_ok-reserve.ensures.items
      c.push_back_reserved.ensures.items c.push_back_reserved-2.ensures.items c.new.ensures
      c.new-2.ensures)
      c.in-Some.ensures.sum c.self.invariant.0 (ap length c.as_slice-2.ensures)
      (ap length (c.as_slice-length.ensures ∙ sym c.in_ok-share.ensures)),
  c.in-Some.ensures.bound,
)

pub returns-clause-ok : goal.returns-clause-ok
unfolding counted
returns-clause-ok c =
    blob_added _ _ _ _ _ _ _ _ _ _ c.self.view_is
    (two_added c.self.inside.older.items _ _ _ _ _ _ _ c.in_ok-reserve.ensures.items
    c.push_back_reserved.ensures.items c.push_back_reserved-2.ensures.items c.new.ensures
    c.new-2.ensures)
    (c.in_ok-append.ensures.ok
    ∙ ap (λ r. r ++ c.as_slice.result.now)
    (c.in_ok-before.ensures ∙ take_all _ _ (omega (arith, c.len.ensures)))
    ∙ ap (λ r. c.self.inside.bytes ++ r) (c.as_slice.ensures ∙ c.in_ok-head.ensures
    ∙ ap (λ r. head 36 (length r)) c.as_slice-length.ensures))
    c.in_ok-share.ensures
    (c.in_ok-add.ensures.ok ∙ ap (λ r. r ++ 13 ∷ 10 ∷ []) c.new-after.ensures)

pub returns-clause-count : goal.returns-clause-count
unfolding counted
returns-clause-count c =
    spelling_counted _ _ _ _ (c.as_slice-3.ensures ∙ c.in_ok-head.ensures
    ∙ ap (λ r. head 36 (length r)) c.as_slice-length.ensures)
    c.as_slice-length.ensures
