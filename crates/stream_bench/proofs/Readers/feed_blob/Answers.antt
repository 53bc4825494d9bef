use Rattle.std.proofs.Common.{[], ◌∷◌, ◌++◌, ◌+◌, subst, refl, Ok, Err}
use Rattle.std.specs.Prelude.{codes, min}
use Rattle.std.proofs.lemmas.Result.{err_from_is_err_and}
use Rattle.stream_bench.specs.Reading.{head_of, repeated, Reads}
use Rattle.stream_bench.proofs.Counting.{last, reads_both, reads_fault, reads_stop}
use Rattle.stream_bench.proofs.Readers.feed_blob.Goals as goal

pub returns-in_err-begun : goal.returns-in_err-begun
returns-in_err-begun c =
    let p = err_from_is_err_and c.from_residual.result c.from_residual.ensures.1 in
    rw (p.1, p.2)
    (reads_stop c.args.requests (head_of c.args.requests ∷ [])
    (repeated 256 (c.args.piece.now ∷ []) ++ codes "\r\n" ∷ []) c.args.self.now c.feed.new.self
    c.in_err-begun.field-0.0
    (subst (λ h. Reads c.args.requests (h ∷ []) c.args.self.now c.feed.new.self
    (Err c.in_err-begun.field-0.0)) c.blob_head.ensures c.in_err-begun.ensures))

pub returns-in_err-held : goal.returns-in_err-held
returns-in_err-held c =
    let p = err_from_is_err_and c.from_residual-in_err-held.result
    c.from_residual-in_err-held.ensures.1 in
    let head = head_of c.args.requests ∷ [] in
    let pieces = repeated 256 (c.args.piece.now ∷ []) in
    rw (p.1, p.2)
    (reads_stop c.args.requests (head ++ pieces) (codes "\r\n" ∷ []) c.args.self.now
    c.feed_often.new.self c.in_err-held.field-0.0
    (reads_fault c.args.requests head pieces c.args.self.now c.feed.new.self c.feed_often.new.self
    c.in_ok-begun.begun c.in_err-held.field-0.0
    (subst (λ h. Reads c.args.requests (h ∷ []) c.args.self.now c.feed.new.self
    (Ok c.in_ok-begun.begun)) c.blob_head.ensures c.in_ok-begun.ensures) c.in_err-held.ensures))

pub returns-in_err-ended : goal.returns-in_err-ended
returns-in_err-ended c =
    let p = err_from_is_err_and c.from_residual-in_err-ended.result
    c.from_residual-in_err-ended.ensures.1 in
    let head = head_of c.args.requests ∷ [] in
    let pieces = repeated 256 (c.args.piece.now ∷ []) in
    let sum = min (c.in_ok-begun.begun + c.in_ok-held.held) last in
    rw (p.1, p.2)
    (reads_fault c.args.requests (head ++ pieces) (codes "\r\n" ∷ []) c.args.self.now
    c.feed_often.new.self c.feed-2.new.self sum c.in_err-ended.field-0.0
    (reads_both c.args.requests head pieces c.args.self.now c.feed.new.self c.feed_often.new.self
    c.in_ok-begun.begun c.in_ok-held.held sum
    (subst (λ h. Reads c.args.requests (h ∷ []) c.args.self.now c.feed.new.self
    (Ok c.in_ok-begun.begun)) c.blob_head.ensures c.in_ok-begun.ensures) c.in_ok-held.ensures refl)
    c.in_err-ended.ensures)

pub returns : goal.returns
returns c =
    let head = head_of c.args.requests ∷ [] in
    let pieces = repeated 256 (c.args.piece.now ∷ []) in
    reads_both c.args.requests (head ++ pieces) (codes "\r\n" ∷ []) c.args.self.now
    c.feed_often.new.self c.feed-2.new.self c.saturating_add.result c.in_ok-ended.ended
    c.saturating_add-2.result
    (reads_both c.args.requests head pieces c.args.self.now c.feed.new.self c.feed_often.new.self
    c.in_ok-begun.begun c.in_ok-held.held c.saturating_add.result
    (subst (λ h. Reads c.args.requests (h ∷ []) c.args.self.now c.feed.new.self
    (Ok c.in_ok-begun.begun)) c.blob_head.ensures c.in_ok-begun.ensures) c.in_ok-held.ensures
    c.saturating_add.ensures)
    c.in_ok-ended.ensures c.saturating_add-2.ensures
