use Rattle.std.proofs.Common.{refl}
use Rattle.shared_book.specs.declared.turns.Refusal.TheVariants as refusal
use Rattle.conn_worker.specs.Visits.{Piece, Unread}
use Rattle.conn_worker.proofs.Serving.{piece_short}
use Rattle.conn_worker.proofs.Ticking.{unticked}
use Rattle.conn_worker.proofs.serve.hear_once.Goals as goal

pub returns-in-Ok-clause-ok : goal.returns-in-Ok-clause-ok
returns-in-Ok-clause-ok g c =
    Piece _ refl _ (piece_short _ _ _ c.in-Bytes.ensures.bytes.1 c.read.auto.buf)
    c.in-Bytes.ensures.bytes.2 c.in-Bytes.ensures.counts refl c.in-Ok.ensures.ok
    c.in-Ok.ensures.same.0 c.in-Ok.ensures.same.1

pub returns-in-Err-clause-err : goal.returns-in-Err-clause-err
returns-in-Err-clause-err g c =
    Unread refl _ (piece_short _ _ _ c.in-Bytes.ensures.bytes.1 c.read.auto.buf)
    c.in-Bytes.ensures.bytes.2 c.in-Bytes.ensures.counts refl c.hear.ensures.same.1

pub returns-in-Err-Worn-clause-err : goal.returns-in-Err-Worn-clause-err
returns-in-Err-Worn-clause-err g c =
    let refused = rw c.in-Err-Worn.field-0-is at c.in-Err-Worn.ensures.err in
    unticked _ _ refusal.Worn _ _ _ tt refused c.in-Idle.ensures.bytes c.in-Idle.ensures.counts

pub returns-in-Err-Stopped-clause-err : goal.returns-in-Err-Stopped-clause-err
returns-in-Err-Stopped-clause-err g c =
    let refused = rw c.in-Err-Stopped.field-0-is at c.in-Err-Stopped.ensures.err in
    unticked _ _ refusal.Stopped _ _ _ tt refused c.in-Idle.ensures.bytes c.in-Idle.ensures.counts
