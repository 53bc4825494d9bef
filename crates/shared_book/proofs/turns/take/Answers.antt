use Rattle.std.proofs.Common.{arith}
use Rattle.shared_book.specs.Turns.{most}
use Rattle.shared_book.proofs.Outcomes.{gives, rests}
use Rattle.shared_book.proofs.turns.take.Goals as goal

pub returns-in-Ok-Bytes-clause-ok : goal.returns-in-Ok-Bytes-clause-ok
returns-in-Ok-Bytes-clause-ok g c =
    gives c.args.seat.now c.reply_to.new.seat c.args.id most c.in-Ok-Bytes.field-0-0
    c.in-Ok-Bytes.bytes (rw c.in-Ok-Bytes.field-0-is at c.in-Ok-Bytes.ensures.ok)

pub returns-in-Ok-Quiet-clause-ok : goal.returns-in-Ok-Quiet-clause-ok
returns-in-Ok-Quiet-clause-ok g c =
    rests c.args.seat.now c.reply_to.new.seat c.args.id most (omega arith)
    (rw c.in-Ok-Quiet.field-0-is at c.in-Ok-Quiet.ensures.ok)
