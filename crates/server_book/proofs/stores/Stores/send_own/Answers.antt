use Rattle.server_book.proofs.Sendings.{on_err_then}
use Rattle.server_book.proofs.Undoing.{reply_back}
use Rattle.std.proofs.Common.{◌∙◌}
use Rattle.server_book.proofs.stores.Stores.send_own.Goals as goal

pub returns-clause-back : goal.returns-clause-back
returns-clause-back c =
    let st = c.args.self.now.connections in
    on_err_then c.carry_out.result _ _
    (λ back. back
    ∙ reply_back c.args.entry c.args.id st c.send_reply.new.self.connections c.args.plan.now
    c.requires.id c.in_ok-send_reply.ensures.sent) c.carry_out.ensures.back
