use Rattle.std.specs.Option.{option_map}
use Rattle.std.proofs.Common.{sym, ◌∙◌}
use Rattle.server_book.specs.Sendings.{told_keys}
use Rattle.server_book.proofs.Routing.{told_empty}
use Rattle.server_book.proofs.Sendings.{on_err_then, on_ok_then}
use Rattle.server_book.proofs.connections.Connections.tell.Goals as goal

pub returns-then-is_empty-clause-ok : goal.returns-then-is_empty-clause-ok
returns-then-is_empty-clause-ok c =
    told_empty c.args.entry c.args.but (told_keys (option_map (λ k. k.now) c.args.key))
    c.args.to.now c.args.self.now (sym c.is_empty.ensures ∙ c.if-is_empty.true)

pub returns-clause-ok : goal.returns-clause-ok
returns-clause-ok c =
    on_ok_then c.tell_each.result _ _
    (λ sent. sent (told_keys (option_map (λ k. k.now) c.args.key)) c.in_ok-push.ensures)
    c.tell_each.ensures.ok

pub returns-clause-err : goal.returns-clause-err
returns-clause-err c =
    on_err_then c.tell_each.result _ _
    (λ back. back (told_keys (option_map (λ k. k.now) c.args.key)) c.in_ok-push.ensures)
    c.tell_each.ensures.err
