use Rattle.std.proofs.Common.{ap, sym, ◌∙◌, Some}
use Rattle.std.specs.Prelude.{filter, nat_eq}
use Rattle.std.specs.List.{starts_with}
use Rattle.server_book.specs.Sendings.{unpassed, with_told}
use Rattle.server_book.proofs.PrefixGroups.{told_at_none, told_at_row}
use Rattle.server_book.proofs.Routing.{told_nobody}
use Rattle.server_book.proofs.Sendings.{on_err_then, on_ok_then}
use Rattle.server_book.proofs.stores.Stores.tell_at.Goals as goal

pub returns-in_ok-push-in-Some-clause-told : goal.returns-in_ok-push-in-Some-clause-told
returns-in_ok-push-in-Some-clause-told c =
    let s = c.args.self.now in
    let keys = c.args.keys.now in
    let prefix = c.in-Some.prefix.now in
    on_ok_then c.tell_each.result _ _
    (λ sent. sent (Some (filter (λ key. starts_with nat_eq key prefix) keys))
    c.in_ok-push-in-Some.ensures
    ∙ ap (λ x. with_told c.args.entry (unpassed c.args.but x) s.connections)
    (told_at_row keys s.prefixes c.args.place prefix c.in-Some.ids.now
    c.in-Some.ensures.row)) c.tell_each.ensures.ok

pub returns-in_ok-push-in-Some-clause-back : goal.returns-in_ok-push-in-Some-clause-back
returns-in_ok-push-in-Some-clause-back c =
    let keys = c.args.keys.now in
    let prefix = c.in-Some.prefix.now in
    on_err_then c.tell_each.result _ _
    (λ back. back (Some (filter (λ key. starts_with nat_eq key prefix) keys))
    c.in_ok-push-in-Some.ensures) c.tell_each.ensures.err

pub returns-in-None-clause-told : goal.returns-in-None-clause-told
returns-in-None-clause-told c =
    let s = c.args.self.now in
    sym (told_nobody c.args.entry s.connections)
    ∙ ap (λ x. with_told c.args.entry (unpassed c.args.but x) s.connections)
    (sym (told_at_none c.args.keys.now s.prefixes c.args.place c.in-None.ensures.row))
