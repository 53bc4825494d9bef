use Rattle.std.proofs.Common.{ap, ◌∙◌}
use Rattle.serial_model.specs.Tracking.{group, prefix_group}
use Rattle.server_book.specs.Connections.{ConnectionsState}
use Rattle.server_book.specs.Sendings.{before_posts, unpassed, with_told}
use Rattle.server_book.proofs.Routing.{before_told, told_behind}
use Rattle.server_book.proofs.Sendings.{on_err_then, on_ok_then}
use Rattle.server_book.proofs.stores.Stores.tell_keys.Goals as goal

pub returns-clause-told : goal.returns-clause-told
returns-clause-told c =
    let s = c.args.self.now in
    let keys = c.args.keys.now in
    let mid = c.tell_holders.new.self in
    on_ok_then c.tell_prefixes.result _ _
    (λ sent. told_behind c.args.entry c.args.but s.connections mid.connections
    c.tell_prefixes.new.self.connections (group keys s.table.rows)
    (prefix_group keys s.prefixes) c.in_ok-tell_holders.ensures.told
    (sent ∙ ap (λ rs. with_told c.args.entry (unpassed c.args.but (prefix_group keys rs))
    mid.connections) c.tell_holders.ensures.prefixes)) c.tell_prefixes.ensures.told

pub returns-clause-back : goal.returns-clause-back
returns-clause-back c =
    let s = c.args.self.now in
    let told = group c.args.keys.now s.table.rows in
    on_err_then c.tell_prefixes.result _ _
    (λ back. back
    ∙ ap (λ (x : ConnectionsState). before_posts x.posts x.items) c.in_ok-tell_holders.ensures.told
    ∙ before_told c.args.entry (unpassed c.args.but told) s.connections)
    c.tell_prefixes.ensures.back
