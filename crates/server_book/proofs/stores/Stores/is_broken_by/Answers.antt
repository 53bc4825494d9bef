use Rattle.std.proofs.Common.{◌++◌, ap, sym, ◌∙◌, None}
use Rattle.std.specs.Prelude.{◌||◌}
use Rattle.serial_model.specs.Actions.{are_lost}
use Rattle.serial_model.specs.Tracking.{has_id, whole_group}
use Rattle.server_book.specs.Connections.{ConnectionsState, is_live}
use Rattle.server_book.specs.Sendings.{before_posts, lost_ids, modes_in, unpassed}
use Rattle.server_book.proofs.Routing.{before_told, lost_among, unpassed_none}
use Rattle.server_book.proofs.Undoing.{back_to}
use Rattle.server_book.proofs.stores.Stores.is_broken_by.Goals as goal

pub returns-in-Ok-clause-connections : goal.returns-in-Ok-clause-connections
returns-in-Ok-clause-connections c =
    let s = c.args.self.now in
    let group = whole_group c.args.keys.now s.table.rows s.prefixes in
    c.take_back.ensures
    ∙ back_to s.connections c.tell_keys.new.self.connections
    (ap (λ (x : ConnectionsState). before_posts x.posts x.items) c.in-Ok.ensures.told
    ∙ before_told 0 (unpassed None group) s.connections) c.requires.none c.requires.none_lost
    c.requires.none_dropped

pub returns-in-Ok-clause-broken : goal.returns-in-Ok-clause-broken
returns-in-Ok-clause-broken c =
    let s = c.args.self.now in
    let cs = s.connections.items in
    let group = whole_group c.args.keys.now s.table.rows s.prefixes in
    let told = unpassed None group in
    c.was_lost-is_lost.ensures
    ∙ ap (λ (x : ConnectionsState). has_id c.args.id x.lost) c.in-Ok.ensures.told
    ∙ ap (λ xs. has_id c.args.id (xs ++ lost_ids cs told)) c.requires.none_lost
    ∙ lost_among cs told c.args.id
    ∙ ap (λ x. are_lost (modes_in cs) (is_live cs) x c.args.id) (unpassed_none group)
    ∙ ap (λ b. b || are_lost (modes_in cs) (is_live cs) group c.args.id)
    (sym (sym c.is_broken.ensures ∙ c.if-is_broken.false))
