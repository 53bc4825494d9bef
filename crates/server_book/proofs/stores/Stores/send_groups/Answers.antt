use Rattle.std.proofs.Common.{sym, ap, subst, ◌∙◌}
use Rattle.track_table.specs.Table.{TableState, without_keys}
use Rattle.serial_model.specs.Tracking.{whole_group}
use Rattle.server_book.specs.RunSendings.{deed_done, reply_sent}
use Rattle.server_book.specs.Sendings.{with_told}
use Rattle.server_book.specs.Stores.{IsHeld, running}
use Rattle.server_book.proofs.Remembered.{table_left}
use Rattle.server_book.proofs.Routing.{unpassed_none}
use Rattle.server_book.proofs.Sendings.{on_err}
use Rattle.server_book.proofs.Undoing.{held_left, on_told, told_none}
use Rattle.server_book.proofs.stores.Stores.send_groups.Goals as goal

pub returns-in_err-aside-clause-back : goal.returns-in_err-aside-clause-back
returns-in_err-aside-clause-back c =
    let s = c.args.self.now in
    on_err _ _ (told_none c.args.entry c.args.id s.connections c.tell_keys.new.self.connections
    (whole_group c.args.expired.now s.table.rows s.prefixes) c.requires.id c.requires.none
    c.in_ok-tell_keys.ensures.told)

pub send_own-requires-clause-held : goal.send_own-requires-clause-held
send_own-requires-clause-held c =
    let s = c.args.self.now in
    let keys = c.args.expired.now in
    let left = table_left c.tell_keys.new.self.table c.set_aside.new.self keys
    c.in_ok-aside.ensures.limit c.in_ok-aside.ensures.rows
    ∙ ap (λ (t : TableState). record {
      limit = t.limit;
      rows = without_keys keys t.rows;
    }) c.in_ok-tell_keys.ensures.table in
    subst (λ (t : TableState). IsHeld t.limit t.rows) (sym left)
    (held_left s.table.limit keys s.table.rows c.requires.held)

pub send_own-requires-clause-id : goal.send_own-requires-clause-id
send_own-requires-clause-id c =
    let s = c.args.self.now in
    on_told c.args.entry c.args.id s.connections c.tell_keys.new.self.connections
    (whole_group c.args.expired.now s.table.rows s.prefixes) c.requires.id c.requires.none
    c.in_ok-tell_keys.ensures.told

pub returns-in-Err-clause-back : goal.returns-in-Err-clause-back
returns-in-Err-clause-back c =
    let s = c.args.self.now in
    c.in-Err.ensures.back
    ∙ told_none c.args.entry c.args.id s.connections c.tell_keys.new.self.connections
    (whole_group c.args.expired.now s.table.rows s.prefixes) c.requires.id c.requires.none
    c.in_ok-tell_keys.ensures.told

pub returns-in-Ok-clause-sent : goal.returns-in-Ok-clause-sent
returns-in-Ok-clause-sent c =
    let s = c.args.self.now in
    let run = running c.args.entry c.args.id c.args.expired.now c.args.plan.now s in
    let keys = c.args.expired.now in
    let group = whole_group keys s.table.rows s.prefixes in
    let told = c.in_ok-tell_keys.ensures.told
    ∙ ap (λ x. with_told c.args.entry x s.connections) (unpassed_none group) in
    let left = table_left c.tell_keys.new.self.table c.set_aside.new.self keys
    c.in_ok-aside.ensures.limit c.in_ok-aside.ensures.rows
    ∙ ap (λ (t : TableState). record {
      limit = t.limit;
      rows = without_keys keys t.rows;
    }) c.in_ok-tell_keys.ensures.table in
    c.in-Ok.ensures.sent
    ∙ ap (λ (t : TableState). deed_done c.args.entry c.args.id run.plan.deed t
    c.tell_keys.new.self.prefixes
    (reply_sent c.args.entry c.args.id run.plan c.tell_keys.new.self.connections)) left
    ∙ ap (λ ps. deed_done c.args.entry c.args.id run.plan.deed
    (record s.table { rows = without_keys keys s.table.rows }) ps
    (reply_sent c.args.entry c.args.id run.plan c.tell_keys.new.self.connections))
    c.in_ok-tell_keys.ensures.prefixes
    ∙ ap (λ x. deed_done c.args.entry c.args.id run.plan.deed
    (record s.table { rows = without_keys keys s.table.rows }) s.prefixes
    (reply_sent c.args.entry c.args.id run.plan x)) told
