use Rattle.std.proofs.Common.{◌∙◌, ◌≡◌, ◌++◌, None, ap, length}
use Rattle.track_table.specs.Table.{TableState, dropped, without_keys}
use Rattle.track_modes.specs.declared.peer.Peer.{Peer}
use Rattle.serial_model.specs.Actions.{to_one}
use Rattle.serial_model.specs.Tracking.{drop_group, ids_where, remembering, signal_group}
use Rattle.serial_model.specs.Tracking.{whole_group, without_signalled}
use Rattle.past_effects.specs.Made.{memory_as}
use Rattle.past_effects.specs.Seen.{changed, having, passed_over, passes, tracks_at, unpassed}
use Rattle.past_effects.specs.Sendings.{outlines, told_sent}
use Rattle.past_effects.proofs.Told.{in_order}
use Rattle.past_effects.proofs.scan.Scan.tell.Goals as goal

pub returns-clause-sent : goal.returns-clause-sent
returns-clause-sent c =
    let e = c.args.effect.now in
    let own = c.args.own.now in
    let table = c.args.self.now.table in
    let cs = c.args.self.now.connections in
    let rs = c.args.self.now.prefixes in
    let next = c.set_mode.new.self in
    let after : next ≡ changed e.id (having own.mode) cs =
    c.set_mode.ensures ∙ ap (λ m. changed e.id (having m) cs) c.in_ok-copy.ensures in
    let left : c.tell_keys.new.table ≡ record table { rows = without_keys e.expired table.rows } =
    c.in_ok-tell_keys.ensures.table
    ∙ ap (λ ks. record table { rows = without_keys ks table.rows }) c.as_slice-expired.ensures in
    let grown : TableState → TableState = λ (t : TableState). record t {
      rows = remembering e.id (memory_as own.mode own.kept) (without_signalled e.signalled t.rows);
    } in
    let kept : c.remember.new.table ≡ grown c.tell_keys.new.table =
    c.in_ok-remember.ensures
    ∙ ap (λ (t : TableState). record t {
      rows = remembering e.id (memory_as own.mode own.kept) t.rows;
    }) c.in_ok-tell_signalled.ensures.table in
    let dropped_by = λ (t : TableState). drop_group (dropped t.limit t.rows) in
    in_order cs (whole_group e.expired table.rows rs) _ _ _
    c.tell_keys.new.self c.reply.new.self c.tell_signalled.new.self c.tell_dropped.new.self
    (c.in_ok-tell_keys.ensures.told
    ∙ ap (λ l. l ++ told_sent cs (unpassed None (whole_group c.as_slice-expired.result.now
    table.rows rs))) c.new-sent.ensures
    ∙ ap (λ ks. told_sent cs (unpassed None (whole_group ks table.rows rs)))
    c.as_slice-expired.ensures)
    (c.in_ok-reply.ensures
    ∙ ap (λ (p : Peer). c.tell_keys.new.self
    ++ outlines next (to_one e.id p.proto e.reply)) c.peer-proto.ensures
    ∙ ap (λ x. c.tell_keys.new.self
    ++ outlines x (to_one e.id own.mode.proto e.reply)) after)
    (c.in_ok-tell_signalled.ensures.told
    ∙ ap (λ (t : TableState). c.reply.new.self ++ told_sent next (signal_group e.signalled
    (passes c.passed_over-passed.result) c.deref.result.now t.rows rs)) left
    ∙ ap (λ p. c.reply.new.self ++ told_sent next (signal_group e.signalled
    (passes p) c.deref.result.now (without_keys e.expired table.rows) rs))
    c.passed_over-passed.ensures
    ∙ ap (λ ids. c.reply.new.self ++ told_sent next (signal_group e.signalled
    (passes (passed_over cs e.id)) ids (without_keys e.expired table.rows) rs))
    (c.deref.ensures.value ∙ c.in_ok-tracking.ensures)
    ∙ ap (λ x. c.reply.new.self ++ told_sent x (signal_group e.signalled
    (passes (passed_over cs e.id)) (ids_where (tracks_at cs) (length cs))
    (without_keys e.expired table.rows) rs)) after)
    (c.in_ok-tell_dropped.ensures.told
    ∙ ap (λ t. c.tell_signalled.new.self ++ told_sent next (dropped_by t))
    (kept ∙ ap grown left)
    ∙ ap (λ x. c.tell_signalled.new.self ++ told_sent x (dropped_by (grown
    (record table { rows = without_keys e.expired table.rows })))) after)
