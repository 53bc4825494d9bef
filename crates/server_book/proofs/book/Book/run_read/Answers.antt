use Rattle.std.proofs.Common.{◌≡◌, ◌+◌, ◌-◌, ◌∷◌, [], length, sym, ap, subst, ◌∙◌, arith, max, refl}
use Rattle.std.specs.Prelude.{◌||◌}
use Rattle.command_words.specs.Words.{reading}
use Rattle.track_table.specs.Table.{TableState}
use Rattle.serial_model.specs.declared.history.Entry.TheVariants as entry
use Rattle.serial_model.specs.declared.history.BookCall.TheVariants.{Run}
use Rattle.serial_model.specs.Deadlines.{due_keys}
use Rattle.serial_model.specs.Modes.{is_stopping, target_of}
use Rattle.serial_model.proofs.DueKeys.{due_apart}
use Rattle.serial_model.specs.History.{is_stopped}
use Rattle.server_book.specs.declared.ends.Ends.{Ends}
use Rattle.server_book.specs.Endings.{ends_of}
use Rattle.server_book.specs.BookState.{Agrees, BookState, HasRoom, IsAccepted}
use Rattle.server_book.specs.Connections.{ConnectionsState, IsOpen, connection_at, is_live}
use Rattle.server_book.specs.Places.{HasNumber}
use Rattle.server_book.specs.Plans.{asks_broken, mode_by}
use Rattle.server_book.specs.RunSendings.{Running, run_sendings, settled}
use Rattle.server_book.specs.Sendings.{is_broken_by, is_target}
use Rattle.server_book.proofs.Callers.{calls, number_then}
use Rattle.server_book.proofs.Plans.{plan_runs}
use Rattle.server_book.proofs.BookTurns.{agrees_as, has_run, is_held, mode_of, opened}
use Rattle.server_book.proofs.BookTurns.{is_fresh, read_is}
use Rattle.server_book.proofs.Ended.{ended_as, posted_as, prefixes_as, rows_as}
use Rattle.server_book.proofs.Runs.{agrees_run, dropped_run, mode_after, on_after, posted_run}
use Rattle.server_book.proofs.Runs.{posted_then, room_run, run_stopped}
use Rattle.server_book.proofs.book.Book.run_read.Goals as goal
use Rattle.server_book.proofs.book.Book.run_read.Goals.{then-self, else-self}

pub caller-requires-clause-id : goal.caller-requires-clause-id
caller-requires-clause-id c =
    let i = c.self.inside in
    let acc = subst (λ (b : BookState). IsAccepted b.limits b.past
    (Run c.args.id c.args.words c.args.now)) (sym c.self.view_is) c.requires.accepted in
    (opened i.limits i.log.past i.stores.space i.stores.table i.stores.prefixes
    i.stores.connections.items c.self.invariant.agrees c.args.id acc).0

pub caller-requires-clause-none : goal.caller-requires-clause-none
caller-requires-clause-none c =
    ap (λ (b : BookState). b.posts) c.self.view_is ∙ c.requires.none.posts

pub caller-requires-clause-none_lost : goal.caller-requires-clause-none_lost
caller-requires-clause-none_lost c = c.self.invariant.none_lost

pub caller-requires-clause-none_dropped : goal.caller-requires-clause-none_dropped
caller-requires-clause-none_dropped c =
    ap (λ (b : BookState). b.drops) c.self.view_is ∙ c.requires.none.drops

pub mode-mode-requires : goal.mode-mode-requires
mode-mode-requires c =
    let i = c.self.inside in
    let l = i.limits in
    let past = i.log.past in
    let id = c.args.id in
    let words = c.args.words in
    let acc = subst (λ (b : BookState). IsAccepted b.limits b.past (Run id words c.args.now))
    (sym c.self.view_is) c.requires.accepted in
    let st = c.caller.new.self in
    let space = st.space in
    let keys = st.table in
    let rs = st.prefixes in
    let cs = st.connections.items in
    let k : Agrees l past space keys rs cs =
    subst (λ x. Agrees l past x keys rs cs) (sym c.caller.ensures.space)
    (agrees_as l past i.stores.space _ keys _ rs _ cs c.caller.ensures.table
    c.caller.ensures.prefixes
    (ap (λ (s : ConnectionsState). s.items) c.caller.ensures.connections)
    c.self.invariant.agrees) in
    opened l past space keys rs cs k id acc

pub send_run-requires-clause-held : goal.send_run-requires-clause-held
send_run-requires-clause-held c =
    let i = c.self.inside in
    let l = i.limits in
    let past = i.log.past in
    let id = c.args.id in
    let words = c.args.words in
    let acc = subst (λ (b : BookState). IsAccepted b.limits b.past (Run id words c.args.now))
    (sym c.self.view_is) c.requires.accepted in
    let st = c.caller.new.self in
    let space = st.space in
    let keys = st.table in
    let rs = st.prefixes in
    let cs = st.connections.items in
    let k : Agrees l past space keys rs cs =
    subst (λ x. Agrees l past x keys rs cs) (sym c.caller.ensures.space)
    (agrees_as l past i.stores.space _ keys _ rs _ cs c.caller.ensures.table
    c.caller.ensures.prefixes
    (ap (λ (s : ConnectionsState). s.items) c.caller.ensures.connections)
    c.self.invariant.agrees) in
    is_held l past space keys rs cs k

pub send_run-requires-clause-id : goal.send_run-requires-clause-id
send_run-requires-clause-id c =
    let i = c.self.inside in
    let l = i.limits in
    let past = i.log.past in
    let id = c.args.id in
    let words = c.args.words in
    let acc = subst (λ (b : BookState). IsAccepted b.limits b.past (Run id words c.args.now))
    (sym c.self.view_is) c.requires.accepted in
    let st = c.caller.new.self in
    let space = st.space in
    let keys = st.table in
    let rs = st.prefixes in
    let cs = st.connections.items in
    let k : Agrees l past space keys rs cs =
    subst (λ x. Agrees l past x keys rs cs) (sym c.caller.ensures.space)
    (agrees_as l past i.stores.space _ keys _ rs _ cs c.caller.ensures.table
    c.caller.ensures.prefixes
    (ap (λ (s : ConnectionsState). s.items) c.caller.ensures.connections)
    c.self.invariant.agrees) in
    opened l past space keys rs cs k id acc

pub send_run-requires-clause-none : goal.send_run-requires-clause-none
send_run-requires-clause-none c =
    ap (λ (s : ConnectionsState). s.posts) c.caller.ensures.connections
    ∙ ap (λ (b : BookState). b.posts) c.self.view_is ∙ c.requires.none.posts

pub send_run-requires-clause-none_lost : goal.send_run-requires-clause-none_lost
send_run-requires-clause-none_lost c =
    ap (λ (s : ConnectionsState). s.lost) c.caller.ensures.connections
    ∙ c.self.invariant.none_lost

pub send_run-requires-clause-none_dropped : goal.send_run-requires-clause-none_dropped
send_run-requires-clause-none_dropped c =
    ap (λ (s : ConnectionsState). s.drops) c.caller.ensures.connections
    ∙ ap (λ (b : BookState). b.drops) c.self.view_is ∙ c.requires.none.drops

pub send_run-requires-clause-apart : goal.send_run-requires-clause-apart
send_run-requires-clause-apart c = grind (arith, due_apart)

pub finish-signalled-requires-clause-open : goal.finish-signalled-requires-clause-open
finish-signalled-requires-clause-open c =
    let i = c.self.inside in
    let l = i.limits in
    let past = i.log.past in
    let id = c.args.id in
    let words = c.args.words in
    let acc = subst (λ (b : BookState). IsAccepted b.limits b.past (Run id words c.args.now))
    (sym c.self.view_is) c.requires.accepted in
    let st = c.caller.new.self in
    let space = st.space in
    let keys = st.table in
    let rs = st.prefixes in
    let cs = st.connections.items in
    let k : Agrees l past space keys rs cs =
    subst (λ x. Agrees l past x keys rs cs) (sym c.caller.ensures.space)
    (agrees_as l past i.stores.space _ keys _ rs _ cs c.caller.ensures.table
    c.caller.ensures.prefixes
    (ap (λ (s : ConnectionsState). s.items) c.caller.ensures.connections)
    c.self.invariant.agrees) in
    let m = c.max-moment.result in
    let e = entry.Run id words m in
    let n = c.next-entry.result in
    let number : n ≡ length past + 1 =
    c.next-entry.ensures ∙ ap (λ p. length p + 1) c.reserve.ensures.past in
    let p = c.in-Ok.played in
    let plan = p.plan in
    let by = c.in_ok-by.by in
    let mode = c.mode-mode.result.now in
    let ids = c.caller.ensures.connections in
    let read : c.args.read.now ≡ reading words =
    read_is c.args.read.now (reading words) c.requires.reading c.in_ok-by.ensures.known in
    let old = i.stores in
    let who = calls l past space keys rs cs k m words id acc by mode c.in_ok-by.ensures.id
    c.mode-mode.ensures.mode
    (c.in_ok-by.ensures.target
    ∙ ap (λ (s : ConnectionsState). is_target (is_live s.items) (target_of c.args.read.now))
    (sym ids)
    ∙ ap (λ r. is_target (is_live cs) (target_of r)) read)
    (λ asks. c.in_ok-by.ensures.broken (ap asks_broken read ∙ asks)
    ∙ ap (λ x. is_broken_by (due_keys m x) old.table.rows old.prefixes old.connections.items id)
    (sym c.caller.ensures.space)
    ∙ ap (λ (t : TableState). is_broken_by (due_keys m space) t.rows old.prefixes
    old.connections.items id) (sym c.caller.ensures.table)
    ∙ ap (λ x. is_broken_by (due_keys m space) keys.rows x old.connections.items id)
    (sym c.caller.ensures.prefixes)
    ∙ ap (λ (s : ConnectionsState). is_broken_by (due_keys m space) keys.rows rs s.items id)
    (sym ids)) in
    let runs = plan_runs l past words m id p space c.play.new.space by mode
    c.in-Ok.ensures who k.space_is in
    let gone = c.as_slice.result.now in
    let gone_is = c.as_slice.ensures ∙ runs.0 in
    let none : st.connections ≡ record { items = cs; posts = []; lost = []; drops = [] } =
    is_fresh st.connections
    (ap (λ (s : ConnectionsState). s.posts) ids
    ∙ ap (λ (b : BookState). b.posts) c.self.view_is ∙ c.requires.none.posts)
    (ap (λ (s : ConnectionsState). s.lost) ids ∙ c.self.invariant.none_lost)
    (ap (λ (s : ConnectionsState). s.drops) ids
    ∙ ap (λ (b : BookState). b.drops) c.self.view_is ∙ c.requires.none.drops) in
    let run : Running = record {
      entry = n;
      id = id;
      expired = gone;
      plan = plan;
      table = keys;
      prefixes = rs;
    } in
    let sent = c.in-Ok-send_run.ensures.sent ∙ ap (run_sendings run) none in
    subst (λ (s : ConnectionsState). IsOpen s.items id) (sym sent)
    (on_after l past space keys rs cs k m gone gone_is n id words acc plan number runs.1 runs.3
    runs.4 runs.5 runs.6 runs.7)

pub finish-signalled-requires-clause-number : goal.finish-signalled-requires-clause-number
finish-signalled-requires-clause-number c =
    let i = c.self.inside in
    let l = i.limits in
    let past = i.log.past in
    let id = c.args.id in
    let words = c.args.words in
    let acc = subst (λ (b : BookState). IsAccepted b.limits b.past (Run id words c.args.now))
    (sym c.self.view_is) c.requires.accepted in
    let st = c.caller.new.self in
    let space = st.space in
    let keys = st.table in
    let rs = st.prefixes in
    let cs = st.connections.items in
    let k : Agrees l past space keys rs cs =
    subst (λ x. Agrees l past x keys rs cs) (sym c.caller.ensures.space)
    (agrees_as l past i.stores.space _ keys _ rs _ cs c.caller.ensures.table
    c.caller.ensures.prefixes
    (ap (λ (s : ConnectionsState). s.items) c.caller.ensures.connections)
    c.self.invariant.agrees) in
    let m = c.max-moment.result in
    let e = entry.Run id words m in
    let n = c.next-entry.result in
    let number : n ≡ length past + 1 =
    c.next-entry.ensures ∙ ap (λ p. length p + 1) c.reserve.ensures.past in
    let p = c.in-Ok.played in
    let plan = p.plan in
    let by = c.in_ok-by.by in
    let mode = c.mode-mode.result.now in
    let ids = c.caller.ensures.connections in
    let read : c.args.read.now ≡ reading words =
    read_is c.args.read.now (reading words) c.requires.reading c.in_ok-by.ensures.known in
    let old = i.stores in
    let who = calls l past space keys rs cs k m words id acc by mode c.in_ok-by.ensures.id
    c.mode-mode.ensures.mode
    (c.in_ok-by.ensures.target
    ∙ ap (λ (s : ConnectionsState). is_target (is_live s.items) (target_of c.args.read.now))
    (sym ids)
    ∙ ap (λ r. is_target (is_live cs) (target_of r)) read)
    (λ asks. c.in_ok-by.ensures.broken (ap asks_broken read ∙ asks)
    ∙ ap (λ x. is_broken_by (due_keys m x) old.table.rows old.prefixes old.connections.items id)
    (sym c.caller.ensures.space)
    ∙ ap (λ (t : TableState). is_broken_by (due_keys m space) t.rows old.prefixes
    old.connections.items id) (sym c.caller.ensures.table)
    ∙ ap (λ x. is_broken_by (due_keys m space) keys.rows x old.connections.items id)
    (sym c.caller.ensures.prefixes)
    ∙ ap (λ (s : ConnectionsState). is_broken_by (due_keys m space) keys.rows rs s.items id)
    (sym ids)) in
    let runs = plan_runs l past words m id p space c.play.new.space by mode
    c.in-Ok.ensures who k.space_is in
    let gone = c.as_slice.result.now in
    let gone_is = c.as_slice.ensures ∙ runs.0 in
    let none : st.connections ≡ record { items = cs; posts = []; lost = []; drops = [] } =
    is_fresh st.connections
    (ap (λ (s : ConnectionsState). s.posts) ids
    ∙ ap (λ (b : BookState). b.posts) c.self.view_is ∙ c.requires.none.posts)
    (ap (λ (s : ConnectionsState). s.lost) ids ∙ c.self.invariant.none_lost)
    (ap (λ (s : ConnectionsState). s.drops) ids
    ∙ ap (λ (b : BookState). b.drops) c.self.view_is ∙ c.requires.none.drops) in
    let run : Running = record {
      entry = n;
      id = id;
      expired = gone;
      plan = plan;
      table = keys;
      prefixes = rs;
    } in
    let sent = c.in-Ok-send_run.ensures.sent ∙ ap (run_sendings run) none in
    subst HasNumber
    (sym (ap (λ (s : ConnectionsState). mode_by plan.deed (connection_at s.items id).mode) sent
    ∙ ap (mode_by plan.deed)
    (mode_after l past space keys rs cs k m gone gone_is n id words acc plan number runs.1 runs.3
    runs.4 runs.5 runs.6 runs.7)
    ∙ runs.5))
    (number_then l past space keys rs cs k m words id acc
    (omega (arith, c.count-connections.ensures.count, c.count-connections.ensures.below))
    (subst HasNumber
    (c.mode-mode.ensures.mode ∙ mode_of l past space keys rs cs k id acc)
    c.mode-mode.ensures.number))

pub finish-signalled-requires-clause-posted : goal.finish-signalled-requires-clause-posted
finish-signalled-requires-clause-posted c =
    let i = c.self.inside in
    let l = i.limits in
    let past = i.log.past in
    let id = c.args.id in
    let words = c.args.words in
    let acc = subst (λ (b : BookState). IsAccepted b.limits b.past (Run id words c.args.now))
    (sym c.self.view_is) c.requires.accepted in
    let st = c.caller.new.self in
    let space = st.space in
    let keys = st.table in
    let rs = st.prefixes in
    let cs = st.connections.items in
    let k : Agrees l past space keys rs cs =
    subst (λ x. Agrees l past x keys rs cs) (sym c.caller.ensures.space)
    (agrees_as l past i.stores.space _ keys _ rs _ cs c.caller.ensures.table
    c.caller.ensures.prefixes
    (ap (λ (s : ConnectionsState). s.items) c.caller.ensures.connections)
    c.self.invariant.agrees) in
    let m = c.max-moment.result in
    let e = entry.Run id words m in
    let n = c.next-entry.result in
    let number : n ≡ length past + 1 =
    c.next-entry.ensures ∙ ap (λ p. length p + 1) c.reserve.ensures.past in
    let p = c.in-Ok.played in
    let plan = p.plan in
    let by = c.in_ok-by.by in
    let mode = c.mode-mode.result.now in
    let ids = c.caller.ensures.connections in
    let read : c.args.read.now ≡ reading words =
    read_is c.args.read.now (reading words) c.requires.reading c.in_ok-by.ensures.known in
    let old = i.stores in
    let who = calls l past space keys rs cs k m words id acc by mode c.in_ok-by.ensures.id
    c.mode-mode.ensures.mode
    (c.in_ok-by.ensures.target
    ∙ ap (λ (s : ConnectionsState). is_target (is_live s.items) (target_of c.args.read.now))
    (sym ids)
    ∙ ap (λ r. is_target (is_live cs) (target_of r)) read)
    (λ asks. c.in_ok-by.ensures.broken (ap asks_broken read ∙ asks)
    ∙ ap (λ x. is_broken_by (due_keys m x) old.table.rows old.prefixes old.connections.items id)
    (sym c.caller.ensures.space)
    ∙ ap (λ (t : TableState). is_broken_by (due_keys m space) t.rows old.prefixes
    old.connections.items id) (sym c.caller.ensures.table)
    ∙ ap (λ x. is_broken_by (due_keys m space) keys.rows x old.connections.items id)
    (sym c.caller.ensures.prefixes)
    ∙ ap (λ (s : ConnectionsState). is_broken_by (due_keys m space) keys.rows rs s.items id)
    (sym ids)) in
    let runs = plan_runs l past words m id p space c.play.new.space by mode
    c.in-Ok.ensures who k.space_is in
    let gone = c.as_slice.result.now in
    let gone_is = c.as_slice.ensures ∙ runs.0 in
    let none : st.connections ≡ record { items = cs; posts = []; lost = []; drops = [] } =
    is_fresh st.connections
    (ap (λ (s : ConnectionsState). s.posts) ids
    ∙ ap (λ (b : BookState). b.posts) c.self.view_is ∙ c.requires.none.posts)
    (ap (λ (s : ConnectionsState). s.lost) ids ∙ c.self.invariant.none_lost)
    (ap (λ (s : ConnectionsState). s.drops) ids
    ∙ ap (λ (b : BookState). b.drops) c.self.view_is ∙ c.requires.none.drops) in
    let run : Running = record {
      entry = n;
      id = id;
      expired = gone;
      plan = plan;
      table = keys;
      prefixes = rs;
    } in
    let sent = c.in-Ok-send_run.ensures.sent ∙ ap (run_sendings run) none in
    posted_as l.out_max c.ends-ends.result.limit _
    (settled id plan.deed c.send_run.new.self.connections)
    (ap (λ (b : Ends). b.limit) c.ends-ends.ensures) (ap (settled id plan.deed) sent)
    (posted_then l past space keys rs cs k m gone gone_is n id words acc plan number runs.1 runs.3
    runs.4 runs.5 runs.6 runs.7)

pub release-requires : goal.release-requires
release-requires c =
    let i = c.self.inside in
    let l = i.limits in
    let past = i.log.past in
    let id = c.args.id in
    let words = c.args.words in
    let acc = subst (λ (b : BookState). IsAccepted b.limits b.past (Run id words c.args.now))
    (sym c.self.view_is) c.requires.accepted in
    let st = c.caller.new.self in
    let space = st.space in
    let keys = st.table in
    let rs = st.prefixes in
    let cs = st.connections.items in
    let k : Agrees l past space keys rs cs =
    subst (λ x. Agrees l past x keys rs cs) (sym c.caller.ensures.space)
    (agrees_as l past i.stores.space _ keys _ rs _ cs c.caller.ensures.table
    c.caller.ensures.prefixes
    (ap (λ (s : ConnectionsState). s.items) c.caller.ensures.connections)
    c.self.invariant.agrees) in
    let m = c.max-moment.result in
    let e = entry.Run id words m in
    let n = c.next-entry.result in
    let number : n ≡ length past + 1 =
    c.next-entry.ensures ∙ ap (λ p. length p + 1) c.reserve.ensures.past in
    let p = c.in-Ok.played in
    let plan = p.plan in
    let by = c.in_ok-by.by in
    let mode = c.mode-mode.result.now in
    let ids = c.caller.ensures.connections in
    let read : c.args.read.now ≡ reading words =
    read_is c.args.read.now (reading words) c.requires.reading c.in_ok-by.ensures.known in
    let old = i.stores in
    let who = calls l past space keys rs cs k m words id acc by mode c.in_ok-by.ensures.id
    c.mode-mode.ensures.mode
    (c.in_ok-by.ensures.target
    ∙ ap (λ (s : ConnectionsState). is_target (is_live s.items) (target_of c.args.read.now))
    (sym ids)
    ∙ ap (λ r. is_target (is_live cs) (target_of r)) read)
    (λ asks. c.in_ok-by.ensures.broken (ap asks_broken read ∙ asks)
    ∙ ap (λ x. is_broken_by (due_keys m x) old.table.rows old.prefixes old.connections.items id)
    (sym c.caller.ensures.space)
    ∙ ap (λ (t : TableState). is_broken_by (due_keys m space) t.rows old.prefixes
    old.connections.items id) (sym c.caller.ensures.table)
    ∙ ap (λ x. is_broken_by (due_keys m space) keys.rows x old.connections.items id)
    (sym c.caller.ensures.prefixes)
    ∙ ap (λ (s : ConnectionsState). is_broken_by (due_keys m space) keys.rows rs s.items id)
    (sym ids)) in
    let runs = plan_runs l past words m id p space c.play.new.space by mode
    c.in-Ok.ensures who k.space_is in
    let gone = c.as_slice.result.now in
    let gone_is = c.as_slice.ensures ∙ runs.0 in
    let none : st.connections ≡ record { items = cs; posts = []; lost = []; drops = [] } =
    is_fresh st.connections
    (ap (λ (s : ConnectionsState). s.posts) ids
    ∙ ap (λ (b : BookState). b.posts) c.self.view_is ∙ c.requires.none.posts)
    (ap (λ (s : ConnectionsState). s.lost) ids ∙ c.self.invariant.none_lost)
    (ap (λ (s : ConnectionsState). s.drops) ids
    ∙ ap (λ (b : BookState). b.drops) c.self.view_is ∙ c.requires.none.drops) in
    let run : Running = record {
      entry = n;
      id = id;
      expired = gone;
      plan = plan;
      table = keys;
      prefixes = rs;
    } in
    let sent = c.in-Ok-send_run.ensures.sent ∙ ap (run_sendings run) none in
    let by = ends_of id plan.deed l.out_max in
    let settles = ap (settled id plan.deed) sent in
    let done = c.finish-signalled.new.self.connections in
    let ended = ended_as n by c.ends-ends.result _
    (settled id plan.deed c.send_run.new.self.connections) done c.ends-ends.ensures settles
    c.finish-signalled.ensures.connections in
    let room = room_run l past space keys rs cs k m gone gone_is n id words acc plan number runs.1
    runs.3 runs.4 runs.5 runs.6 runs.7
    i.log.closable done ended
    (subst (λ (s : ConnectionsState). HasRoom i.log.closable s.items) (sym ids)
    c.self.invariant.room) in
    omega (
      arith,
      room.0,
      ap length c.drops.ensures,
      c.push.ensures.closable,
      c.reserve.ensures.closable,
    )

pub invariant_of-self-2 : goal.invariant_of-self-2
invariant_of-self-2 c =
    let i = c.self.inside in
    let l = i.limits in
    let past = i.log.past in
    let id = c.args.id in
    let words = c.args.words in
    let acc = subst (λ (b : BookState). IsAccepted b.limits b.past (Run id words c.args.now))
    (sym c.self.view_is) c.requires.accepted in
    let st = c.caller.new.self in
    let space = st.space in
    let keys = st.table in
    let rs = st.prefixes in
    let cs = st.connections.items in
    let k : Agrees l past space keys rs cs =
    subst (λ x. Agrees l past x keys rs cs) (sym c.caller.ensures.space)
    (agrees_as l past i.stores.space _ keys _ rs _ cs c.caller.ensures.table
    c.caller.ensures.prefixes
    (ap (λ (s : ConnectionsState). s.items) c.caller.ensures.connections)
    c.self.invariant.agrees) in
    let m = c.max-moment.result in
    let e = entry.Run id words m in
    let n = c.next-entry.result in
    let number : n ≡ length past + 1 =
    c.next-entry.ensures ∙ ap (λ p. length p + 1) c.reserve.ensures.past in
    let p = c.in-Ok.played in
    let plan = p.plan in
    let by = c.in_ok-by.by in
    let mode = c.mode-mode.result.now in
    let ids = c.caller.ensures.connections in
    let read : c.args.read.now ≡ reading words =
    read_is c.args.read.now (reading words) c.requires.reading c.in_ok-by.ensures.known in
    let old = i.stores in
    let who = calls l past space keys rs cs k m words id acc by mode c.in_ok-by.ensures.id
    c.mode-mode.ensures.mode
    (c.in_ok-by.ensures.target
    ∙ ap (λ (s : ConnectionsState). is_target (is_live s.items) (target_of c.args.read.now))
    (sym ids)
    ∙ ap (λ r. is_target (is_live cs) (target_of r)) read)
    (λ asks. c.in_ok-by.ensures.broken (ap asks_broken read ∙ asks)
    ∙ ap (λ x. is_broken_by (due_keys m x) old.table.rows old.prefixes old.connections.items id)
    (sym c.caller.ensures.space)
    ∙ ap (λ (t : TableState). is_broken_by (due_keys m space) t.rows old.prefixes
    old.connections.items id) (sym c.caller.ensures.table)
    ∙ ap (λ x. is_broken_by (due_keys m space) keys.rows x old.connections.items id)
    (sym c.caller.ensures.prefixes)
    ∙ ap (λ (s : ConnectionsState). is_broken_by (due_keys m space) keys.rows rs s.items id)
    (sym ids)) in
    let runs = plan_runs l past words m id p space c.play.new.space by mode
    c.in-Ok.ensures who k.space_is in
    let gone = c.as_slice.result.now in
    let gone_is = c.as_slice.ensures ∙ runs.0 in
    let none : st.connections ≡ record { items = cs; posts = []; lost = []; drops = [] } =
    is_fresh st.connections
    (ap (λ (s : ConnectionsState). s.posts) ids
    ∙ ap (λ (b : BookState). b.posts) c.self.view_is ∙ c.requires.none.posts)
    (ap (λ (s : ConnectionsState). s.lost) ids ∙ c.self.invariant.none_lost)
    (ap (λ (s : ConnectionsState). s.drops) ids
    ∙ ap (λ (b : BookState). b.drops) c.self.view_is ∙ c.requires.none.drops) in
    let run : Running = record {
      entry = n;
      id = id;
      expired = gone;
      plan = plan;
      table = keys;
      prefixes = rs;
    } in
    let sent = c.in-Ok-send_run.ensures.sent ∙ ap (run_sendings run) none in
    let by = ends_of id plan.deed l.out_max in
    let settles = ap (settled id plan.deed) sent in
    let done = c.finish-signalled.new.self.connections in
    let ended = ended_as n by c.ends-ends.result _
    (settled id plan.deed c.send_run.new.self.connections) done c.ends-ends.ensures settles
    c.finish-signalled.ensures.connections in
    let room = room_run l past space keys rs cs k m gone gone_is n id words acc plan number runs.1
    runs.3 runs.4 runs.5 runs.6 runs.7
    i.log.closable done ended
    (subst (λ (s : ConnectionsState). HasRoom i.log.closable s.items) (sym ids)
    c.self.invariant.room) in
    let grown = c.release.ensures.past ∙ c.push.ensures.past
    ∙ ap (λ x. e ∷ x) c.reserve.ensures.past in
    let new = c.finish-signalled.new.self in
    let mid = c.send_run.new.self in
    let items = ap (λ (s : ConnectionsState). s.items) settles in
    let agreed = agrees_as l (e ∷ past) new.space _ new.table _ new.prefixes _ new.connections.items
    (rows_as by c.ends-ends.result _ (settled id plan.deed mid.connections).items _ mid.table
    new.table c.ends-ends.ensures items c.in-Ok-send_run.ensures.table
    c.finish-signalled.ensures.table)
    (prefixes_as by c.ends-ends.result _ (settled id plan.deed mid.connections).items _ mid.prefixes
    new.prefixes c.ends-ends.ensures items c.in-Ok-send_run.ensures.prefixes
    c.finish-signalled.ensures.prefixes) refl
    (agrees_run l past space keys rs cs k m gone gone_is n id words acc plan number runs.1 runs.3
    runs.4 runs.5 runs.6 runs.7 new.space done
    (omega (arith, c.max-moment.ensures, c.moment.ensures))
    (c.finish-signalled.ensures.space ∙ c.keep_place.ensures ∙ c.in-Ok-send_run.ensures.space
    ∙ runs.2) ended) in
    let now_stopped : c.if-self.self ≡ (i.stopped || c.ends-ends.result.stops) =
    elim c.if-self.branch [
      | then-self w ↦
          w.self-is ∙ w.if-self.true
          ∙ sym (ap (λ b. b || c.ends-ends.result.stops) w.if-self.true)
      | else-self w ↦
          w.self-is ∙ sym (ap (λ b. b || c.ends-ends.result.stops) w.if-self.false)
    ] in
    record {
      agrees = subst (λ x. Agrees l x new.space new.table new.prefixes new.connections.items)
          (sym grown) agreed;
      most_is =
          c.release.ensures.most ∙ c.push.ensures.most ∙ c.reserve.ensures.most
          ∙ c.self.invariant.most_is;
      room = subst (λ n. HasRoom n new.connections.items)
          (sym (c.release.ensures.closable
          ∙ ap (λ x. x - length c.drops.result.now)
          (c.push.ensures.closable ∙ c.reserve.ensures.closable)
          ∙ ap (λ x. i.log.closable - length x) c.drops.ensures)) room.1;
      none_lost = ended.lost;
      stopped_is =
          now_stopped
          ∙ ap (λ b. b || c.ends-ends.result.stops) c.self.invariant.stopped_is
          ∙ ap (λ b. is_stopped l past || b)
          (ap (λ (b : Ends). b.stops) c.ends-ends.ensures ∙ ap is_stopping runs.7)
          ∙ sym (run_stopped l past id m words) ∙ sym (ap (is_stopped l) grown);
    }

pub returns-clause-ok : goal.returns-clause-ok
returns-clause-ok c =
    let i = c.self.inside in
    let l = i.limits in
    let past = i.log.past in
    let id = c.args.id in
    let words = c.args.words in
    let acc = subst (λ (b : BookState). IsAccepted b.limits b.past (Run id words c.args.now))
    (sym c.self.view_is) c.requires.accepted in
    let st = c.caller.new.self in
    let space = st.space in
    let keys = st.table in
    let rs = st.prefixes in
    let cs = st.connections.items in
    let k : Agrees l past space keys rs cs =
    subst (λ x. Agrees l past x keys rs cs) (sym c.caller.ensures.space)
    (agrees_as l past i.stores.space _ keys _ rs _ cs c.caller.ensures.table
    c.caller.ensures.prefixes
    (ap (λ (s : ConnectionsState). s.items) c.caller.ensures.connections)
    c.self.invariant.agrees) in
    let m = c.max-moment.result in
    let e = entry.Run id words m in
    let n = c.next-entry.result in
    let number : n ≡ length past + 1 =
    c.next-entry.ensures ∙ ap (λ p. length p + 1) c.reserve.ensures.past in
    let p = c.in-Ok.played in
    let plan = p.plan in
    let by = c.in_ok-by.by in
    let mode = c.mode-mode.result.now in
    let ids = c.caller.ensures.connections in
    let read : c.args.read.now ≡ reading words =
    read_is c.args.read.now (reading words) c.requires.reading c.in_ok-by.ensures.known in
    let old = i.stores in
    let who = calls l past space keys rs cs k m words id acc by mode c.in_ok-by.ensures.id
    c.mode-mode.ensures.mode
    (c.in_ok-by.ensures.target
    ∙ ap (λ (s : ConnectionsState). is_target (is_live s.items) (target_of c.args.read.now))
    (sym ids)
    ∙ ap (λ r. is_target (is_live cs) (target_of r)) read)
    (λ asks. c.in_ok-by.ensures.broken (ap asks_broken read ∙ asks)
    ∙ ap (λ x. is_broken_by (due_keys m x) old.table.rows old.prefixes old.connections.items id)
    (sym c.caller.ensures.space)
    ∙ ap (λ (t : TableState). is_broken_by (due_keys m space) t.rows old.prefixes
    old.connections.items id) (sym c.caller.ensures.table)
    ∙ ap (λ x. is_broken_by (due_keys m space) keys.rows x old.connections.items id)
    (sym c.caller.ensures.prefixes)
    ∙ ap (λ (s : ConnectionsState). is_broken_by (due_keys m space) keys.rows rs s.items id)
    (sym ids)) in
    let runs = plan_runs l past words m id p space c.play.new.space by mode
    c.in-Ok.ensures who k.space_is in
    let gone = c.as_slice.result.now in
    let gone_is = c.as_slice.ensures ∙ runs.0 in
    let none : st.connections ≡ record { items = cs; posts = []; lost = []; drops = [] } =
    is_fresh st.connections
    (ap (λ (s : ConnectionsState). s.posts) ids
    ∙ ap (λ (b : BookState). b.posts) c.self.view_is ∙ c.requires.none.posts)
    (ap (λ (s : ConnectionsState). s.lost) ids ∙ c.self.invariant.none_lost)
    (ap (λ (s : ConnectionsState). s.drops) ids
    ∙ ap (λ (b : BookState). b.drops) c.self.view_is ∙ c.requires.none.drops) in
    let run : Running = record {
      entry = n;
      id = id;
      expired = gone;
      plan = plan;
      table = keys;
      prefixes = rs;
    } in
    let sent = c.in-Ok-send_run.ensures.sent ∙ ap (run_sendings run) none in
    let by = ends_of id plan.deed l.out_max in
    let settles = ap (settled id plan.deed) sent in
    let done = c.finish-signalled.new.self.connections in
    let ended = ended_as n by c.ends-ends.result _
    (settled id plan.deed c.send_run.new.self.connections) done c.ends-ends.ensures settles
    c.finish-signalled.ensures.connections in
    let grown = c.release.ensures.past ∙ c.push.ensures.past
    ∙ ap (λ x. e ∷ x) c.reserve.ensures.past in
    has_run l past c.release.new.self.past i.stores.connections.posts done.posts
    i.stores.connections.drops done.drops i.effect id c.args.now words _ c.args.self.now
    c.self.view_is m (c.max-moment.ensures ∙ ap (max c.args.now) c.moment.ensures) grown acc
    (posted_run l past space keys rs cs k m gone gone_is n id words acc plan number runs.1 runs.3
    runs.4 runs.5 runs.6 runs.7 done ended)
    (dropped_run l past space keys rs cs k m gone gone_is n id words acc plan number runs.1 runs.3
    runs.4 runs.5 runs.6 runs.7 done ended)
    number runs.0 runs.1 (c.finish-signalled.ensures.signalled ∙ runs.3)
