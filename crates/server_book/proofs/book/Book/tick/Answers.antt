use Rattle.std.proofs.Common.{◌≡◌, ◌+◌, ◌-◌, ◌∷◌, [], length, sym, ap, subst, ◌∙◌, arith, max}
use Rattle.std.proofs.Common.{eqb-true, refl, Some}
use Rattle.std.proofs.lemmas.Bool.{both_ways, eqb-false}
use Rattle.serial_model.specs.declared.history.Entry.TheVariants as entry
use Rattle.serial_model.specs.declared.history.BookCall.TheVariants.{Tick}
use Rattle.serial_model.specs.Deadlines.{due_keys}
use Rattle.serial_model.specs.History.{expired, is_stopped}
use Rattle.serial_model.specs.Tracking.{whole_group}
use Rattle.serial_model.proofs.DueKeys.{due_apart, none_due}
use Rattle.server_book.specs.declared.ends.Ends.{Ends}
use Rattle.server_book.specs.BookState.{Agrees, BookState, HasRoom, IsAccepted}
use Rattle.server_book.specs.Connections.{ConnectionsState}
use Rattle.server_book.specs.Endings.{by_tick}
use Rattle.server_book.specs.Sendings.{lost_marked, with_told}
use Rattle.server_book.proofs.Ended.{ended_as, posted_as, prefixes_as, rows_as}
use Rattle.server_book.proofs.Plans.{due_is}
use Rattle.server_book.proofs.BookTurns.{agrees_as, is_fresh, is_turn}
use Rattle.server_book.proofs.Ticks.{agrees_tick, dropped_tick, posted_then, posted_tick}
use Rattle.server_book.proofs.Ticks.{room_tick, stopped_tick, tick_quiet}
use Rattle.server_book.proofs.Ticks.{effect_tick, none_of, some_of, tick_turned}
use Rattle.server_book.proofs.book.Book.tick.Goals as goal

pub invariant_of-self-then-is_empty : goal.invariant_of-self-then-is_empty
invariant_of-self-then-is_empty c = grind (arith, due_is, none_of, eqb-true, none_due)

pub returns-then-is_empty-clause-ok : goal.returns-then-is_empty-clause-ok
returns-then-is_empty-clause-ok c = grind (arith, due_is, none_of, eqb-true, tick_quiet)

pub send_tick-requires-clause-apart : goal.send_tick-requires-clause-apart
send_tick-requires-clause-apart c = grind (arith, due_is, due_apart)

pub end_all-requires-clause-by : goal.end_all-requires-clause-by
end_all-requires-clause-by c = λ q.
    absurd (both_ways c.by_tick.result.quits (ap (λ (b : Ends). b.quits) c.by_tick.ensures) q)

pub end_all-requires-clause-posted : goal.end_all-requires-clause-posted
end_all-requires-clause-posted c =
    let i = c.self.inside in
    let l = i.limits in
    let past = i.log.past in
    let space = i.stores.space in
    let keys = i.stores.table in
    let rs = i.stores.prefixes in
    let cs = i.stores.connections.items in
    let k = c.self.invariant.agrees in
    let m = c.max-moment.result in
    let n = c.next-entry.result in
    let number : n ≡ length past + 1 =
    c.next-entry.ensures ∙ ap (λ p. length p + 1) c.reserve.ensures.past in
    let gone = c.as_slice-2.result.now in
    let due : gone ≡ expired l past m = c.as_slice-2.ensures
    ∙ due_is m space c.in_ok-keys.field-0.keys c.in_ok-keys.ensures.keys
    ∙ ap (due_keys m) k.space_is in
    let none : i.stores.connections ≡ record { items = cs; posts = []; lost = []; drops = [] } =
    is_fresh i.stores.connections
    (ap (λ (b : BookState). b.posts) c.self.view_is ∙ c.requires.none.posts)
    c.self.invariant.none_lost
    (ap (λ (b : BookState). b.drops) c.self.view_is ∙ c.requires.none.drops) in
    let group = whole_group gone keys.rows rs in
    let sent = c.in-Ok.ensures.sent ∙ ap (λ s. lost_marked (with_told n group s)) none in
    posted_as l.out_max c.by_tick.result.limit _ c.send_tick.new.self.connections
    (ap (λ (b : Ends). b.limit) c.by_tick.ensures) sent
    (posted_then l past space keys rs cs k m n gone due number)

pub release-requires : goal.release-requires
release-requires c =
    let i = c.self.inside in
    let l = i.limits in
    let past = i.log.past in
    let space = i.stores.space in
    let keys = i.stores.table in
    let rs = i.stores.prefixes in
    let cs = i.stores.connections.items in
    let k = c.self.invariant.agrees in
    let m = c.max-moment.result in
    let n = c.next-entry.result in
    let number : n ≡ length past + 1 =
    c.next-entry.ensures ∙ ap (λ p. length p + 1) c.reserve.ensures.past in
    let gone = c.as_slice-2.result.now in
    let due : gone ≡ expired l past m = c.as_slice-2.ensures
    ∙ due_is m space c.in_ok-keys.field-0.keys c.in_ok-keys.ensures.keys
    ∙ ap (due_keys m) k.space_is in
    let none : i.stores.connections ≡ record { items = cs; posts = []; lost = []; drops = [] } =
    is_fresh i.stores.connections
    (ap (λ (b : BookState). b.posts) c.self.view_is ∙ c.requires.none.posts)
    c.self.invariant.none_lost
    (ap (λ (b : BookState). b.drops) c.self.view_is ∙ c.requires.none.drops) in
    let group = whole_group gone keys.rows rs in
    let sent = c.in-Ok.ensures.sent ∙ ap (λ s. lost_marked (with_told n group s)) none in
    let e = entry.Tick m in
    let first = c.as_slice.result.now in
    let some : gone ≡ [] → ⊥ = λ none. some_of first
    (eqb-false (length first) 0 (sym c.is_empty.ensures ∙ c.if-is_empty.false))
    (c.as_slice.ensures ∙ sym c.as_slice-2.ensures ∙ none) in
    let goes = subst (λ (b : BookState). IsAccepted b.limits b.past (Tick c.args.now))
    (sym c.self.view_is) c.requires.accepted in
    let done = c.end_all.new.self.connections in
    let ended = ended_as n (by_tick l.out_max) c.by_tick.result _ c.send_tick.new.self.connections
    done c.by_tick.ensures sent c.end_all.ensures.connections in
    let room = room_tick l past space keys rs cs k m n gone due number done ended i.log.closable
    c.self.invariant.room in
    omega (
      arith,
      room.0,
      ap length c.drops.ensures,
      c.push.ensures.closable,
      c.reserve.ensures.closable,
    )

pub invariant_of-self-2 : goal.invariant_of-self-2
invariant_of-self-2 c =
    let i = c.self.inside in
    let l = i.limits in
    let past = i.log.past in
    let space = i.stores.space in
    let keys = i.stores.table in
    let rs = i.stores.prefixes in
    let cs = i.stores.connections.items in
    let k = c.self.invariant.agrees in
    let m = c.max-moment.result in
    let n = c.next-entry.result in
    let number : n ≡ length past + 1 =
    c.next-entry.ensures ∙ ap (λ p. length p + 1) c.reserve.ensures.past in
    let gone = c.as_slice-2.result.now in
    let due : gone ≡ expired l past m = c.as_slice-2.ensures
    ∙ due_is m space c.in_ok-keys.field-0.keys c.in_ok-keys.ensures.keys
    ∙ ap (due_keys m) k.space_is in
    let none : i.stores.connections ≡ record { items = cs; posts = []; lost = []; drops = [] } =
    is_fresh i.stores.connections
    (ap (λ (b : BookState). b.posts) c.self.view_is ∙ c.requires.none.posts)
    c.self.invariant.none_lost
    (ap (λ (b : BookState). b.drops) c.self.view_is ∙ c.requires.none.drops) in
    let group = whole_group gone keys.rows rs in
    let sent = c.in-Ok.ensures.sent ∙ ap (λ s. lost_marked (with_told n group s)) none in
    let e = entry.Tick m in
    let first = c.as_slice.result.now in
    let some : gone ≡ [] → ⊥ = λ none. some_of first
    (eqb-false (length first) 0 (sym c.is_empty.ensures ∙ c.if-is_empty.false))
    (c.as_slice.ensures ∙ sym c.as_slice-2.ensures ∙ none) in
    let goes = subst (λ (b : BookState). IsAccepted b.limits b.past (Tick c.args.now))
    (sym c.self.view_is) c.requires.accepted in
    let done = c.end_all.new.self.connections in
    let ended = ended_as n (by_tick l.out_max) c.by_tick.result _ c.send_tick.new.self.connections
    done c.by_tick.ensures sent c.end_all.ensures.connections in
    let room = room_tick l past space keys rs cs k m n gone due number done ended i.log.closable
    c.self.invariant.room in
    let grown = c.release.ensures.past ∙ c.push.ensures.past
    ∙ ap (λ x. e ∷ x) c.reserve.ensures.past in
    let new = c.end_all.new.self in
    let mid = c.send_tick.new.self in
    let by = by_tick l.out_max in
    let agreed = agrees_as l (e ∷ past) new.space _ new.table _ new.prefixes _ new.connections.items
    (rows_as by c.by_tick.result _ mid.connections.items _ mid.table new.table c.by_tick.ensures
    (ap (λ (s : ConnectionsState). s.items) sent) c.in-Ok.ensures.table c.end_all.ensures.table)
    (prefixes_as by c.by_tick.result _ mid.connections.items _ mid.prefixes new.prefixes
    c.by_tick.ensures (ap (λ (s : ConnectionsState). s.items) sent) c.in-Ok.ensures.prefixes
    c.end_all.ensures.prefixes) refl
    (agrees_tick l past space keys rs cs k m n gone due number done ended new.space goes some
    (omega (arith, c.max-moment.ensures, c.moment.ensures))
    (c.end_all.ensures.space ∙ c.in-Ok.ensures.space ∙ c.in_ok-keys.ensures.ok)) in
    record {
      agrees = subst (λ x. Agrees l x new.space new.table new.prefixes new.connections.items)
          (sym grown) agreed;
      most_is =
          c.release.ensures.most ∙ c.push.ensures.most ∙ c.reserve.ensures.most
          ∙ c.self.invariant.most_is;
      room = subst (λ n. HasRoom n new.connections.items)
          (sym (c.release.ensures.closable
          ∙ ap (λ x. x - length c.drops.result.now)
          (c.push.ensures.closable ∙ c.reserve.ensures.closable)
          ∙ ap (λ x. i.log.closable - length x) c.drops.ensures)) room.1;
      none_lost = ended.lost;
      stopped_is =
          c.self.invariant.stopped_is
          ∙ sym (stopped_tick l past space keys rs cs k m n gone due number)
          ∙ sym (ap (is_stopped l) grown);
    }

pub returns-clause-ok : goal.returns-clause-ok
returns-clause-ok c =
    let i = c.self.inside in
    let l = i.limits in
    let past = i.log.past in
    let space = i.stores.space in
    let keys = i.stores.table in
    let rs = i.stores.prefixes in
    let cs = i.stores.connections.items in
    let k = c.self.invariant.agrees in
    let m = c.max-moment.result in
    let n = c.next-entry.result in
    let number : n ≡ length past + 1 =
    c.next-entry.ensures ∙ ap (λ p. length p + 1) c.reserve.ensures.past in
    let gone = c.as_slice-2.result.now in
    let due : gone ≡ expired l past m = c.as_slice-2.ensures
    ∙ due_is m space c.in_ok-keys.field-0.keys c.in_ok-keys.ensures.keys
    ∙ ap (due_keys m) k.space_is in
    let none : i.stores.connections ≡ record { items = cs; posts = []; lost = []; drops = [] } =
    is_fresh i.stores.connections
    (ap (λ (b : BookState). b.posts) c.self.view_is ∙ c.requires.none.posts)
    c.self.invariant.none_lost
    (ap (λ (b : BookState). b.drops) c.self.view_is ∙ c.requires.none.drops) in
    let group = whole_group gone keys.rows rs in
    let sent = c.in-Ok.ensures.sent ∙ ap (λ s. lost_marked (with_told n group s)) none in
    let e = entry.Tick m in
    let first = c.as_slice.result.now in
    let some : gone ≡ [] → ⊥ = λ none. some_of first
    (eqb-false (length first) 0 (sym c.is_empty.ensures ∙ c.if-is_empty.false))
    (c.as_slice.ensures ∙ sym c.as_slice-2.ensures ∙ none) in
    let goes = subst (λ (b : BookState). IsAccepted b.limits b.past (Tick c.args.now))
    (sym c.self.view_is) c.requires.accepted in
    let done = c.end_all.new.self.connections in
    let ended = ended_as n (by_tick l.out_max) c.by_tick.result _ c.send_tick.new.self.connections
    done c.by_tick.ensures sent c.end_all.ensures.connections in
    let grown = c.release.ensures.past ∙ c.push.ensures.past
    ∙ ap (λ x. e ∷ x) c.reserve.ensures.past in
    is_turn c.args.self.now l past c.release.new.self.past i.stores.connections.posts done.posts
    i.stores.connections.drops done.drops i.effect _ e (Tick c.args.now) _ c.self.view_is tt grown
    (tick_turned l past c.args.now m n gone goes due some number
    (c.max-moment.ensures ∙ ap (max c.args.now) c.moment.ensures))
    (posted_tick l past space keys rs cs k m n gone due number done ended)
    (dropped_tick l past space keys rs cs k m n gone due number done ended)
    (c.keep.ensures ∙ ap Some c.tick_effect-effect.ensures
    ∙ effect_tick l past m n c.in_ok-keys.field-0.keys number
    (due_is m space c.in_ok-keys.field-0.keys c.in_ok-keys.ensures.keys
    ∙ ap (due_keys m) k.space_is))
