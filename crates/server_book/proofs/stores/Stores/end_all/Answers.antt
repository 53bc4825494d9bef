use Rattle.std.proofs.Common.{◌+◌, ◌≤◌, ◌∙◌, List, ap, arith, cond, length, refl, subst, sym}
use Rattle.track_table.specs.Table.{TableState, without_connection}
use Rattle.prefix_table.specs.declared.table.Registration.{Registration}
use Rattle.prefix_table.specs.Table as registrations
use Rattle.serial_model.specs.State.{for_each}
use Rattle.server_book.specs.Endings.{ended_if, is_ending}
use Rattle.server_book.proofs.Ended.{EndedTo, each_next, ended_all, ended_next, ended_none}
use Rattle.server_book.proofs.Ended.{ids_beyond, ids_none, none_before, none_past, same_test}
use Rattle.server_book.proofs.stores.Stores.end_all.Goals as goal

pub loop-place-init : goal.loop-place-init
loop-place-init c =
    let s = c.args.self.now in
    let cs = s.connections.items in
    let after = c.ending_within-after.result.0 in
    let before = none_before c.args.ends cs after c.ending_within-after.result.1
    c.ending_within-after.ensures in
    let none = ids_none (is_ending c.args.ends cs) after before in
    record {
      space = refl;
      table =
          ap (λ ids. record s.table { rows = for_each without_connection ids s.table.rows })
          (sym none);
      prefixes =
          ap (λ ids. for_each registrations.without_connection ids s.prefixes) (sym none);
      ended = ended_none c.args.entry c.args.ends s.connections after before;
    }

pub loop-place-preserved : goal.loop-place-preserved
loop-place-preserved c =
    let s = c.args.self.now in
    let mid = c.loop-place.self in
    let entry = c.args.entry in
    let ends = c.args.ends in
    let test = is_ending ends s.connections.items in
    let n = c.loop-place.place in
    let h = c.loop-place.invariant in
    let there : n + 1 ≤ length s.connections.items =
    omega (arith, c.loop-place-test.true, c.ending_within-after.ensures.there) in
    let same = same_test entry ends s.connections n (n + 1) refl mid.connections h.ended there in
    record {
      space = c.end_one.ensures.space ∙ h.space;
      table =
          c.end_one.ensures.table
          ∙ ap (λ b. record mid.table {
            rows = cond b (without_connection (n + 1) mid.table.rows) mid.table.rows;
          }) same
          ∙ ap (λ (t : TableState). record t {
            rows = cond (test (n + 1)) (without_connection (n + 1) t.rows) t.rows;
          }) h.table
          ∙ ap (λ rows. record s.table { rows = rows })
          (sym (each_next without_connection test n (n + 1) s.table.rows refl));
      prefixes =
          c.end_one.ensures.prefixes
          ∙ ap (λ b. cond b (registrations.without_connection (n + 1) mid.prefixes) mid.prefixes)
          same
          ∙ ap (λ (rs : List Registration).
          cond (test (n + 1)) (registrations.without_connection (n + 1) rs) rs) h.prefixes
          ∙ sym (each_next registrations.without_connection test n (n + 1) s.prefixes refl);
      ended =
          subst (EndedTo entry ends s.connections (n + 1))
          (sym (c.end_one.ensures.connections
          ∙ ap (λ b. ended_if b entry ends (n + 1) mid.connections) same))
          (ended_next entry ends s.connections n (n + 1) refl mid.connections h.ended there
          (test (n + 1)) refl);
    }

pub returns-clause-table : goal.returns-clause-table
returns-clause-table c =
    let s = c.args.self.now in
    let cs = s.connections.items in
    let n = c.loop-place.place in
    let w = c.ending_within-after.ensures in
    c.loop-place.invariant.table
    ∙ ap (λ ids. record s.table { rows = for_each without_connection ids s.table.rows })
    (sym (ids_beyond (is_ending c.args.ends cs) n (length cs)
    (omega (arith, c.loop-place.auto.place-end, w.order, w.there))
    (λ i. none_past c.args.ends cs _ _ w n i c.loop-place-test.false)))

pub returns-clause-prefixes : goal.returns-clause-prefixes
returns-clause-prefixes c =
    let s = c.args.self.now in
    let cs = s.connections.items in
    let n = c.loop-place.place in
    let w = c.ending_within-after.ensures in
    c.loop-place.invariant.prefixes
    ∙ ap (λ ids. for_each registrations.without_connection ids s.prefixes)
    (sym (ids_beyond (is_ending c.args.ends cs) n (length cs)
    (omega (arith, c.loop-place.auto.place-end, w.order, w.there))
    (λ i. none_past c.args.ends cs _ _ w n i c.loop-place-test.false)))

pub returns-clause-connections : goal.returns-clause-connections
returns-clause-connections c =
    let s = c.args.self.now in
    let cs = s.connections.items in
    let n = c.loop-place.place in
    let w = c.ending_within-after.ensures in
    ended_all c.args.entry c.args.ends s.connections n c.loop-place.self.connections
    (omega (arith, c.loop-place.auto.place-end, w.order, w.there))
    (λ i. none_past c.args.ends cs _ _ w n i c.loop-place-test.false)
    c.loop-place.invariant.ended
