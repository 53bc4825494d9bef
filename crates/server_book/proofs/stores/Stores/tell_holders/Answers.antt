use Rattle.serial_model.specs.Tracking.{drop_group}
use Rattle.server_book.specs.Connections.{ConnectionsState}
use Rattle.server_book.specs.Sendings.{before_posts, unpassed}
use Rattle.server_book.proofs.Routing.{before_told}
use Rattle.server_book.proofs.Sendings.{on_err}
use Rattle.server_book.proofs.Groups.{each_at, each_length, each_row}
use Rattle.server_book.proofs.Groups.{group_told, told_more}
use Rattle.std.proofs.Common.{sym, ap, ◌∙◌, arith, length, ◌<◌, [], take}
use Rattle.std.proofs.lemmas.List.{get_or_read, take_all}
use Rattle.track_table.specs.declared.table.Held.{Held}
use Rattle.track_table.specs.Table.{TableState, holders_of}
use Rattle.server_book.proofs.stores.Stores.tell_holders.Goals as goal

pub returns-in_err-tell-clause-back : goal.returns-in_err-tell-clause-back
returns-in_err-tell-clause-back c =
    let s = c.args.self.now in
    let rows = take c.loop-place.place (each_row c.args.keys.now s.table.rows) in
    on_err _ _ (c.in_err-tell.ensures.err
    ∙ ap (λ (x : ConnectionsState). before_posts x.posts x.items) c.loop-place.invariant.told
    ∙ before_told c.args.entry (unpassed c.args.but (drop_group rows)) s.connections)

pub loop-place-preserved : goal.loop-place-preserved
loop-place-preserved c =
    let s = c.args.self.now in
    let keys = c.args.keys.now in
    let rows = s.table.rows in
    let k = c.loop-place.place in
    let key = c.as_slice-in-loop-place.result.now in
    let lt : k < length keys = omega (arith, c.loop-place-test.true) in
    let at = get_or_read keys k c.index-keys-place.result lt c.index-keys-place.is [] in
    let is = c.as_slice-in-loop-place.ensures ∙ at in
    let row = each_at keys rows k lt in record {
      table = c.loop-place.invariant.table;
      space = c.loop-place.invariant.space;
      prefixes = c.loop-place.invariant.prefixes;
      told = told_more c.args.entry c.args.but s.connections c.loop-place.self.connections
          (each_row keys rows) k key c.holders-holders.result.now c.tell.new.self
          c.loop-place.invariant.told
          (omega (arith, lt, each_length keys rows))
          (is ∙ sym (ap (λ (r : Held). r.key) row))
          (c.holders-holders.ensures.list
          ∙ ap (λ (t : TableState). holders_of c.as_slice.result.now t.rows)
          c.loop-place.invariant.table
          ∙ ap (λ x. holders_of x rows) (c.as_slice.ensures ∙ at)
          ∙ sym (ap (λ (r : Held). r.holders) row))
          c.in_ok-tell.ensures.ok;
    }

pub returns-clause-told : goal.returns-clause-told
returns-clause-told c = grind (arith, each_row, each_length, take_all, group_told)
