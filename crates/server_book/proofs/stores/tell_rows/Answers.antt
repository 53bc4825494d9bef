use Rattle.server_book.proofs.Sendings.{on_err}
use Rattle.server_book.proofs.Groups.{told_more}
use Rattle.server_book.proofs.Routing.{before_told, unpassed_none}
use Rattle.std.proofs.Common.{ap, ◌∙◌, arith, length, ◌<◌, None, take}
use Rattle.std.proofs.lemmas.List.{get_or_read, take_all}
use Rattle.serial_model.specs.Tracking.{drop_group}
use Rattle.server_book.specs.Connections.{ConnectionsState}
use Rattle.server_book.specs.Sendings.{before_posts, unpassed}
use Rattle.track_table.specs.declared.table.Held.{Held}
use Rattle.track_table.specs.Places.{nobody}
use Rattle.server_book.proofs.stores.tell_rows.Goals as goal

pub returns-in_err-tell-clause-back : goal.returns-in_err-tell-clause-back
returns-in_err-tell-clause-back c =
    on_err _ _ (c.in_err-tell.ensures.err
    ∙ ap (λ (x : ConnectionsState). before_posts x.posts x.items) c.loop-place.invariant
    ∙ before_told c.args.entry
    (unpassed None (drop_group (take c.loop-place.place c.args.rows.now)))
    c.args.connections.now)

pub loop-place-preserved : goal.loop-place-preserved
loop-place-preserved c =
    let rows = c.args.rows.now in
    let k = c.loop-place.place in
    let lt : k < length rows = omega (arith, c.loop-place-test.true) in
    let row = get_or_read rows k c.index-rows-place.result lt c.index-rows-place.is nobody in
    told_more c.args.entry None c.args.connections.now c.loop-place.connections rows k
    c.key.result.now c.holders.result.now c.tell.new.self c.loop-place.invariant lt
    (c.key.ensures ∙ ap (λ (r : Held). r.key) row)
    (c.holders.ensures ∙ ap (λ (r : Held). r.holders) row)
    c.in_ok-tell.ensures.ok

pub returns-clause-told : goal.returns-clause-told
returns-clause-told c = grind (arith, take_all, unpassed_none)
