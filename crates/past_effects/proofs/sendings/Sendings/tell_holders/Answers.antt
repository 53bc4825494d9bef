use Rattle.std.proofs.Common.{◌<◌, ◌+◌, ◌∙◌, ◌++◌, [], arith, ap, drop, length}
use Rattle.std.proofs.lemmas.List.{get_or_read}
use Rattle.track_table.specs.Table.{without_keys}
use Rattle.serial_model.specs.Tracking.{group}
use Rattle.past_effects.specs.Seen.{unpassed}
use Rattle.past_effects.specs.Sendings.{told_sent}
use Rattle.past_effects.proofs.Groups.{holders_all, holders_next, keys_all, keys_next, told_key}
use Rattle.past_effects.proofs.sendings.Sendings.tell_holders.Goals as goal

pub loop-place-preserved : goal.loop-place-preserved
loop-place-preserved c =
    let cs = c.args.connections.now in
    let keys = c.args.keys.now in
    let i = c.loop-place.place in
    let rows = c.loop-place.table.rows in
    let key = c.as_slice-text.result.now in
    let lt : i < length keys = omega arith in
    let is = c.as_slice-text.ensures
    ∙ get_or_read keys i c.index-keys-place.result lt c.index-keys-place.is [] in
    let told = told_key cs c.args.passed c.in_ok-one.one c.holders.result.now key rows
    c.loop-place.self c.tell.new.self c.in_ok-one.ensures c.holders.ensures.list
    c.in_ok-tell.ensures in
    record {
      limit = c.forget_key.ensures.limit ∙ c.loop-place.invariant.limit;
      rows = ap (without_keys (drop (i + 1) keys)) c.forget_key.ensures.rows
          ∙ keys_next keys i rows key lt is ∙ c.loop-place.invariant.rows;
      told = ap (λ r. c.tell.new.self
          ++ told_sent cs (unpassed c.args.passed (group (drop (i + 1) keys) r)))
          c.forget_key.ensures.rows
          ∙ holders_next cs c.args.passed keys i rows c.loop-place.self _
          c.loop-place.invariant.told c.tell.new.self key lt is told;
    }

pub returns-clause-table : goal.returns-clause-table
returns-clause-table c =
    let rows = keys_all c.args.keys.now c.loop-place.place c.loop-place.table.rows _
    c.loop-place-test.false c.loop-place.invariant.rows in
    λ i. record { limit = c.loop-place.invariant.limit i; rows = rows i }

pub returns-clause-told : goal.returns-clause-told
returns-clause-told c =
    holders_all c.args.connections.now c.args.passed c.args.keys.now c.loop-place.place
    c.loop-place.table.rows c.loop-place.self _ c.loop-place.invariant.told
    c.loop-place-test.false
