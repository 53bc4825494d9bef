use Rattle.resp_stream.proofs.Values.{values_more}
use Rattle.std.proofs.Common.{append-nil, sym, subst, arith}
use Rattle.client_link.specs.Pumps.{GetsPart}
use Rattle.client_link.proofs.Getting.{getting_none, getting_more, getting_stops}
use Rattle.client_link.proofs.Getting.{gets_bad, getting_less, gives_at}
use Rattle.client_link.proofs.hear.get_all.Goals as goal

pub values-init : goal.values-init
values-init g c = getting_none c.args.wire c.args.reader.now c.args.seat.now c.requires.within

pub values-smaller : goal.values-smaller
values-smaller g c = grind (arith, gives_at, getting_less)

pub values-preserved : goal.values-preserved
values-preserved g c = grind (arith, gives_at, getting_more)

pub returns-in-Err-got-clause-err : goal.returns-in-Err-got-clause-err
returns-in-Err-got-clause-err g c =
    let given = gives_at _ _ _ _ c.in-Ok-Some.ensures.gives c.in-Ok-Some.field-0-is in
    subst (λ e. GetsPart c.args.wire e c.args.reader.now c.args.seat.now c.got.new.seat)
    (sym c.end_by.ensures)
    (getting_stops c.args.wire c.args.reader.now c.values.reader c.args.seat.now c.values.seat
    c.values.invariant c.in-Ok-Some.value c.next_value.new.self given.0 given.1
    c.in-Err-got.refusal c.got.new.seat c.in-Err-got.ensures.err)

pub returns-in-Ok-None-clause-ok : goal.returns-in-Ok-None-clause-ok
returns-in-Ok-None-clause-ok g c = grind (arith, gives_at, values_more, append-nil)

pub returns-in-Some-clause-err : goal.returns-in-Some-clause-err
returns-in-Some-clause-err g c =
    gets_bad c.args.wire c.args.reader.now c.values.reader c.args.seat.now c.values.seat
    c.values.invariant c.next_value.new.self c.in-Err.fault c.in-Some.field-0
    c.in-Err.ensures.gives c.in-Some.ensures
