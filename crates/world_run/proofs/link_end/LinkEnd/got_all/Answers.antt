use Rattle.std.proofs.Common.{ap, refl, sym, ◌∙◌}
use Rattle.std.proofs.lemmas.Result.{err_from_is_err_and}
use Rattle.resp_stream.proofs.Values.{value_gives_at}
use Rattle.server_links.proofs.Items.{ends_bad, ends_more, reads_none, reads_short}
use Rattle.world_run.specs.Members.{Seat, seat}
use Rattle.world_run.proofs.Received.{got_reader, reads_less, reads_more, reads_stop, values}
use Rattle.world_run.proofs.Received.{values_run}
use Rattle.world_run.proofs.link_end.LinkEnd.got_all.Goals as goal

pub values-init : goal.values-init
values-init c =
    let e = c.args.self.now in
    let s = seat c.args.links.now c.args.member.now c.args.reader.now in
    (reads_none (values e) (values_run e) s c.args.lines.now, refl)

pub values-smaller : goal.values-smaller
values-smaller c =
    let g = value_gives_at _ _ _ _ c.in-Ok-Some.ensures.gives c.in-Ok-Some.field-0-is in
    reads_less c.values.reader c.next_value.new.self _ g.0

pub values-preserved : goal.values-preserved
values-preserved c =
    let e = c.args.self.now in
    let ls = c.args.links.now in
    let r = c.next_value.new.self in
    let g = value_gives_at _ _ _ _ c.in-Ok-Some.ensures.gives c.in-Ok-Some.field-0-is in
    let got = c.in_ok-got-in-Ok-Some.ensures.gives r in
    let kept = ap (λ (s : Seat). s.reader) got.1
    ∙ got_reader c.in-Ok-Some.value e (seat ls c.values.member r) in (
      reads_more e _ _ _ _ c.values.invariant.0 c.in-Ok-Some.value r g.0 g.1
          (seat ls c.got.new.member r) c.got.new.lines kept got,
      c.in_ok-got-in-Ok-Some.ensures.setup ∙ c.values.invariant.1,
    )

pub returns-in_err-got-in-Ok-Some-clause-gives : goal.returns-in_err-got-in-Ok-Some-clause-gives
returns-in_err-got-in-Ok-Some-clause-gives c =
    let g = value_gives_at _ _ _ _ c.in-Ok-Some.ensures.gives c.in-Ok-Some.field-0-is in
    let p = err_from_is_err_and c.from_residual.result c.from_residual.ensures.1 in
    rw p.1 (rw p.2
    (reads_stop c.args.self.now _ _ _ _ c.values.invariant.0 c.in-Ok-Some.value
    c.next_value.new.self g.0 g.1 _ _ _
    (c.in_err-got-in-Ok-Some.ensures.gives c.next_value.new.self)))

pub returns-in-Ok-None-clause-gives : goal.returns-in-Ok-None-clause-gives
returns-in-Ok-None-clause-gives c =
    let e = c.args.self.now in
    let g = value_gives_at _ _ _ _ c.in-Ok-None.ensures.gives c.in-Ok-None.field-0-is in
    (ends_more (values e) (values_run e) _ _ _ _ c.values.invariant.0 c.next_value.new.self g.0
    g.1).0

pub returns-in-Ok-None-clause-fault : goal.returns-in-Ok-None-clause-fault
returns-in-Ok-None-clause-fault c =
    let e = c.args.self.now in
    let g = value_gives_at _ _ _ _ c.in-Ok-None.ensures.gives c.in-Ok-None.field-0-is in
    (ends_more (values e) (values_run e) _ _ _ _ c.values.invariant.0 c.next_value.new.self g.0
    g.1).1

pub returns-in-Some-clause-gives : goal.returns-in-Some-clause-gives
returns-in-Some-clause-gives c =
    let e = c.args.self.now in
    (ends_bad (values e) (values_run e) _ _ _ _ c.values.invariant.0 c.next_value.new.self
    c.in-Err.fault c.in-Some.place c.in-Err.ensures.gives (sym c.in-Some.is ∙ c.place.ensures)).0

pub returns-in-Some-clause-fault : goal.returns-in-Some-clause-fault
returns-in-Some-clause-fault c =
    let e = c.args.self.now in
    (ends_bad (values e) (values_run e) _ _ _ _ c.values.invariant.0 c.next_value.new.self
    c.in-Err.fault c.in-Some.place c.in-Err.ensures.gives (sym c.in-Some.is ∙ c.place.ensures)).1

pub returns-in-None-clause-gives : goal.returns-in-None-clause-gives
returns-in-None-clause-gives c =
    let e = c.args.self.now in
    reads_short (values e) (values_run e) _ _ _ _ c.values.invariant.0 c.next_value.new.self
    c.in-Err.fault c.in-Err.ensures.gives (sym c.in-None.is ∙ c.place.ensures)
