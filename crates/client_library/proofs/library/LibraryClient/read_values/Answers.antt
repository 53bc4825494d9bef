use Rattle.std.proofs.Common.{arith}
use Rattle.resp_stream.proofs.Values.{value_gives_at}
use Rattle.client_library.proofs.Reading.{getting_cut, getting_ends, getting_more, getting_none}
use Rattle.client_library.proofs.Reading.{getting_told, reads_less}
use Rattle.client_library.proofs.library.LibraryClient.read_values.Goals as goal

pub values-init : goal.values-init
values-init c = grind (arith, getting_none)

pub values-smaller : goal.values-smaller
values-smaller c = grind (arith, value_gives_at, reads_less)

pub values-preserved : goal.values-preserved
values-preserved c = grind (arith, value_gives_at, getting_more)

pub invariant_of-self : goal.invariant_of-self
invariant_of-self c = c.get.ensures.legal c.values.invariant.legal

pub returns-in-Err-get : goal.returns-in-Err-get
returns-in-Err-get c =
    let i = c.values.self-inside in
    getting_cut c.args.self.now i.state i.reader c.values.invariant c.next_value.new.self
    c.get.new.state c.in-Err-get.ensures.err

pub invariant_of-self-in-Ok-None : goal.invariant_of-self-in-Ok-None
invariant_of-self-in-Ok-None c = c.values.invariant.legal

pub returns-in-Ok-None : goal.returns-in-Ok-None
returns-in-Ok-None c =
    let i = c.values.self-inside in
    let g = value_gives_at _ _ _ _ c.in-Ok-None.ensures.gives c.in-Ok-None.field-0-is in
    getting_ends c.args.self.now i.state i.reader c.values.invariant c.next_value.new.self g.0 g.1

pub invariant_of-self-in-Err : goal.invariant_of-self-in-Err
invariant_of-self-in-Err c = c.close.ensures.legal c.values.invariant.legal

pub returns-in-Err : goal.returns-in-Err
returns-in-Err c =
    let i = c.values.self-inside in
    getting_told c.args.self.now i.state i.reader c.values.invariant c.next_value.new.self
    c.in-Err.fault c.told_by.result c.close.new.state c.close.ensures.closed
    c.in-Err.ensures.gives c.told_by.ensures
