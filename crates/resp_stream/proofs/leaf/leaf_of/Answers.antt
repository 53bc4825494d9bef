use Rattle.std.proofs.Common.{◌∷◌, ap, arith}
use Rattle.resp_stream.specs.Parsed.{taken}
use Rattle.resp_stream.specs.Value.{choice_of, too_deep}
use Rattle.resp_stream.proofs.leaf.leaf_of.Goals as goal

pub returns-in-NotServed-clause-gives : goal.returns-in-NotServed-clause-gives
returns-in-NotServed-clause-gives c = (
  c.args.c ∷ c.args.bytes.now,
  ap (λ m. taken (choice_of too_deep m c.args.c) c.args.c c.args.bytes.now) c.in-NotServed.is,
  omega arith,
)

pub returns-in-Wrong-clause-gives : goal.returns-in-Wrong-clause-gives
returns-in-Wrong-clause-gives c = (
  c.args.c ∷ c.args.bytes.now,
  ap (λ m. taken (choice_of too_deep m c.args.c) c.args.c c.args.bytes.now) c.in-Wrong.is,
  omega arith,
)

pub returns-in-Aggregate-clause-gives : goal.returns-in-Aggregate-clause-gives
returns-in-Aggregate-clause-gives c = (
  c.args.c ∷ c.args.bytes.now,
  ap (λ m. taken (choice_of too_deep m c.args.c) c.args.c c.args.bytes.now) c.in-Aggregate.is,
  omega arith,
)
