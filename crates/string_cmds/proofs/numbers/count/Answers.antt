use Rattle.std.proofs.Common.{◌∙◌, ap, refl}
use Rattle.keyspace.specs.Lending.{with_held}
use Rattle.keyspace.specs.Plain.{held_of}
use Rattle.keyspace.proofs.Changes.{with_held-same}
use Rattle.string_cmds.proofs.Counting.{counted, had, if_ok, on_err}
use Rattle.string_cmds.proofs.numbers.count.Goals as goal

pub returns-in-Some-clause-row : goal.returns-in-Some-clause-row
returns-in-Some-clause-row c =
    if_ok (counted c.args.key.now c.args.number.now c.args.space.now
    (held_of c.in-Some.held.now) (held_of c.count_in.new.held) _ c.in-Some.ensures.value refl)
    c.count_in.result c.count_in.ensures.ok

pub returns-in-Some-clause-had : goal.returns-in-Some-clause-had
returns-in-Some-clause-had c =
    if_ok (had c.args.key.now c.args.number.now c.args.space.now
    (held_of c.in-Some.held.now) (held_of c.count_in.new.held) _ c.in-Some.ensures.value refl)
    c.count_in.result c.count_in.ensures.ok

pub returns-in-Some-clause-err : goal.returns-in-Some-clause-err
returns-in-Some-clause-err c =
    let key = c.args.key.now in
    let space = c.args.space.now in
    on_err (λ same. ap (λ h. with_held key (held_of h) space) same
    ∙ with_held-same key space (held_of c.in-Some.held.now) c.in-Some.ensures.value)
    c.count_in.result c.count_in.ensures.err
