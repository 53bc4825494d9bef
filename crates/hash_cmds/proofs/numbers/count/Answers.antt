use Rattle.std.proofs.Common.{refl, sym}
use Rattle.keyspace.specs.Plain.{content_of}
use Rattle.hash_cmds.proofs.HashRows.{on_err}
use Rattle.hash_cmds.proofs.TakenFields.{if_ok, same_content}
use Rattle.hash_cmds.proofs.Counting.{counted, had, none_held}
use Rattle.hash_cmds.proofs.numbers.count.Goals as goal

pub returns-in-Some-clause-row : goal.returns-in-Some-clause-row
returns-in-Some-clause-row c =
    if_ok (counted c.args.key.now c.args.field.now c.args.number.now c.args.space.now
    (content_of c.in-Some.content.now) (content_of c.count_in.new.content) _
    c.in-Some.ensures.value refl)
    c.count_in.result c.count_in.ensures.ok

pub returns-in-Some-clause-had : goal.returns-in-Some-clause-had
returns-in-Some-clause-had c =
    if_ok (had c.args.key.now c.args.field.now c.args.number.now c.args.space.now
    (content_of c.in-Some.content.now) (content_of c.count_in.new.content) _
    c.in-Some.ensures.value refl)
    c.count_in.result c.count_in.ensures.ok

pub returns-in-Some-clause-err : goal.returns-in-Some-clause-err
returns-in-Some-clause-err c =
    on_err (λ same. same_content c.args.key.now c.args.space.now c.in-Some.content.now
    c.count_in.new.content (sym c.in-Some.ensures.value) same)
    c.count_in.result c.count_in.ensures.err

pub count_first-requires : goal.count_first-requires
count_first-requires c = none_held _ c.in-None.ensures.value
