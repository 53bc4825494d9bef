use Rattle.std.proofs.Common.{subst, sym}
use Rattle.resp_value.specs.Tree.{in_turn}
use Rattle.command_words.specs.Hashes.{set_all}
use Rattle.keyspace.specs.Plain.{content_of}
use Rattle.hash_cmds.specs.Changed.{Adds}
use Rattle.hash_cmds.proofs.HashRows.{changed_there, hash_there, on_err, on_ok}
use Rattle.hash_cmds.proofs.TakenFields.{if_ok, same_content}
use Rattle.hash_cmds.proofs.change.set_fields.Goals as goal

pub returns-in-Some-clause-ok : goal.returns-in-Some-clause-ok
returns-in-Some-clause-ok c =
    let key = c.args.key.now in
    let change = set_all (in_turn c.args.words.now) in
    let old = content_of c.in-Some.content.now in
    let new = content_of c.set_in.new.content in
    on_ok (λ becomes. hash_there key change c.args.space.now old _ c.in-Some.ensures.value
    (changed_there key change c.args.space.now old new c.in-Some.ensures.value becomes))
    c.set_in.result c.set_in.ensures.ok

pub returns-in-Some-clause-added : goal.returns-in-Some-clause-added
returns-in-Some-clause-added c =
    if_ok (λ n adds. subst (λ content. Adds (set_all (in_turn c.args.words.now)) content n)
    c.in-Some.ensures.value adds)
    c.set_in.result c.set_in.ensures.added

pub returns-in-Some-clause-err : goal.returns-in-Some-clause-err
returns-in-Some-clause-err c =
    on_err (λ same. same_content c.args.key.now c.args.space.now c.in-Some.content.now
    c.set_in.new.content (sym c.in-Some.ensures.value) same)
    c.set_in.result c.set_in.ensures.err
