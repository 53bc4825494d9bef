use Rattle.std.proofs.Common.{refl, sym, ap, length, subst}
use Rattle.keyspace.specs.Places.{all_placed}
use Rattle.keyspace.specs.Plain.{content_of}
use Rattle.hash_cmds.specs.Changed.{HasFields}
use Rattle.hash_cmds.proofs.HashRows.{none_lost_by, on_err}
use Rattle.hash_cmds.proofs.TakenFields.{fields_back, if_ok, same_content}
use Rattle.hash_cmds.proofs.change.take_under.Goals as goal

pub returns-in-Some-clause-kept : goal.returns-in-Some-clause-kept
returns-in-Some-clause-kept c =
    if_ok (λ v kept none. same_content c.args.key.now c.args.space.now c.in-Some.content.now
    c.take_in.new.content (sym c.in-Some.ensures.value) (kept none))
    c.take_in.result c.take_in.ensures.kept

pub returns-in-Some-clause-back : goal.returns-in-Some-clause-back
returns-in-Some-clause-back c =
    if_ok (λ v back. fields_back c.args.key.now (all_placed v.items) c.args.space.now _
    (content_of c.in-Some.content.now) (content_of c.take_in.new.content)
    (sym c.in-Some.ensures.value) refl back)
    c.take_in.result c.take_in.ensures.back

pub returns-in-Some-clause-err : goal.returns-in-Some-clause-err
returns-in-Some-clause-err c =
    on_err (λ same. same_content c.args.key.now c.args.space.now c.in-Some.content.now
    c.take_in.new.content (sym c.in-Some.ensures.value) same)
    c.take_in.result c.take_in.ensures.err

pub returns-in-None-clause-went : goal.returns-in-None-clause-went
returns-in-None-clause-went c = λ fs has.
    none_lost_by c.args.names.now fs (length c.new.result.items) (ap length c.new.ensures.items)
    (subst (λ content. HasFields content fs) (sym c.in-None.ensures.value) has)
