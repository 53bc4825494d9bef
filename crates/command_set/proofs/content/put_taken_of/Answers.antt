use Rattle.std.proofs.Common.{ap, sym, ◌∙◌}
use Rattle.keyspace.specs.Lending.{with_content}
use Rattle.keyspace.specs.Plain.{content_of}
use Rattle.keyspace.proofs.Changes.{with_content-same}
use Rattle.command_set.proofs.TakenBack.{on_err}
use Rattle.command_set.proofs.content.put_taken_of.Goals as goal

pub returns-in-Some-clause-err : goal.returns-in-Some-clause-err
returns-in-Some-clause-err c =
    let key = c.args.key.now in
    let space = c.args.space.now in
    let kept = with_content-same key space (content_of c.in-Some.content.now)
    (sym c.in-Some.ensures.value) in
    on_err c.put_taken.result
    (λ same. ap (λ content. with_content key (content_of content) space) same ∙ kept)
    c.put_taken.ensures.err
