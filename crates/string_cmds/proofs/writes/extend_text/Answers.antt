use Rattle.std.proofs.Common.{Result, Ok, Err, OnErr, ap, sym, ◌∙◌}
use Rattle.keyspace.specs.Lending.{with_content}
use Rattle.keyspace.specs.Plain.{content_of}
use Rattle.keyspace.proofs.Changes.{with_content-same}
use Rattle.string_cmds.proofs.writes.extend_text.Goals as goal

on_err : {A E P Q : Type 0} → (P → Q) → (r : Result A E) → OnErr r P → OnErr r Q
on_err f (Ok a) p = p
on_err f (Err e) p = f p

pub returns-in-Some-clause-err : goal.returns-in-Some-clause-err
returns-in-Some-clause-err c =
    let key = c.args.key.now in
    let space = c.args.space.now in
    let kept = with_content-same key space (content_of c.in-Some.content.now)
    (sym c.in-Some.ensures.value) in
    on_err (λ same. ap (λ content. with_content key (content_of content) space) same ∙ kept)
    c.extend.result c.extend.ensures.err
