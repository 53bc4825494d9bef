use Rattle.std.proofs.Common.{arith, subst}
use Rattle.resp_stream.specs.LongBlobs.{LiesAt}
use Rattle.resp_stream.specs.Request.{word_rule}
use Rattle.resp_stream.proofs.LongBlob.{last_here}
use Rattle.resp_stream.proofs.request.last_word.Goals as goal

pub returns-in_ok-place-in-Words-default-eq1-default :
    goal.returns-in_ok-place-in-Words-default-eq1-default
returns-in_ok-place-in-Words-default-eq1-default c =
    let k = c.in-Words-default-eq1-default in
    let p = c.in_ok-place-in-Words-default-eq1-default in
    rw k.is (
    last_here c.args.text.now k.at p.place.first p.place.count k.words
    (grind arith)
    (subst (λ q. LiesAt word_rule q p.place.first p.place.count) c.split_at.ensures.back
    p.ensures.lies)
    (omega (arith, p.ensures.within, c.saturating_sub.ensures))
    )
