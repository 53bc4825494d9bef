use Rattle.resp_value.proofs.SpellingSteps.{blob_step}
use Rattle.resp_value.proofs.put.put_blobs.Goals as goal

pub loop-word-preserved : goal.loop-word-preserved
loop-word-preserved c =
    blob_step c.args.words.now c.loop-word.word-index c.word-item.result c.as_slice.result.now
    c.args.out.now.items c.loop-word.out.items c.put_counted.new.out.items
    c.loop-word-test.true c.word-item.is c.as_slice.ensures c.loop-word.invariant
    c.in_ok-put_counted.ensures.ok
