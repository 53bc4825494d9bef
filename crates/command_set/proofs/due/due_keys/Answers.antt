use Rattle.std.proofs.Common.{◌≡◌, ◌++◌, ap, sym, ◌∙◌, take, []}
use Rattle.std.proofs.lemmas.List.{get_or_read}
use Rattle.expiry.specs.Blocks.{block_at, joined}
use Rattle.expiry.specs.Index.{due, keys_of}
use Rattle.command_set.specs.InStep.{due_keys}
use Rattle.command_set.proofs.BlocksDue.{one_more}
use Rattle.command_set.proofs.due.due_keys.Goals as goal

pub loop-block-preserved : goal.loop-block-preserved
loop-block-preserved c =
    let m = c.args.moment in
    let bs = c.due_blocks-block-items.result.now in
    let i = c.loop-block.block-index in
    let lt = c.loop-block-test.true in
    let here : c.block-item.result ≡ block_at bs i =
    get_or_read bs i c.block-item.result lt c.block-item.is [] in
    c.in_ok-push_keys.ensures
    ∙ ap (λ l. l ++ keys_of c.due.result.now) c.loop-block.invariant
    ∙ ap (λ l. due_keys m (joined (take i bs)) ++ keys_of l)
    (c.due.ensures.due ∙ ap (due m) here)
    ∙ sym (one_more m bs i lt)
