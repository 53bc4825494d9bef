use Rattle.std.proofs.Common.{◌≡◌, ◌+◌, ap, sym, ◌∙◌, drop, []}
use Rattle.std.proofs.lemmas.List.{get_or_read}
use Rattle.command_words.specs.Keys.{remove_each}
use Rattle.expiry.specs.Blocks.{block_at, joined}
use Rattle.expiry.specs.Index.{due, keys_of}
use Rattle.command_set.specs.InStep.{due_keys}
use Rattle.command_set.proofs.BlocksDue.{one_removed}
use Rattle.command_set.proofs.due.remove_due.Goals as goal

pub loop-block-preserved : goal.loop-block-preserved
loop-block-preserved c =
    let m = c.args.moment in
    let bs = c.args.blocks.now in
    let i = c.loop-block.block-index in
    let lt = c.loop-block-test.true in
    let space = c.loop-block.space in
    let here : c.block-item.result ≡ block_at bs i =
    get_or_read bs i c.block-item.result lt c.block-item.is [] in
    ap (remove_each (due_keys m (joined (drop (i + 1) bs)))) (c.remove_keys.ensures
    ∙ ap (λ l. remove_each (keys_of l) space) (c.due.ensures.due ∙ ap (due m) here))
    ∙ sym (one_removed m bs i lt space) ∙ c.loop-block.invariant
