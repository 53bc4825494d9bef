use Rattle.std.proofs.Common.{ap, sym, ◌∙◌, ◌∷◌, ◌+◌, drop}
use Rattle.std.specs.FinMap.{remove}
use Rattle.std.proofs.lemmas.List.{at_drop_more}
use Rattle.command_words.specs.Keys.{remove_each}
use Rattle.key_cmds.proofs.writes.remove_each.Goals as goal

pub loop-key-preserved : goal.loop-key-preserved
loop-key-preserved c =
    let words = c.args.words.now in
    let space = c.loop-key.space in
    let after = drop (c.loop-key.key-index + 1) words in
    ap (remove_each after) (c.take.ensures.gone ∙ ap (remove space) c.as_slice.ensures)
    ∙ (ap (λ key. remove_each (key ∷ after) space) c.key-item.is
    ∙ (sym (at_drop_more (λ ks. remove_each ks space) words c.loop-key.key-index
    c.key-item.result c.loop-key-test.true)
    ∙ c.loop-key.invariant))
