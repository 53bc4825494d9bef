use Rattle.std.proofs.Common.{◌≡◌, ap, sym, ◌∙◌, ◌∷◌, ◌++◌, ◌+◌, drop}
use Rattle.std.proofs.lemmas.List.{at_drop_more}
use Rattle.command_words.specs.Keys.{there}
use Rattle.key_cmds.proofs.Wanted.{wanted, next_there, next_missing}
use Rattle.key_cmds.proofs.listed.those_there.Goals as goal

pub loop-key-preserved : goal.loop-key-preserved
loop-key-preserved c =
    let words = c.args.words.now in
    let space = c.args.space.now in
    let met = c.loop-key.met in
    let keys = c.loop-key.keys in
    let key = c.key-item.result in
    let after = drop (c.loop-key.key-index + 1) words in
    let back : keys ++ wanted space met (key ∷ after) ≡ there words space =
    ap (λ k. keys ++ wanted space met (k ∷ after)) c.key-item.is
    ∙ (sym (at_drop_more (λ ks. keys ++ wanted space met ks) words c.loop-key.key-index key
    c.loop-key-test.true)
    ∙ c.loop-key.invariant) in
    elim c.if-is_there.branch [
      | goal.then-is_there+in_ok-push_new w ↦
          let seen = w.met-is ∙ w.in_ok-push_new.ensures.met in
          let out = w.keys-is ∙ w.in_ok-push_new.ensures.keys in
          (λ i. out i ++ wanted space (seen i) after)
          ∙ (next_there space met key after (sym c.is_there.ensures ∙ w.if-is_there.true) keys
          ∙ back)
      | goal.else-is_there w ↦
          (λ i. w.keys-is i ++ wanted space (w.met-is i) after)
          ∙ (next_missing space met key after (sym c.is_there.ensures ∙ w.if-is_there.false) keys
          ∙ back)
    ]
