use Rattle.std.proofs.Common.{ap, sym, ◌∙◌, ◌++◌, ◌∷◌, [], map}
use Rattle.std.specs.List.{filter}
use Rattle.resp_value.specs.Tree.{in_turn}
use Rattle.command_words.specs.Hashes.{field_set}
use Rattle.command_words.specs.KeyLists.{each_once}
use Rattle.command_rows.proofs.KeysMet.{is_fresh}
use Rattle.string_cmds.proofs.KeysOnce.{all_fresh, more_first, more_again}
use Rattle.string_cmds.proofs.keys.many_once.Goals as goal

pub keys-init : goal.keys-init
keys-init c =
    let keys = each_once (map (λ p. p.0) (in_turn c.args.words.now)) in
    (λ i. c.new-keys.ensures i ++ filter (is_fresh (c.new-met.ensures i)) keys) ∙ all_fresh keys

pub keys-preserved-in_ok-push : goal.keys-preserved-in_ok-push
keys-preserved-in_ok-push c =
    let named = c.as_slice.ensures in
    more_first c.key-item.result c.in_ok-from_slice.field-0 c.keys.met c.set.new.self c.keys.keys
    c.keys.left.now _ c.in-len2-up.len_at_least c.key-item.is
    (c.in_ok-set.ensures.ok ∙ ap (λ n. field_set n c.in_ok-from_slice.field-0 c.keys.met) named)
    c.keys.invariant
    (ap (is_fresh c.keys.met) (sym named) ∙ (sym c.in_ok-set.ensures.is_new ∙ c.if-branch.true))
    c.push.new.self
    (c.in_ok-push.ensures.ok ∙ ap (λ k. c.keys.keys ++ k ∷ []) c.in_ok-copy.ensures)

pub keys-preserved : goal.keys-preserved
keys-preserved c =
    let named = c.as_slice.ensures in
    more_again c.key-item.result c.in_ok-from_slice.field-0 c.keys.met c.set.new.self c.keys.keys
    c.keys.left.now _ c.in-len2-up.len_at_least c.key-item.is
    (c.in_ok-set.ensures.ok ∙ ap (λ n. field_set n c.in_ok-from_slice.field-0 c.keys.met) named)
    c.keys.invariant
    (ap (is_fresh c.keys.met) (sym named) ∙ (sym c.in_ok-set.ensures.is_new ∙ c.if-branch.false))
