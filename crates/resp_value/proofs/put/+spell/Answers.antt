use Rattle.std.proofs.Common.{arith, map, ap, ◌∙◌}
use Rattle.resp_value.specs.ValueTree.{tree_of}
use Rattle.resp_value.proofs.SpellingSteps.{value_step, pair_step}
use Rattle.resp_value.proofs.Prefixes.{on_err, prefix_then}
use Rattle.resp_value.proofs.put.+spell.Goals as goal

pub spell_pairs-loop-key-preserved : goal.spell_pairs-loop-key-preserved
spell_pairs-loop-key-preserved t c =
    pair_step c.args.proto c.as_slice-key-items.result.now c.args.pairs.now c.loop-key.key-index
    c.loop-key-item.result c.args.out.now.items c.loop-key.out.items c.spell.new.out.items
    c.spell-in-loop-key.new.out.items
    (grind arith)
    c.loop-key-test.true c.loop-key-item.is c.loop-key.invariant c.in_ok-spell.ensures.ok
    c.in_ok-spell-2.ensures.ok

pub spell_values-loop-value-preserved : goal.spell_values-loop-value-preserved
spell_values-loop-value-preserved t c =
    value_step c.args.proto c.as_slice-value-items.result.now c.args.values.now
    c.loop-value.value-index c.value-item.result c.args.out.now.items c.loop-value.out.items
    c.spell.new.out.items
    (ap (map tree_of) c.as_slice-value-items.ensures.value ∙ c.values.view_is)
    c.loop-value-test.true c.value-item.is c.loop-value.invariant c.in_ok-spell.ensures.ok

pub spell_pairs-returns-in_err-spell-2-clause-err :
    goal.spell_pairs-returns-in_err-spell-2-clause-err
spell_pairs-returns-in_err-spell-2-clause-err t c =
    on_err c.from_residual-in_err-spell-2.result (prefix_then _ _ _ _ c.loop-key.invariant
    (prefix_then _ _ _ _ c.in_ok-spell.ensures.ok c.in_err-spell-2.ensures.err))
