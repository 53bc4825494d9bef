use Rattle.std.proofs.Common.{◌-◌, [], ◌∷◌, length, drop, reverse, arith, refl, ap, ◌∙◌}
use Rattle.std.proofs.lemmas.List.{length-append}
use Rattle.resp_value.specs.ValueTree.{tree_of}
use Rattle.resp_stream.proofs.StackSteps.{has_all, seen_none}
use Rattle.resp_stream.proofs.Running.{step_on, step_leaf, step_counts, step_open, none_gives}
use Rattle.resp_stream.proofs.Running.{err_gives}
use Rattle.resp_stream.proofs.stack.run.Goals as goal

pub returns-in-Ok-None-clause-gives : goal.returns-in-Ok-None-clause-gives
returns-in-Ok-None-clause-gives c =
    none_gives 8 c.args.text.now c.steps.at c.steps.room (reverse c.steps.stack.items)
    c.steps.invariant.1 c.split_at.result.1.now c.split_at.ensures.back
    (rw c.in-Ok-None.field-0-is at c.in-Ok-None.ensures.gives)

pub overflow_sub-next : goal.overflow_sub-next
overflow_sub-next c =
    (step_on 8 c.args.text.now c.steps.at c.steps.room (reverse c.steps.stack.items)
    c.steps.invariant.1 c.split_at.result.1.now c.split_at.ensures.back c.in-Ok-Some.step
    c.in-Ok-Some.after.now
    (rw c.in-Ok-Some.field-0-is at c.in-Ok-Some.ensures.gives)).within

pub steps-preserved-in-Open : goal.steps-preserved-in-Open
steps-preserved-in-Open c =
    let h = rw c.in-Ok-Some.field-0-is at c.in-Ok-Some.ensures.gives in
    let n =
    step_counts 8 c.args.text.now c.steps.at c.steps.room (reverse c.steps.stack.items)
    c.steps.invariant.1 c.split_at.result.1.now c.split_at.ensures.back c.in-Ok-Some.step
    c.in-Open.kind c.in-Open.count c.in-Ok-Some.after.now h c.in-Open.is in (
      omega (
        arith,
        n.1,
        c.steps.invariant.0,
        ap length c.in_ok-push_frame-in-Open.ensures,
        length-append c.steps.stack.items
            ((record { kind = c.in-Open.kind; left = c.in-Open.count - 1; done = [] })
            ∷ []),
      ),
      step_open 8 c.args.text.now c.steps.at c.steps.room (reverse c.steps.stack.items)
          c.steps.invariant.1 c.split_at.result.1.now c.split_at.ensures.back c.in-Ok-Some.step
          c.in-Open.kind c.in-Open.count c.in-Ok-Some.after.now
          (record { kind = c.in-Open.kind; left = c.in-Open.count - 1; done = [] })
          c.push_frame.new.stack.items c.steps.stack.items h c.in-Open.is refl
          c.in_ok-push_frame-in-Open.ensures
          refl refl refl,
      seen_none (drop (length c.args.text.now - length c.in-Ok-Some.after.now) c.args.text.now),
    )

pub returns-in-Ok-Some-close-clause-gives : goal.returns-in-Ok-Some-close-clause-gives
returns-in-Ok-Some-close-clause-gives c =
    let k = rw c.in-Ok-Some-close.field-0-is at c.in-Ok-Some-close.ensures.closes in
    let h = k 8 c.args.text.now (length c.args.text.now - length c.in-Ok-Some.after.now)
    (step_leaf 8 c.args.text.now c.steps.at c.steps.room (reverse c.steps.stack.items)
    c.steps.invariant.1 c.split_at.result.1.now c.split_at.ensures.back c.in-Ok-Some.step
    c.in-Leaf.value c.in-Ok-Some.after.now
    (rw c.in-Ok-Some.field-0-is at c.in-Ok-Some.ensures.gives) c.in-Leaf.is) in (
      omega arith,
      has_all 8 c.args.text.now (length c.args.text.now - length c.in-Ok-Some.after.now)
          c.close.new.room (tree_of c.in-Ok-Some-close.value) h.0,
    )

pub steps-smaller-in-Open : goal.steps-smaller-in-Open
steps-smaller-in-Open c =
    let g =
    step_on 8 c.args.text.now c.steps.at c.steps.room (reverse c.steps.stack.items)
    c.steps.invariant.1 c.split_at.result.1.now c.split_at.ensures.back c.in-Ok-Some.step
    c.in-Ok-Some.after.now
    (rw c.in-Ok-Some.field-0-is at c.in-Ok-Some.ensures.gives) in
    omega (arith, g.on, g.within)

pub steps-smaller : goal.steps-smaller
steps-smaller c =
    let g =
    step_on 8 c.args.text.now c.steps.at c.steps.room (reverse c.steps.stack.items)
    c.steps.invariant.1 c.split_at.result.1.now c.split_at.ensures.back c.in-Ok-Some.step
    c.in-Ok-Some.after.now
    (rw c.in-Ok-Some.field-0-is at c.in-Ok-Some.ensures.gives) in
    omega (arith, g.on, g.within)

pub steps-preserved : goal.steps-preserved
steps-preserved c = (
  c.in-Ok-None-close.ensures.room ∙ c.steps.invariant.0,
  (rw c.in-Ok-None-close.field-0-is at c.in-Ok-None-close.ensures.closes) 8 c.args.text.now
      (length c.args.text.now - length c.in-Ok-Some.after.now)
      (step_leaf 8 c.args.text.now c.steps.at c.steps.room (reverse c.steps.stack.items)
      c.steps.invariant.1 c.split_at.result.1.now c.split_at.ensures.back c.in-Ok-Some.step
      c.in-Leaf.value c.in-Ok-Some.after.now
      (rw c.in-Ok-Some.field-0-is at c.in-Ok-Some.ensures.gives) c.in-Leaf.is),
  seen_none (drop (length c.args.text.now - length c.in-Ok-Some.after.now) c.args.text.now),
)

pub returns-in-Err-clause-gives : goal.returns-in-Err-clause-gives
returns-in-Err-clause-gives c =
    err_gives 8 c.args.text.now c.steps.at c.steps.room (reverse c.steps.stack.items)
    c.steps.invariant.1 c.split_at.result.1.now c.split_at.ensures.back c.in-Err.e
    c.in-Err.ensures.gives
