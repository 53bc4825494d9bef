use Rattle.std.proofs.Common.{◌≡◌, ◌-◌, List, [], ◌∷◌, ◌++◌, length, arith, refl, ap, ◌∙◌}
use Rattle.std.proofs.lemmas.List.{length-append}
use Rattle.resp_stream.specs.declared.stack.Frame.{Frame}
use Rattle.resp_value.specs.ValueTree.{tree_of}
use Rattle.resp_stream.proofs.Closing.{close_up, close_next, close_all, no_length}
use Rattle.resp_stream.proofs.stack.close.Goals as goal

pub open-preserved : goal.open-preserved
open-preserved c = (
  omega (
    arith,
    ap length c.in-Some.ensures.items,
    length-append c.pop.new.self.items (c.in-Some.frame ∷ []),
    c.open.invariant.0,
  ),
  λ whole text at h.
      close_up whole text at c.open.room c.open.stack.items c.pop.new.self.items c.in-Some.frame
      (tree_of c.open.value) (tree_of c.in_ok-value.value) c.push.new.self
      c.in-Some.ensures.items c.in_ok-push.ensures.ok (omega arith) c.in_ok-value.ensures
      (c.open.invariant.1 whole text at h),
)

pub returns-clause-closes : goal.returns-clause-closes
returns-clause-closes c = λ whole text at h.
    let none : c.pop.new.self.items ≡ [] =
    no_length c.pop.new.self.items (omega (arith, c.in_default.ensures.cases.1)) in
    let was : c.open.stack.items ≡ [] =
    c.in_default.ensures.items ∙ ap (λ (q : List Frame). q ++ []) none in (
      close_all whole text at c.open.room c.open.stack.items (tree_of c.open.value) was
          (c.open.invariant.1 whole text at h),
      none,
    )

pub returns-then-left-gt0-clause-closes : goal.returns-then-left-gt0-clause-closes
returns-then-left-gt0-clause-closes c = λ whole text at h.
    close_next whole text at c.open.room c.open.stack.items c.pop.new.self.items
    c.push-then-left-gt0.new.self.items c.in-Some.frame
    (record {
      kind = c.in-Some.frame.kind;
      left = c.in-Some.frame.left - 1;
      done =
          c.push.new.self;
    }) (tree_of c.open.value)
    c.in-Some.ensures.items refl c.in_ok-push.ensures.ok (omega arith) c.in_ok-push-2.ensures.items
    (c.open.invariant.1 whole text at h)
