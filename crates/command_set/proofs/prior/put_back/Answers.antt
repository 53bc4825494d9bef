use Rattle.std.proofs.Common.{◌≡◌, ◌∙◌, ◌-◌, ap, sym, Some, length, slice_get}
use Rattle.command_set.proofs.TakenBack.{popped}
use Rattle.command_set.proofs.prior.put_back.Goals as goal

pub priors-preserved : goal.priors-preserved
priors-preserved c =
    let priors = c.priors.priors.items in
    let at : slice_get priors (length priors - 1) ≡ Some c.in-Some.prior.now =
    ap (λ ps. slice_get ps (length ps - 1)) (sym c.deref.ensures.value)
    ∙ sym c.in-Some.ensures.value in
    record {
      same = popped priors c.let_go_last.new.priors.items c.in-Some.prior.now c.priors.space
          c.put_back_one.new.space at c.let_go_last.ensures.rest c.in_ok-put_back_one.ensures.ok
          ∙ c.priors.invariant.same;
      step = c.put_back_one.ensures.step;
    }
