use Rattle.std.proofs.Common.{◌<◌, ◌∙◌, ◌++◌, arith, ap, length}
use Rattle.std.proofs.lemmas.List.{take_all}
use Rattle.past_effects.specs.Sendings.{posts_for}
use Rattle.past_effects.proofs.Pasts.{first_found, next_found}
use Rattle.past_effects.proofs.posts.sent_slow.Goals as goal

pub loop-effect-init : goal.loop-effect-init
loop-effect-init c past legal same =
    let found = first_found c.args.limits.now c.args.id c.new-scan.result c.new-scan.ensures.most
    c.new-scan.ensures.connections c.new-scan.ensures.table c.new-scan.ensures.prefixes past legal
    same in
    (found.0, c.new-posts.ensures.items ∙ found.1)

pub loop-effect-preserved : goal.loop-effect-preserved
loop-effect-preserved c =
    let effects = c.args.effects.now in
    let i = c.loop-effect.effect-index in
    let e = c.effect-item.result in
    let lt : i < length effects = omega arith in
    next_found c.args.limits.now c.args.id effects i c.loop-effect.scan c.step.new.self
    c.loop-effect.posts.items c.push_posts.new.posts.items c.loop-effect.invariant e lt
    c.effect-item.is c.in_ok-sent.sent c.in_ok-sent.ensures
    (c.in_ok-push_posts.ensures
    ∙ ap (λ x. c.loop-effect.posts.items ++ posts_for e.entry c.args.id x) c.as_slice.ensures)

pub returns : goal.returns
returns c past legal same =
    let all = take_all c.loop-effect.effect-index c.args.effects.now c.loop-effect-test.false in
    (c.loop-effect.invariant past legal (all ∙ same)).1
