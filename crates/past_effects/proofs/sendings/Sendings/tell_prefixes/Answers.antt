use Rattle.std.proofs.Common.{◌∙◌, ◌++◌, ◌<◌, ap, arith, length}
use Rattle.std.specs.List.{flat_map}
use Rattle.past_effects.specs.Seen.{unpassed}
use Rattle.past_effects.specs.Sendings.{told_at, told_sent}
use Rattle.past_effects.proofs.Groups.{group_is, places_all, places_next}
use Rattle.past_effects.proofs.sendings.Sendings.tell_prefixes.Goals as goal

pub loop-place-preserved : goal.loop-place-preserved
loop-place-preserved c =
    let places = c.deref-place-items.result.now in
    let lt : c.loop-place.place-index < length places = omega arith in
    places_next c.args.connections.now c.args.passed (told_at c.args.keys.now c.args.prefixes.now)
    places c.loop-place.place-index c.loop-place.self _ c.loop-place.invariant c.tell_at.new.self
    lt c.in_ok-tell_at.ensures

pub returns : goal.returns
returns c =
    let told = told_at c.args.keys.now c.args.prefixes.now in
    places_all c.args.connections.now c.args.passed told c.deref-place-items.result.now
    c.loop-place.place-index c.loop-place.self _ c.loop-place.invariant c.loop-place-test.false
    ∙ ap (λ l. c.args.self.now
    ++ told_sent c.args.connections.now (unpassed c.args.passed (flat_map told l)))
    (c.deref-place-items.ensures.value ∙ c.in_ok-places.ensures)
    ∙ ap (λ l. c.args.self.now
    ++ told_sent c.args.connections.now (unpassed c.args.passed l))
    (group_is c.args.keys.now c.args.prefixes.now)
