use Rattle.std.proofs.Common.{rules, ◌≡◌, ◌+◌, ◌∷◌, ◌∙◌, sym, subst, arith}
use Rattle.std.specs.Prelude.{false}
use Rattle.std.specs.List.{All}
use Rattle.std.proofs.lemmas.List.Elements.{All-head, All-tail}
use Rattle.std.specs.Vec.Iter.{into_iter_items, into_iter_len}
use Rattle.turn_lock.specs.Seats.{StopsAt, TurnedAll, known}
use Rattle.turn_lock.proofs.Stops.{stops_more, none_more}
use Rattle.turn_lock.proofs.Turns.{turning_more, turning_fits, turning_ends}
use Rattle.turn_lock.proofs.batch.take_turns.Goals as goal

pub turns-init : goal.turns-init
turns-init g c = grind arith

pub turns-preserved : goal.turns-preserved
turns-preserved g c =
    let k = c.turns.invariant in
    let items : into_iter_items c.turns.rest ≡ c.in-Some.call ∷ into_iter_items c.next.new.self
    = search rules in
    let len : into_iter_len c.turns.rest ≡ into_iter_len c.next.new.self + 1 = search rules in
    let pushed = c.push_reserved.ensures.items in (
      search rules,
      search rules,
      search rules,
      turning_more g.S.Logged.setup g.S.Logged.stands g.S.Logged.step g.S.Logged.fits
          c.args.calls.items c.args.place.now.table_id c.args.place.now.me.0 c.turns.at _ _
          c.in-Some.call _ _ _ _ c.take_or_pass-reply.result c.turns.place.me
          c.wait_turn.new.place.me c.take_or_pass-reply.new.place.me items len
          pushed k.3 c.wait_turn.ensures.out c.take_or_pass-reply.ensures.turn
          c.take_or_pass-reply.ensures.sound,
      All-tail g.S.Refusing.refusable c.in-Some.call (into_iter_items c.next.new.self)
          (subst (All g.S.Refusing.refusable) items k.4),
      subst (StopsAt g.S.Refusing.refuses) (sym pushed)
          (stops_more g.S.Refusing.refuses c.turns.is_over c.turns.replies.items
          c.take_or_pass-reply.result k.5 k.6 c.take_or_pass-reply.ensures.refused),
      (λ h. subst (All (λ r. g.S.Refusing.refuses r ≡ false)) (sym pushed)
          (none_more g.S.Refusing.refuses c.turns.is_over c.is_refusal-is_over.result
          c.turns.replies.items c.take_or_pass-reply.result k.6
          c.take_or_pass-reply.ensures.refused c.is_refusal-is_over.ensures h)),
      (λ h. (c.take_or_pass-reply.result, sym c.is_refusal-is_over.ensures ∙ h)),
    )

pub take_or_pass-reply-requires-clause-refusable : goal.take_or_pass-reply-requires-clause-refusable
take_or_pass-reply-requires-clause-refusable g c =
    let items : into_iter_items c.turns.rest ≡ c.in-Some.call ∷ into_iter_items c.next.new.self
    = search rules in
    All-head g.S.Refusing.refusable c.in-Some.call (into_iter_items c.next.new.self)
    (subst (All g.S.Refusing.refusable) items c.turns.invariant.4)

pub wait_turn-requires-clause-waits : goal.wait_turn-requires-clause-waits
wait_turn-requires-clause-waits g c = grind arith

pub take_or_pass-reply-requires-clause-fits : goal.take_or_pass-reply-requires-clause-fits
take_or_pass-reply-requires-clause-fits g c =
    let items : into_iter_items c.turns.rest ≡ c.in-Some.call ∷ into_iter_items c.next.new.self
    = search rules in
    turning_fits g.S.Logged.setup g.S.Logged.stands g.S.Logged.step g.S.Logged.fits
    _ _ _ _ _ _ _ _ _ _ _ items c.turns.invariant.3 c.wait_turn.ensures.out

pub take_or_pass-reply-requires-clause-small : goal.take_or_pass-reply-requires-clause-small
take_or_pass-reply-requires-clause-small g c = grind arith

pub push_reserved-requires : goal.push_reserved-requires
push_reserved-requires g c = grind arith

pub overflow_add-at : goal.overflow_add-at
overflow_add-at g c = grind arith

pub returns-clause-turns : goal.returns-clause-turns
returns-clause-turns g c =
    let none : into_iter_len c.turns.rest ≡ 0 = search rules in
    subst (λ z. TurnedAll g.S.Logged.step c.args.calls.items c.turns.replies.items
    (known c.args.place.now.table_id c.args.place.now.me.0) (known z c.turns.place.me.0))
    (sym c.turns.invariant.0)
    (turning_ends g.S.Logged.setup g.S.Logged.stands g.S.Logged.step g.S.Logged.fits
    _ _ _ _ _ _ _ _ none c.turns.invariant.3).0

pub returns-clause-idle : goal.returns-clause-idle
returns-clause-idle g c = grind arith
