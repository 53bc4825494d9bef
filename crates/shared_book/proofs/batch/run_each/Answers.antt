use Rattle.std.proofs.Common.{◌≡◌, ◌∷◌, rules, refl, ap, ◌∙◌, [], List, length, arith}
use Rattle.std.specs.Vec.Iter.{into_iter_items}
use Rattle.shared_book.specs.Batches.{requests_in}
use Rattle.shared_book.proofs.Each.{running_begins, running_more, running_refused, runs_alone}
use Rattle.shared_book.proofs.Each.{running_takes, running_ends, running_held}
use Rattle.shared_book.proofs.batch.run_each.Goals as goal

empty_of : {A : Type 0} (xs : List A) → length xs ≡ 0 → xs ≡ []
empty_of [] none = refl
empty_of (x ∷ xs) none = absurd (omega arith)

pub calls-init : goal.calls-init
calls-init g c = grind (arith, running_begins)

pub calls-preserved : goal.calls-preserved
calls-preserved g c =
    let items : into_iter_items c.calls.rest ≡ c.in-Some.call ∷ into_iter_items c.next.new.self
    = search rules in
    let left = into_iter_items c.next.new.self in
    let ran = rw c.in-Ok-Entry.field-0-is at c.in-Ok-Entry.ensures.ok in (
      running_more c.args.id c.args.now c.args.requests (requests_in c.args.calls.items)
          c.calls.requests (into_iter_items c.calls.rest) c.args.seat.now c.calls.seat
          c.calls.invariant.0 c.in-Run.id c.in-Run.now c.in-Run.words left
          (items ∙ ap (λ z. z ∷ left) c.in-Run.is) c.run.new.seat ran.0,
      ran.0.grows.lock ∙ c.calls.invariant.1,
    )

pub unreachable-requires : goal.unreachable-requires
unreachable-requires g c = grind (arith, runs_alone)

pub returns-in-Ok-Held : goal.returns-in-Ok-Held
returns-in-Ok-Held g c =
    let items : into_iter_items c.calls.rest ≡ c.in-Some.call ∷ into_iter_items c.next.new.self
    = search rules in
    let left = into_iter_items c.next.new.self in
    let held = rw c.in-Ok-Held.field-0-is at c.in-Ok-Held.ensures.ok in
    running_held c.args.id c.args.now c.args.requests (requests_in c.args.calls.items)
    c.calls.requests (into_iter_items c.calls.rest) c.args.seat.now c.calls.seat
    c.calls.invariant.0 c.in-Run.id c.in-Run.now c.in-Run.words left
    (items ∙ ap (λ z. z ∷ left) c.in-Run.is) c.in-Ok-Held.call held.0 c.held_back.result
    c.held_back.ensures c.run.new.seat held.1

pub returns-in-Err : goal.returns-in-Err
returns-in-Err g c =
    let items : into_iter_items c.calls.rest ≡ c.in-Some.call ∷ into_iter_items c.next.new.self
    = search rules in
    let left = into_iter_items c.next.new.self in
    running_refused c.args.id c.args.now c.args.requests (requests_in c.args.calls.items)
    c.calls.requests (into_iter_items c.calls.rest) c.args.seat.now c.calls.seat
    c.calls.invariant.0 c.in-Run.id c.in-Run.now c.in-Run.words left
    (items ∙ ap (λ z. z ∷ left) c.in-Run.is) c.in-Err.refusal c.run.new.seat
    c.in-Err.ensures.err

pub returns-in-Ok : goal.returns-in-Ok
returns-in-Ok g c =
    let none : length (into_iter_items c.calls.rest) ≡ 0 = search rules in
    running_takes c.args.id c.args.now c.args.requests
    (requests_in c.args.calls.items) c.calls.requests (into_iter_items c.calls.rest)
    c.args.seat.now c.calls.seat c.calls.invariant.0
    (empty_of (into_iter_items c.calls.rest) none) c.in-Ok.front c.take.new.seat
    c.in-Ok.ensures.ok

pub returns : goal.returns
returns g c =
    let none : length (into_iter_items c.calls.rest) ≡ 0 = search rules in
    running_ends c.args.id c.args.now c.args.requests
    (requests_in c.args.calls.items) c.calls.requests (into_iter_items c.calls.rest)
    c.args.seat.now c.calls.seat c.calls.invariant.0
    (empty_of (into_iter_items c.calls.rest) none) c.in-Err-take.refusal c.take.new.seat
    c.in-Err-take.ensures.err
