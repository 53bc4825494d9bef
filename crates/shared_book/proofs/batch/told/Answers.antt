use Rattle.std.proofs.Common.{◌≡◌, ◌∷◌, ◌+◌, [], suc, arith, rules, sym, ap, subst, ◌∙◌, inl, refl}
use Rattle.std.proofs.Common.{length, List}
use Rattle.std.specs.List.{All}
use Rattle.std.specs.Vec.Iter.{into_iter_items}
use Rattle.std.proofs.lemmas.List.Elements.{All-tail}
use Rattle.turn_lock.specs.Seats.{StopsAt}
use Rattle.serial_model.specs.declared.history.BookReply.TheVariants.{Ran}
use Rattle.shared_book.specs.declared.logged.Answer.TheVariants.{Told, Held}
use Rattle.shared_book.specs.Batches.{Counts, IsOfRun, IsOfTake, Tells, TakeTells, ends_batch}
use Rattle.shared_book.specs.Batches.{ran_in}
use Rattle.shared_book.proofs.Batches.{none_behind}
use Rattle.shared_book.proofs.batch.told.Goals as goal

pub answers-preserved-in-Ok : goal.answers-preserved-in-Ok
answers-preserved-in-Ok c =
    let items : into_iter_items c.answers.rest ≡ c.in-Some.answer ∷ into_iter_items c.next.new.self
    = search rules in
    let left = into_iter_items c.next.new.self in
    let is : into_iter_items c.answers.rest ≡ Held c.in-Held.call ∷ left
    = items ∙ ap (λ z. z ∷ left) c.in-Held.is in
    let inv = c.answers.invariant in (
      inv.0 ∙ ap (λ z. c.answers.requests + ran_in z) is,
      λ end h. inv.1 end
          (subst (λ z. Tells c.answers.held.items z c.args.last end) (sym is)
          (inl (subst (λ z. Tells z left c.args.last end) c.in-Ok.ensures.items h))),
      subst (Counts c.answers.requests) is inv.2,
      All-tail IsOfRun (Held c.in-Held.call) left (subst (All IsOfRun) is inv.3),
      (subst (StopsAt ends_batch) is inv.4).1,
      inv.5,
    )

pub returns-in-Err-clause-requests : goal.returns-in-Err-clause-requests
returns-in-Err-clause-requests c =
    let items : into_iter_items c.answers.rest ≡ c.in-Some.answer ∷ into_iter_items c.next.new.self
    = search rules in
    let left = into_iter_items c.next.new.self in
    let is : into_iter_items c.answers.rest ≡ Held c.in-Held.call ∷ left
    = items ∙ ap (λ z. z ∷ left) c.in-Held.is in
    let inv = c.answers.invariant in
    let stops = subst (StopsAt ends_batch) is inv.4 in
    omega (arith, inv.0, ap ran_in is, none_behind left (stops.0 refl))

pub answers-preserved : goal.answers-preserved
answers-preserved c =
    let items : into_iter_items c.answers.rest ≡ c.in-Some.answer ∷ into_iter_items c.next.new.self
    = search rules in
    let left = into_iter_items c.next.new.self in
    let is : into_iter_items c.answers.rest ≡ Told (Ran c.in-Ran.entry) ∷ left
    = items ∙ ap (λ z. z ∷ left) (c.in-Told.is ∙ ap Told c.in-Ran.is) in
    let inv = c.answers.invariant in
    let counted = subst (Counts c.answers.requests) is inv.2 in
    let one : c.one_more-requests.result ≡ suc c.answers.requests
    = omega (arith, c.one_more-requests.ensures) in (
      omega (arith, inv.0, ap ran_in is, one),
      λ end h. inv.1 end (subst (λ z. Tells c.answers.held.items z c.args.last end) (sym is) h),
      subst (λ n. Counts n left) (sym one) counted.1,
      All-tail IsOfRun (Told (Ran c.in-Ran.entry)) left (subst (All IsOfRun) is inv.3),
      (subst (StopsAt ends_batch) is inv.4).1,
      inv.5,
    )

pub taken-requires : goal.taken-requires
taken-requires c = subst IsOfTake (sym c.answers.invariant.5) c.requires.take

empty_of : {A : Type 0} (xs : List A) → length xs ≡ 0 → xs ≡ []
empty_of [] none = refl
empty_of (x ∷ xs) none = absurd (omega arith)

pub returns-then-is_empty-clause-end : goal.returns-then-is_empty-clause-end
returns-then-is_empty-clause-end c =
    let none : length (into_iter_items c.answers.rest) ≡ 0 = search rules in
    let free : length c.answers.held.items ≡ 0 = search rules in
    let inv = c.answers.invariant in
    inv.1 c.taken.result
    (subst (λ z. Tells z (into_iter_items c.answers.rest) c.args.last c.taken.result)
    (sym (empty_of c.answers.held.items free))
    (subst (λ z. Tells [] z c.args.last c.taken.result)
    (sym (empty_of (into_iter_items c.answers.rest) none))
    (subst (λ z. TakeTells z c.taken.result) inv.5 c.taken.ensures)))
