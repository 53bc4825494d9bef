use Rattle.std.proofs.Common.{arith, List, [], ◌∷◌, ◌++◌, subst, sym, ◌≡◌, length, rules}
use Rattle.std.specs.Option.{option_to_list}
use Rattle.serial_model.specs.declared.history.BookCall.{BookCall}
use Rattle.serial_model.specs.declared.history.BookCall.TheVariants.{Take}
use Rattle.turn_lock.specs.Seats.{TurnedAll, StopsAt}
use Rattle.turn_lock.specs.Own.{Grows}
use Rattle.shared_book.specs.Turns.{TurnStep, most}
use Rattle.shared_book.specs.Batches.{EndsSo, ends_batch, requests_in}
use Rattle.shared_book.specs.declared.logged.Answer.{Answer}
use Rattle.shared_book.proofs.Batches.{ToldAll, stops_front, tells}
use Rattle.shared_book.proofs.Each.{ends_from, last_off, unplayed_grows}
use Rattle.shared_book.proofs.batch.run_all.Goals as goal
use Rattle.shared_book.proofs.batch.run_all.Goals.{In-Some, In-Err-play_all}
use Rattle.shared_book.proofs.batch.run_all.Given as given

-- what was popped is the last answer
parted : (g : given.Over) → (c : goal.In-Some g)
    → c.in-Ok-play_all.answers.items ≡ c.pop.new.self.items ++ c.in-Some.last ∷ []
parted g c = grind arith

told_all : (g : given.Over) → (c : goal.In-Some g) → ToldAll c.args.id c.args.now
    (requests_in c.args.calls.items) c.pop.new.self.items c.in-Some.last c.args.seat.now
    c.play_all.new.seat
told_all g c =
    tells c.args.id c.args.now c.args.calls.items c.pop.new.self.items c.in-Some.last
    c.args.seat.now c.play_all.new.seat c.requires.runs c.requires.within c.requires.admitted
    c.in-Ok-play_all.ensures.not_less
    (subst (λ (z : List Answer). TurnedAll TurnStep (c.args.calls.items
    ++ Take c.args.id most ∷ []) z c.args.seat.now c.play_all.new.seat) (parted g c)
    (subst (λ (z : List BookCall). TurnedAll TurnStep z c.in-Ok-play_all.answers.items
    c.args.seat.now c.play_all.new.seat) c.in-Ok.ensures.items c.in-Ok-play_all.ensures.all))
    (subst (StopsAt ends_batch) (parted g c) c.in-Ok-play_all.ensures.stops)

none_played : (g : given.Over) → (c : goal.In-Err-play_all g)
    → Grows c.args.seat.now c.play_all.new.seat []
none_played g c = grind (arith, unplayed_grows)

pub told-requires-clause-runs : goal.told-requires-clause-runs
told-requires-clause-runs g c =
    (told_all g (goal.at.told-requires-clause-runs g c).In-Some).are

pub told-requires-clause-take : goal.told-requires-clause-take
told-requires-clause-take g c =
    (told_all g (goal.at.told-requires-clause-take g c).In-Some).last_is

pub told-requires-clause-counted : goal.told-requires-clause-counted
told-requires-clause-counted g c =
    (told_all g (goal.at.told-requires-clause-counted g c).In-Some).counts c.args.requests
    c.requires.counted

pub told-requires-clause-stops : goal.told-requires-clause-stops
told-requires-clause-stops g c =
    let is = parted g (goal.at.told-requires-clause-stops g c).In-Some in
    stops_front c.pop.new.self.items (c.in-Some.last ∷ [])
    (subst (StopsAt ends_batch) is c.in-Ok-play_all.ensures.stops)

pub run_each-requires-in-Err-play_all-clause-within :
    goal.run_each-requires-in-Err-play_all-clause-within
run_each-requires-in-Err-play_all-clause-within g c =
    let at = goal.at.run_each-requires-in-Err-play_all-clause-within g c in
    (none_played g at.In-Err-play_all).within

pub returns-in-Some : goal.returns-in-Some
returns-in-Some g c =
    subst (λ n. EndsSo c.args.id c.args.now c.args.requests (requests_in c.args.calls.items) n
    c.told.result.end c.args.seat.now c.play_all.new.seat) (sym c.told.ensures.requests)
    ((told_all g (goal.at.returns-in-Some g c).In-Some).end_is c.told.result.end
    c.told.ensures.end c.args.requests c.requires.counted)

pub returns-in-Err-play_all : goal.returns-in-Err-play_all
returns-in-Err-play_all g c =
    let popped = c.pop-in-Err-play_all in
    let long : length popped.new.self.items ≡ length c.args.calls.items = search rules in
    let same = last_off c.args.calls.items popped.new.self.items (Take c.args.id most)
    (option_to_list popped.result) (grind arith) long in
    let each = c.run_each-in-Err-play_all in
    ends_from c.args.id c.args.now c.args.requests (requests_in c.args.calls.items)
    each.result.requests each.result.end c.args.seat.now c.play_all.new.seat each.new.seat
    (none_played g (goal.at.returns-in-Err-play_all g c).In-Err-play_all)
    (subst (λ z. EndsSo c.args.id c.args.now c.args.requests (requests_in z) each.result.requests
    each.result.end c.play_all.new.seat each.new.seat) same each.ensures)
