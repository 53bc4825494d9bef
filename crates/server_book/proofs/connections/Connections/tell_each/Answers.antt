use Rattle.std.proofs.Common.{◌≡◌, ◌<◌, ℕ, List, Option, ap, ◌∙◌, arith, length, take}
use Rattle.redirect.specs.Messages.{push_of}
use Rattle.serial_model.specs.Tracking.{told_to}
use Rattle.server_book.specs.Connections.{ConnectionsState}
use Rattle.server_book.specs.Sendings.{before_posts, unpassed}
use Rattle.server_book.proofs.Routing.{before_told, one_more}
use Rattle.server_book.proofs.Sendings.{on_err}
use Rattle.server_book.proofs.connections.Connections.tell_each.Goals as goal

pub returns-in_err-tell_one-clause-err : goal.returns-in_err-tell_one-clause-err
returns-in_err-tell_one-clause-err c =
    let back : (keys : Option (List (List ℕ))) → c.args.push.now ≡ push_of keys
    → before_posts c.tell_one.new.self.posts c.tell_one.new.self.items
    ≡ before_posts c.args.self.now.posts c.args.self.now.items =
    λ keys is. c.in_err-tell_one.ensures.err
    ∙ ap (λ (x : ConnectionsState). before_posts x.posts x.items)
    (c.loop-place.invariant keys is).0
    ∙ before_told c.args.entry (unpassed c.args.but (told_to keys
    (take c.loop-place.place c.args.to.now))) c.args.self.now in
    on_err _ _ back

pub loop-place-preserved : goal.loop-place-preserved
loop-place-preserved c keys is =
    let ids = c.args.to.now in
    let k = c.loop-place.place in
    let lt : k < length ids = omega (arith, c.loop-place-test.true) in
    let now = c.loop-place.invariant keys is in
    let told = c.in_ok-tell_one.ensures.ok keys is now.1 in (
      one_more c.args.entry c.args.but keys ids k c.args.self.now c.loop-place.self
          c.tell_one.new.self lt now.0 told.0,
      told.1,
    )
