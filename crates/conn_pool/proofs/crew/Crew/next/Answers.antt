use Rattle.std.proofs.Common.{◌≡◌, sym, ap, subst, arith}
use Rattle.shared_book.specs.Turns.{Place}
use Rattle.conn_pool.specs.Ties.{Tied}
use Rattle.conn_pool.proofs.Parting.{parted_same}
use Rattle.conn_pool.proofs.Showing.{shown_same}
use Rattle.conn_pool.proofs.Tying.{same_turns, same_within}
use Rattle.conn_pool.proofs.crew.Crew.next.Goals as goal

pub invariant_of-self-in-Link : goal.invariant_of-self-in-Link
invariant_of-self-in-Link g c =
    let inv = c.self.invariant in
    let old = c.self.inside.seat in
    let new = c.split.new.seat in
    let had = c.self.inside.reports.items in
    let cut = c.split.ensures.old in
    let seen : new.seen ≡ old.seen = ap (λ (k : Place). k.seen) cut in
    let own : new.own ≡ old.own = ap (λ (k : Place). k.own) cut in
    let setup : new.setup ≡ old.setup = ap (λ (k : Place). k.setup) cut in
    let tickets : new.tickets ≡ old.tickets = ap (λ (k : Place). k.tickets) cut in
    let more = c.in-Link.ensures.mine in
    let less = c.split_off.ensures.amount_left in (
      same_within old new seen own inv.0,
      (λ kept. let links = inv.1 kept in omega (arith, more, less, links)),
      (λ kept. subst (λ ts. Tied had ts) (sym (same_turns old new seen own)) (inv.2 kept)),
      (λ kept. shown_same had old new setup seen tickets (inv.3 kept)),
      (λ kept. parted_same had old new seen own (inv.4 kept)),
    )
