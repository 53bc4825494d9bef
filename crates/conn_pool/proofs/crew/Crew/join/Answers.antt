use Rattle.std.proofs.Common.{◌≡◌, ◌≤◌, ◌++◌, length, not, true, sym, ap, subst, ◌∙◌, arith}
use Rattle.std.proofs.Common.{length-append}
use Rattle.std.specs.Prelude.{if◌then◌else◌, is_ok}
use Rattle.turn_lock.specs.Own.{past_of, turns_of}
use Rattle.conn_pool.specs.Ties.{Parted, Tied}
use Rattle.conn_pool.specs.Shown.{AreShown}
use Rattle.conn_pool.proofs.Parting.{parted_joined}
use Rattle.conn_pool.proofs.Showing.{shown_joined}
use Rattle.conn_pool.proofs.Tying.{joined_within, tied_joined}
use Rattle.conn_pool.proofs.crew.Crew.join.Goals as goal

pub invariant_of-self : goal.invariant_of-self
invariant_of-self g c =
    let mine = c.self.invariant in
    let theirs = c.other.invariant in
    let a = c.self.inside.seat in
    let b = c.other.inside.seat in
    let k = c.join.new.seat in
    let rs = c.self.inside.reports.items in
    let ss = c.other.inside.reports.items in
    let both = c.join.ensures.both in
    let own : k.own ≡ a.own ++ b.own = ap (λ z. z.own) both in
    let setup : k.setup ≡ a.setup = ap (λ z. z.setup) both in
    let tickets = ap (λ z. z.tickets) both in
    let x = c.join.ensures.seen.0 in
    let y = c.join.ensures.seen.1 in
    let fine : is_ok c.append.result ≡ true =
    c.is_err.ensures.negation ∙ ap not c.if-is_err.false in
    let more : c.append.new.self.items ≡ rs ++ ss =
    c.append.ensures.items ∙ ap (λ ok. if ok then rs ++ ss else rs) fine in
    let long = ap length more ∙ length-append rs ss in
    let ended = c.if-lost.false in
    let amount = c.merge.ensures.amount in
    let low : a.tickets ≤ k.tickets = grind (arith, tickets) in
    let high : b.tickets ≤ k.tickets = grind (arith, tickets) in
    let one = c.other.view_is in
    let two = c.self.view_is in
    let alike : b.setup ≡ a.setup = grind (arith, c.requires.setup, one, two) in (
      joined_within a b k own x y mine.0 theirs.0,
      (λ kept. let l = mine.1 kept in let r = theirs.1 ended in omega (arith, amount, long, l, r)),
      (λ kept. subst (λ z. Tied z (turns_of k)) (sym more)
          (tied_joined rs ss a b k own x y mine.0 theirs.0 (mine.2 kept) (theirs.2 ended))),
      (λ kept. subst (λ z. AreShown z k) (sym more)
          (shown_joined rs ss a b k setup alike x y low high (mine.3 kept)
          (theirs.3 ended))),
      (λ kept. subst (λ z. Parted z (turns_of k) (past_of k)) (sym more)
          (parted_joined rs ss a b k own x y mine.0 theirs.0 (mine.4 kept) (theirs.4 ended))),
    )
