use Rattle.std.proofs.Common.{◌≡◌, ◌∷◌, ◌++◌, [], length, sym, ap, subst, ◌∙◌, arith}
use Rattle.turn_lock.specs.Own.{past_of, turns_of}
use Rattle.conn_pool.specs.Shown.{AreShown}
use Rattle.conn_pool.specs.Ties.{Parted, Tied}
use Rattle.conn_pool.proofs.Visiting.{visited_parted, visited_shown, visited_tied, visited_within}
use Rattle.conn_pool.proofs.crew.Crew.of_visit.Goals as goal

pub invariant_of-result : goal.invariant_of-result
invariant_of-result g c =
    let lock = g.L.Opening.lock in
    let setup = g.L.Opening.setup in
    let v = c.requires.visit in
    let r = c.args.report in
    let seat = c.args.seat in
    let is : c.push.new.self.items ≡ r ∷ [] =
    c.push.ensures.items ∙ ap (λ z. z ++ r ∷ []) c.requires.room.0 in
    let long = ap length is in
    let one = c.requires.links.1 in (
      visited_within lock setup r seat v,
      (λ kept. omega (arith, long, one)),
      (λ kept. subst (λ rs. Tied rs (turns_of seat)) (sym is) (visited_tied lock setup r seat v)),
      (λ kept. subst (λ rs. AreShown rs seat) (sym is) (visited_shown lock setup r seat v)),
      (λ kept. subst (λ rs. Parted rs (turns_of seat) (past_of seat)) (sym is)
          (visited_parted lock setup r seat v)),
    )
