use Rattle.conn_pool.proofs.Leaving.{look_within, shown_look, tied_look}
use Rattle.conn_pool.proofs.Parting.{parted_look}
use Rattle.conn_pool.proofs.crew.Crew.finds_stop.Goals as goal

pub invariant_of-self : goal.invariant_of-self
invariant_of-self g c =
    let inv = c.self.invariant in
    let look = c.finds_stop.ensures.looks in
    let old = c.self.inside.seat in
    let new = c.finds_stop.new.seat in
    let had = c.self.inside.reports.items in (
      look_within old new look,
      inv.1,
      (λ kept. tied_look old new look had (inv.2 kept)),
      (λ kept. shown_look old new look had (inv.3 kept)),
      (λ kept. parted_look old new look had (inv.4 kept)),
    )
