use Rattle.std.proofs.Common.{ap, ◌∙◌}
use Rattle.slab.specs.Slab.{slab_len}
use Rattle.conn_pool.specs.Crew.{Present}
use Rattle.conn_pool.proofs.Hosting.{back_goes}
use Rattle.conn_pool.proofs.guests.Guests.let_go.Goals as goal

pub returns-in-Err : goal.returns-in-Err
returns-in-Err g c = record {
  goes = back_goes c.args.crew.now c.args.self.now.count (slab_len c.try_remove.new.self) _
      (c.in-Some.ensures.len ∙ ap (λ (p : Present). p.count) c.self.view_is)
      c.insert_reserved.ensures.len;
}
