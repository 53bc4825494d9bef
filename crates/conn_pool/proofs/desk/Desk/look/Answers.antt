use Rattle.std.proofs.Common.{◌≡◌, ◌∙◌, false, subst, sym}
use Rattle.conn_pool.specs.Crew.{Goes, Present, hosted}
use Rattle.conn_pool.proofs.Hosting.{goes_as, goes_left, goes_with}
use Rattle.conn_pool.proofs.desk.Desk.look.Goals as goal

pub returns : goal.returns
returns g c =
    let guests : c.look_for_more.new.self ≡ c.args.guests.now =
    c.look_for_more.ensures ∙ (c.flush.ensures ∙ (c.is_time.ensures ∙ c.flush_lingering.ensures)) in
    record {
      goes = subst
          (λ (p : Present). Goes
          (hosted c.args.crew.now c.args.guests.now.count c.args.has_left)
          (hosted c.finds_stop.new.crew p.count c.args.has_left))
          (sym guests)
          (goes_left _ _ _ _ c.args.has_left
          (goes_with _ _ _ _ _ (goes_as _ _ _ _ false c.if-finds_stop.false
          c.finds_stop.ensures.goes)));
    }
