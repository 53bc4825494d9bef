use Rattle.std.proofs.Common.{ap, ◌∙◌}
use Rattle.conn_pool.specs.Crew.{Present}
use Rattle.conn_pool.proofs.Hosting.{goes_count, goes_then}
use Rattle.conn_pool.proofs.guests.Guests.serve.Goals as goal

pub loop-number-init : goal.loop-number-init
loop-number-init g c = (
  goes_count c.args.crew.now _ _ (ap (λ (p : Present). p.count) c.self.view_is),
  c.requires.buffer,
)

pub serve_one-requires-clause-of : goal.serve_one-requires-clause-of
serve_one-requires-clause-of g c κs within =
    let goes = c.loop-number.invariant.0 in
    let of = c.requires.of in
    (goes.lock ∙ of.0, goes.setup ∙ of.1, goes.each ∙ of.2)

pub loop-number-preserved : goal.loop-number-preserved
loop-number-preserved g c = (
  goes_then _ _ _ c.loop-number.invariant.0 c.serve_one.ensures.goes,
  c.serve_one.ensures.buffer ∙ c.loop-number.invariant.1,
)
