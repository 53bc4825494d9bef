use Rattle.std.proofs.Common.{rules, ◌∙◌, false, true, subst, sym}
use Rattle.conn_pool.specs.Crew.{Goes, Present, hosted}
use Rattle.conn_pool.proofs.Hosting.{done_same, goes_as, goes_left, goes_none, goes_then}
use Rattle.conn_pool.proofs.Hosting.{work_hosts}
use Rattle.conn_pool.proofs.desk.Desk.work.Goals as goal

pub loop-init : goal.loop-init
loop-init g c = (tt, tt, goes_none _ _ c.new-guests.ensures, search rules)

pub accept-has_left-requires-clause-hosts : goal.accept-has_left-requires-clause-hosts
accept-has_left-requires-clause-hosts g c κs within =
    work_hosts _ _ _ _ _ c.requires.of c.requires.parts c.loop.invariant.2

pub serve-requires-clause-of : goal.serve-requires-clause-of
serve-requires-clause-of g c κs within =
    let goes = goes_then _ _ _ c.loop.invariant.2 c.accept-has_left.ensures.goes in
    let of = c.requires.of in
    (goes.lock ∙ of.0, goes.setup ∙ of.1, goes.each ∙ of.2)

pub look-has_left-requires-clause-hosts : goal.look-has_left-requires-clause-hosts
look-has_left-requires-clause-hosts g c κs within =
    work_hosts _ _ _ _ _ c.requires.of c.requires.parts
    (goes_then _ _ _ (goes_then _ _ _ c.loop.invariant.2 c.accept-has_left.ensures.goes)
    (goes_left _ _ _ _ c.accept-has_left.result c.serve.ensures.goes))

pub returns-then-are_gone-clause-same : goal.returns-then-are_gone-clause-same
returns-then-are_gone-clause-same g c =
    (done_same _ _ _ (c.are_gone.ensures c.if-are_gone.true)
    (goes_as _ _ _ _ true c.if-has_left.true
    (goes_then _ _ _ (goes_then _ _ _ (goes_then _ _ _ c.loop.invariant.2
    c.accept-has_left.ensures.goes)
    (goes_left _ _ _ _ c.accept-has_left.result c.serve.ensures.goes))
    c.look-has_left.ensures.goes))).0

pub returns-then-are_gone-clause-left : goal.returns-then-are_gone-clause-left
returns-then-are_gone-clause-left g c =
    (done_same _ _ _ (c.are_gone.ensures c.if-are_gone.true)
    (goes_as _ _ _ _ true c.if-has_left.true
    (goes_then _ _ _ (goes_then _ _ _ (goes_then _ _ _ c.loop.invariant.2
    c.accept-has_left.ensures.goes)
    (goes_left _ _ _ _ c.accept-has_left.result c.serve.ensures.goes))
    c.look-has_left.ensures.goes))).1

pub loop-preserved : goal.loop-preserved
loop-preserved g c = (
  tt,
  tt,
  subst
      (λ (p : Present). Goes (hosted c.args.crew 0 false)
      (hosted c.look-has_left.new.crew p.count c.look-has_left.result))
      (sym c.listen.ensures)
      (goes_then _ _ _ (goes_then _ _ _ (goes_then _ _ _ c.loop.invariant.2
      c.accept-has_left.ensures.goes)
      (goes_left _ _ _ _ c.accept-has_left.result c.serve.ensures.goes))
      c.look-has_left.ensures.goes),
  c.serve.ensures.buffer ∙ c.loop.invariant.3,
)
