use Rattle.std.proofs.Common.{◌≡◌, None, sym, ap, ◌∙◌}
use Rattle.conn_worker.specs.Sessions.{Service}
use Rattle.conn_worker.proofs.Sessions.{newest_any, session_off, session_on, start_same}
use Rattle.conn_worker.proofs.session.Session.go_round.Goals as goal

pub invariant_of-self : goal.invariant_of-self
invariant_of-self g c =
    let inv = c.self.invariant in
    let on : c.self.inside.ended ≡ None =
    ap (λ (v : Service). v.ended) c.self.view_is ∙ c.requires.on in (
      inv.0,
      inv.1,
      inv.2,
      session_on _ _ _ _ _ _ on inv.3 _ _ c.go_round.ensures.same _ _ (newest_any _ _ _ inv.2)
          (start_same g.K.Link.left g.K.Link.contents g.K.Link.counts _ _ _ _ _ _ inv.0 inv.1)
          c.in-Ok.ensures.ok,
    )

pub invariant_of-self-in-Err : goal.invariant_of-self-in-Err
invariant_of-self-in-Err g c =
    let inv = c.self.invariant in
    let on : c.self.inside.ended ≡ None =
    ap (λ (v : Service). v.ended) c.self.view_is ∙ c.requires.on in (
      inv.0,
      inv.1,
      inv.2,
      session_off _ _ _ _ _ _ on inv.3 _ _ c.go_round.ensures.same _ _ (newest_any _ _ _ inv.2)
          (start_same g.K.Link.left g.K.Link.contents g.K.Link.counts _ _ _ _ _ _ inv.0 inv.1)
          c.in-Err.cause c.in-Err.ensures.err,
    )

pub returns-in-Ok-clause-same : goal.returns-in-Ok-clause-same
returns-in-Ok-clause-same g c =
    let inv = c.self.invariant in
    let v = c.self.view_is in (
      c.go_round.ensures.same ∙ ap (λ (s : Service). s.id) v,
      ap (λ (s : Service). s.clock) v,
      newest_any _ _ _ inv.2 ∙ ap (λ (s : Service). s.entered) v,
      start_same g.K.Link.left g.K.Link.contents g.K.Link.counts _ _ _ _ _ _ inv.0 inv.1
          ∙ ap (λ (s : Service). s.start) v,
    )

pub returns-in-Err-clause-same : goal.returns-in-Err-clause-same
returns-in-Err-clause-same g c =
    let inv = c.self.invariant in
    let v = c.self.view_is in (
      c.go_round.ensures.same ∙ ap (λ (s : Service). s.id) v,
      ap (λ (s : Service). s.clock) v,
      newest_any _ _ _ inv.2 ∙ ap (λ (s : Service). s.entered) v,
      start_same g.K.Link.left g.K.Link.contents g.K.Link.counts _ _ _ _ _ _ inv.0 inv.1
          ∙ ap (λ (s : Service). s.start) v,
    )
