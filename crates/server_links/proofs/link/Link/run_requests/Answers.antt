use Rattle.std.proofs.Common.{◌≡◌, Option, Ok, refl, subst, arith}
use Rattle.std.proofs.lemmas.Result.{err_from_is_err_and}
use Rattle.resp_stream.specs.Stream.{Stream}
use Rattle.resp_stream.specs.Readers.{RequestGives}
use Rattle.server_links.specs.Session.{session}
use Rattle.server_links.specs.Moves.{run_requests}
use Rattle.server_links.proofs.Items.{ends_bad, ends_more, reads_more, reads_none, reads_short}
use Rattle.server_links.proofs.Items.{reads_stop}
use Rattle.server_links.proofs.Serving.{reads_less, requests, requests_run}
use Rattle.server_links.proofs.link.Link.run_requests.Goals as goal

gives_at : (old new : Stream) (r s : Option _) → RequestGives old new (Ok r) → r ≡ s
    → RequestGives old new (Ok s)
gives_at old new r s g e = subst (λ x. RequestGives old new (Ok x)) e g

pub requests-init : goal.requests-init
requests-init c =
    reads_none requests requests_run (session c.args.server.now c.args.self.now) c.args.lines.now

pub requests-smaller : goal.requests-smaller
requests-smaller c = grind (arith, reads_less, gives_at)

pub requests-preserved : goal.requests-preserved
requests-preserved c =
    let g = gives_at _ _ _ _ c.in-Ok-Some.ensures.gives c.in-Ok-Some.field-0-is in
    reads_more requests requests_run _ _ _ _ c.requests.invariant c.in-Ok-Some.words
    c.next_request.new.self g.0 g.1 _ _ refl c.in_ok-run_one-in-Ok-Some.ensures

pub returns-in_err-run_one-in-Ok-Some-clause-gives :
    goal.returns-in_err-run_one-in-Ok-Some-clause-gives
unfolding run_requests
returns-in_err-run_one-in-Ok-Some-clause-gives c =
    let g = gives_at _ _ _ _ c.in-Ok-Some.ensures.gives c.in-Ok-Some.field-0-is in
    let p = err_from_is_err_and c.from_residual.result c.from_residual.ensures.1 in
    rw p.1 (rw p.2 (reads_stop requests requests_run _ _ _ _ c.requests.invariant
    c.in-Ok-Some.words c.next_request.new.self g.0 g.1 _ _ _
    c.in_err-run_one-in-Ok-Some.ensures))

pub returns-in-Ok-None-clause-gives : goal.returns-in-Ok-None-clause-gives
unfolding run_requests
returns-in-Ok-None-clause-gives c =
    let g = gives_at _ _ _ _ c.in-Ok-None.ensures.gives c.in-Ok-None.field-0-is in
    (ends_more requests requests_run _ _ _ _ c.requests.invariant c.next_request.new.self
    g.0 g.1).0

pub returns-in-Ok-None-clause-fault : goal.returns-in-Ok-None-clause-fault
returns-in-Ok-None-clause-fault c = grind (arith, gives_at, ends_more, requests, requests_run)

pub returns-in-Some-clause-gives : goal.returns-in-Some-clause-gives
unfolding run_requests
returns-in-Some-clause-gives c =
    (ends_bad requests requests_run _ _ _ _ c.requests.invariant c.next_request.new.self
    c.in-Err.fault c.in-Some.place c.in-Err.ensures.gives c.in-Some.ensures).0

pub returns-in-Some-clause-fault : goal.returns-in-Some-clause-fault
returns-in-Some-clause-fault c = grind (arith, ends_bad, requests, requests_run)

pub returns-in-None-clause-gives : goal.returns-in-None-clause-gives
unfolding run_requests
returns-in-None-clause-gives c =
    reads_short requests requests_run _ _ _ _ c.requests.invariant c.next_request.new.self
    c.in-Err.fault c.in-Err.ensures.gives c.in-None.ensures
