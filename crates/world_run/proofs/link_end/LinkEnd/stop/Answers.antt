use Rattle.std.proofs.Common.{◌≡◌, List, [], ◌∷◌, ◌++◌, refl, ap, subst, sym, ◌∙◌, arith}
use Rattle.std.proofs.lemmas.Result.{err_from_is_err_and}
use Rattle.resp_stream.specs.Stream.{Stream}
use Rattle.shared_cache.specs.declared.log.ClientCall.TheVariants as call
use Rattle.script_text.specs.declared.line.Line.{Line}
use Rattle.script_text.specs.declared.line.Line.TheVariants as line
use Rattle.server_links.specs.declared.fault.WorldFault.TheVariants.{NoMemory}
use Rattle.server_links.specs.Outcome.{Outcome, Stops, and_then, does}
use Rattle.server_links.proofs.Outcomes.{Ends, after_ends, stops_first, stops_here}
use Rattle.world_run.specs.ClientMoves.{stop, turn}
use Rattle.world_run.specs.Members.{Seat, seat}
use Rattle.world_run.specs.WorldState.{LinkEnd}
use Rattle.world_run.proofs.link_end.LinkEnd.stop.Goals as goal
use Rattle.world_run.proofs.link_end.LinkEnd.stop.Goals.{After-copy}

abbrev bad : After-copy → Stream → Outcome Seat
bad c r =
    let s = seat c.args.links.now c.args.member.now r in
    let place = c.in-Some.field-0 in
    does s s (line.Bad c.args.self.now.link place.number place.offset ∷ [])

stopping : (c : After-copy) (r : Stream) → let e = c.args.self.now in
    and_then (bad c r) (turn (call.End e.wire) e)
    ≡ stop c.args.fault e (seat c.args.links.now c.args.member.now r)
stopping c r = grind arith

-- memory ran out before the line
before : (c : After-copy) (r : Stream) (lines : List Line) → lines ≡ c.args.lines.now
    → let s = seat c.args.links.now c.args.member.now r in
    Stops (stop c.args.fault c.args.self.now s) c.args.lines.now NoMemory s lines
before c r lines same =
    let e = c.args.self.now in
    let s = seat c.args.links.now c.args.member.now r in
    let all = c.args.lines.now in
    subst (λ l. Stops (stop c.args.fault e s) all NoMemory s l) (sym same)
    (subst (λ o. Stops o all NoMemory s all) (stopping c r)
    (stops_first (bad c r) (turn (call.End e.wire) e) all NoMemory s all
    (stops_here (bad c r) s all refl)))

pub returns-in_err-copy-clause-gives : goal.returns-in_err-copy-clause-gives
returns-in_err-copy-clause-gives c r = grind (arith, err_from_is_err_and, before)

pub returns-in_err-push-clause-gives : goal.returns-in_err-push-clause-gives
returns-in_err-push-clause-gives c r = grind (arith, err_from_is_err_and, before)

pub returns-clause-gives : goal.returns-clause-gives
returns-clause-gives c r =
    let at = (goal.at.returns-clause-gives c).After-copy in
    let e = c.args.self.now in
    let s = seat c.args.links.now c.args.member.now r in
    let t = seat c.args.links.now c.end.new.member r in
    let place = c.in-Some.field-0 in
    let all = c.args.lines.now in
    let link = c.in_ok-copy.ensures ∙ ap (λ (e : LinkEnd). e.link) c.self.view_is in
    let put : c.push.new.self ≡ all ++ line.Bad e.link place.number place.offset ∷ [] =
    c.in_ok-push.ensures.ok
    ∙ ap (λ l. all ++ line.Bad l place.number place.offset ∷ []) link in
    subst (λ o. Ends o all t c.push.new.self) (stopping at r)
    (after_ends (bad at r) (turn (call.End e.wire) e) all s c.push.new.self t c.push.new.self
    (refl, refl, put) (c.end.ensures.gives c.args.links.now r c.push.new.self))
