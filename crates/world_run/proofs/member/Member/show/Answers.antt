use Rattle.std.proofs.Common.{◌≡◌, [], ◌∷◌, ◌++◌, length, arith, ap, subst, sym, ◌∙◌}
use Rattle.std.proofs.lemmas.Result.{err_from_is_err_and}
use Rattle.resp_stream.specs.Stream.{Stream}
use Rattle.shared_cache.specs.Held.{held}
use Rattle.script_text.specs.declared.line.Line.TheVariants as line
use Rattle.server_links.specs.declared.fault.WorldFault.TheVariants.{NoMemory}
use Rattle.server_links.specs.Outcome.{Stops}
use Rattle.server_links.proofs.Outcomes.{Ends}
use Rattle.world_run.specs.ClientMoves.{show}
use Rattle.world_run.specs.Members.{seat}
use Rattle.world_run.proofs.Printing.{show_ends, show_stops}
use Rattle.world_run.proofs.member.Member.show.Goals as goal
use Rattle.world_run.proofs.member.Member.show.Goals.{In_ok-put_held}

pub returns-in_err-put_held : goal.returns-in_err-put_held
returns-in_err-put_held c =
    let x = c.in_err-put_held.ensures.err in
    let p = err_from_is_err_and c.from_residual.result c.from_residual.ensures.1 in
    rw p.1 (rw p.2
    (λ r. let s = seat c.args.links.now c.args.self.now r in
    subst (λ l. Stops (show s) c.args.lines.now NoMemory s l) (sym x.2)
    (show_stops s x.0 c.args.lines.now x.1)))

-- all that it holds was printed
held_shown : (c : In_ok-put_held) (r : Stream)
    → let s = seat c.args.links.now c.args.self.now r in
    Stops (show s) c.args.lines.now NoMemory s c.put_held.new.lines
held_shown c r =
    let m = c.args.self.now in
    let s = seat c.args.links.now m r in
    subst (λ l. Stops (show s) c.args.lines.now NoMemory s l) (sym c.in_ok-put_held.ensures.ok)
    (show_stops s (length (held m.state.setup m.state.past)) c.args.lines.now (omega arith))

pub returns-in_err-complete : goal.returns-in_err-complete
returns-in_err-complete c = grind (arith, err_from_is_err_and, held_shown)

pub returns-in_err-copy : goal.returns-in_err-copy
returns-in_err-copy c = grind (arith, err_from_is_err_and, held_shown)

pub returns-in_err-push : goal.returns-in_err-push
returns-in_err-push c =
    let p = err_from_is_err_and c.from_residual-in_err-push.result
    c.from_residual-in_err-push.ensures.1 in
    rw p.1 (rw p.2
    (λ r. let s = seat c.args.links.now c.args.self.now r in
    subst (λ l. Stops (show s) c.args.lines.now NoMemory s l) (sym c.in_err-push.ensures.err)
    (held_shown (goal.at.returns-in_err-push c).In_ok-put_held r)))

pub returns : goal.returns
returns c =
    let m = c.args.self.now in
    let n = c.in_ok-complete.complete in
    let name : c.in_ok-copy.field-0 ≡ m.name = grind arith in
    λ r. let s = seat c.args.links.now m r in
    subst (λ l. Ends (show s) c.args.lines.now s l)
    (sym (c.in_ok-push.ensures.ok
    ∙ ap (λ x. c.put_held.new.lines ++ line.Complete x n ∷ []) name))
    (show_ends s c.args.lines.now c.put_held.new.lines n c.in_ok-complete.ensures
    c.in_ok-put_held.ensures.ok)
