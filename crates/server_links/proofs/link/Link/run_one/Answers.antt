use Rattle.std.proofs.Common.{◌∙◌, sym, subst, arith}
use Rattle.std.proofs.lemmas.Result.{err_from_is_err_and}
use Rattle.serial_model.specs.declared.history.BookCall.TheVariants as call
use Rattle.script_text.specs.declared.line.Line.TheVariants as line
use Rattle.server_links.specs.Moves.{turn}
use Rattle.server_links.specs.Outcome.{Stops}
use Rattle.server_links.specs.Session.{session, with_past}
use Rattle.server_links.proofs.Outcomes.{Ends}
use Rattle.server_links.proofs.Playing.{turn_before, turn_gives, turn_stops, run_line, run_passed}
use Rattle.server_links.proofs.Playing.{server_turned}
use Rattle.server_links.proofs.link.Link.run_one.Goals as goal

pub returns-then-not-runs_on : goal.returns-then-not-runs_on
returns-then-not-runs_on c =
    run_passed (session c.args.server.now c.args.self.now) c.args.words c.args.lines.now
    (sym c.runs_on.ensures ∙ c.if-not-runs_on.true)

pub returns-in_err-next_entry : goal.returns-in_err-next_entry
returns-in_err-next_entry c = grind (arith, err_from_is_err_and, turn_before)

pub returns-in_err-copy : goal.returns-in_err-copy
returns-in_err-copy c = grind (arith, err_from_is_err_and, turn_before)

pub returns-in_err-copy-2 : goal.returns-in_err-copy-2
returns-in_err-copy-2 c = grind (arith, err_from_is_err_and, turn_before)

pub returns-in_err-turn : goal.returns-in_err-turn
returns-in_err-turn c =
    let s = session c.args.server.now c.args.self.now in
    let same = server_turned c.args.server.now c.turn.new.self c.args.self.now c.turn.ensures.limits
    c.turn.ensures.clock c.turn.ensures.names in
    let p = err_from_is_err_and c.from_residual-in_err-turn.result
    c.from_residual-in_err-turn.ensures.1 in
    let words = c.args.words in
    let id = c.args.self.now.id in
    rw p.1 (rw p.2
    (rw same (subst (λ n. Stops (turn (call.Run id words n) words s) c.args.lines.now
    c.in_err-turn.field-0.0 (with_past s c.turn.new.self.book.past) c.turn.new.lines)
    c.clock-now.ensures
    (turn_stops s (call.Run id words c.clock-now.result) words c.turn.new.self.book.past
    (line.Run c.in_ok-next_entry.field-0 c.in_ok-copy.field-0 c.in_ok-copy-2.field-0)
    c.args.lines.now c.turn.new.lines c.in_err-turn.field-0.0 c.in_err-turn.ensures.gives))))

pub returns : goal.returns
returns c =
    let s = session c.args.server.now c.args.self.now in
    let g = c.in_ok-turn.ensures.gives in
    let words = c.args.words in
    let id = c.args.self.now.id in
    let is = run_line s.limits s.past c.turn.new.self.book.past s.link.id c.in_ok-turn.field-0
    c.clock-now.result words s.link.name (sym c.runs_on.ensures ∙ c.if-not-runs_on.false) g.0 in
    rw (server_turned c.args.server.now c.turn.new.self c.args.self.now c.turn.ensures.limits
    c.turn.ensures.clock c.turn.ensures.names)
    (subst (λ n. Ends (turn (call.Run id words n) words s) c.args.lines.now
    (with_past s c.turn.new.self.book.past) c.turn.new.lines) c.clock-now.ensures
    (turn_gives s (call.Run id words c.clock-now.result) words
    c.turn.new.self.book.past _ c.args.lines.now c.turn.new.lines c.in_ok-turn.field-0 g
    (is ∙ cc (c.in_ok-next_entry.ensures, c.in_ok-copy.ensures, c.in_ok-copy-2.ensures))))
