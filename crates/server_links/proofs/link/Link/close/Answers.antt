use Rattle.std.proofs.Common.{[], ◌∙◌, arith}
use Rattle.std.proofs.lemmas.Result.{err_from_is_err_and}
use Rattle.serial_model.specs.declared.history.BookCall.TheVariants as call
use Rattle.script_text.specs.declared.line.Line.TheVariants as line
use Rattle.server_links.specs.Moves.{close}
use Rattle.server_links.specs.Session.{session}
use Rattle.server_links.proofs.Playing.{turn_before, turn_gives, turn_stops, close_line}
use Rattle.server_links.proofs.Playing.{server_turned}
use Rattle.server_links.proofs.link.Link.close.Goals as goal

pub returns-in_err-next_entry : goal.returns-in_err-next_entry
unfolding close
returns-in_err-next_entry c = grind (arith, err_from_is_err_and, turn_before)

pub returns-in_err-copy : goal.returns-in_err-copy
unfolding close
returns-in_err-copy c = grind (arith, err_from_is_err_and, turn_before)

pub returns-in_err-turn : goal.returns-in_err-turn
unfolding close
returns-in_err-turn c =
    let s = session c.args.server.now c.args.self.now in
    let same = server_turned c.args.server.now c.turn.new.self c.args.self.now c.turn.ensures.limits
    c.turn.ensures.clock c.turn.ensures.names in
    let p = err_from_is_err_and c.from_residual-in_err-turn.result
    c.from_residual-in_err-turn.ensures.1 in
    rw p.1 (rw p.2
    (rw same (turn_stops s (call.Close c.args.self.now.id) [] c.turn.new.self.book.past
    (line.Close c.in_ok-next_entry.field-0 c.in_ok-copy.field-0) c.args.lines.now
    c.turn.new.lines c.in_err-turn.field-0.0 c.in_err-turn.ensures.gives)))

pub returns : goal.returns
unfolding close
returns c =
    let s = session c.args.server.now c.args.self.now in
    let g = c.in_ok-turn.ensures.gives in
    let is = close_line s.limits s.past c.turn.new.self.book.past s.link.id c.in_ok-turn.field-0
    s.link.name c.requires g.0 in
    rw (server_turned c.args.server.now c.turn.new.self c.args.self.now c.turn.ensures.limits
    c.turn.ensures.clock c.turn.ensures.names)
    (turn_gives s (call.Close c.args.self.now.id) [] c.turn.new.self.book.past _ c.args.lines.now
    c.turn.new.lines c.in_ok-turn.field-0 g
    (is ∙ cc (c.in_ok-next_entry.ensures, c.in_ok-copy.ensures)))
