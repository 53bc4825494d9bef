use Rattle.std.proofs.Common.{◌≡◌, ◌∙◌, sym, true}
use Rattle.std.proofs.lemmas.Result.{err_from_is_err_and}
use Rattle.serial_model.specs.History.{gives_on}
use Rattle.server_links.specs.Directions.{is_open}
use Rattle.server_links.specs.Moves.{all_bytes, end_down, take_down}
use Rattle.server_links.specs.Session.{session}
use Rattle.server_links.proofs.Outcomes.{stops_first}
use Rattle.server_links.proofs.Playing.{end_gives, send_on, take_goes_on}
use Rattle.server_links.proofs.link.Link.send_all.Goals as goal

pub returns-in_err-take_down : goal.returns-in_err-take_down
returns-in_err-take_down c =
    let s = session c.args.server.now c.args.self.now in
    let opened : is_open s.link.down.eof ≡ true =
    sym c.is_open.ensures ∙ c.if-not-is_open.false in
    let on : gives_on s.limits s.past s.link.id ≡ true =
    sym c.gives_on.ensures ∙ c.if-not-gives_on.false in
    let p = err_from_is_err_and c.from_residual.result c.from_residual.ensures.1 in
    rw p.1 (rw p.2 (rw (send_on s opened on)
    (stops_first (take_down all_bytes s) end_down c.args.lines.now _ _ _
    c.in_err-take_down.ensures)))

pub end_down-requires : goal.end_down-requires
end_down-requires c =
    let s = session c.args.server.now c.args.self.now in
    take_goes_on all_bytes s (session c.take_down.new.server c.take_down.new.self)
    c.in_ok-take_down.ensures.1 (sym c.gives_on.ensures ∙ c.if-not-gives_on.false)

pub returns : goal.returns
returns c =
    let s = session c.args.server.now c.args.self.now in
    let opened : is_open s.link.down.eof ≡ true =
    sym c.is_open.ensures ∙ c.if-not-is_open.false in
    let on : gives_on s.limits s.past s.link.id ≡ true =
    sym c.gives_on.ensures ∙ c.if-not-gives_on.false in
    rw (send_on s opened on)
    (end_gives all_bytes s (session c.take_down.new.server c.take_down.new.self)
    (session c.take_down.new.server c.end_down.new.self) c.args.lines.now c.take_down.new.lines
    c.in_ok-take_down.ensures c.end_down.ensures)
