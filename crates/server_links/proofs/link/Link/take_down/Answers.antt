use Rattle.std.proofs.Common.{◌≡◌, ap, ◌∙◌, arith}
use Rattle.std.proofs.lemmas.Result.{err_from_is_err_and}
use Rattle.script_text.specs.declared.line.Line.TheVariants as line
use Rattle.serial_model.specs.History.{unsent}
use Rattle.server_links.specs.Directions.{put}
use Rattle.server_links.specs.Moves.{bytes_of}
use Rattle.server_links.specs.Session.{session, with_link, with_down}
use Rattle.server_links.proofs.Playing.{server_turned, take_quiet, take_before, take_stops}
use Rattle.server_links.proofs.Playing.{take_short, take_gives, take_size, take_given, only_given}
use Rattle.server_links.proofs.Delivery.{no_bytes}
use Rattle.server_links.proofs.link.Link.take_down.Goals as goal

pub returns-then-count-eq0 : goal.returns-then-count-eq0
returns-then-count-eq0 c =
    let s = session c.args.server.now c.args.self.now in
    let size = take_size (unsent s.limits s.link.id s.past) c.args.most c.waiting.result
    c.min-count.result c.waiting.ensures c.min-count.ensures in
    take_quiet c.args.most s c.args.lines.now c.requires (no_bytes _ (size ∙ c.if-count-eq0.true))

pub returns-in_err-next_entry : goal.returns-in_err-next_entry
returns-in_err-next_entry c = grind (arith, err_from_is_err_and, take_before)

pub returns-in_err-copy : goal.returns-in_err-copy
returns-in_err-copy c =
    let p = err_from_is_err_and c.from_residual-in_err-copy.result
    c.from_residual-in_err-copy.ensures.1 in
    rw p.1 (rw p.2 (take_before c.args.most (session c.args.server.now c.args.self.now)
    c.args.lines.now))

pub returns-in_err-bytes : goal.returns-in_err-bytes
returns-in_err-bytes c =
    let p = err_from_is_err_and c.from_residual-in_err-bytes.result
    c.from_residual-in_err-bytes.ensures.1 in
    rw p.1 (rw p.2
    (rw (server_turned c.args.server.now c.turn.new.self c.args.self.now c.turn.ensures.limits
    c.turn.ensures.clock c.turn.ensures.names)
    (take_stops c.args.most (session c.args.server.now c.args.self.now) c.args.lines.now
    c.turn.new.self.book.past
    (line.Take c.in_ok-next_entry.field-0 c.in_ok-copy.field-0 c.min-count.result) c.turn.new.lines
    c.in_err-bytes.field-0.0 c.in_err-bytes.ensures.gives)))

pub unreachable-requires : goal.unreachable-requires
unreachable-requires c =
    let s = session c.args.server.now c.args.self.now in
    let g = c.in_ok-bytes.ensures.gives in
    let size = take_size (unsent s.limits s.link.id s.past) c.args.most c.waiting.result
    c.min-count.result c.waiting.ensures c.min-count.ensures in
    only_given _ _ _ (take_given s c.args.most _ _ c.requires
    (omega (arith, size, c.if-count-eq0.false)) g.0) c.in_default.not-Bytes

pub returns-in_err-put-in-Bytes : goal.returns-in_err-put-in-Bytes
returns-in_err-put-in-Bytes c =
    let s = session c.args.server.now c.args.self.now in
    let g = c.in_ok-bytes.ensures.gives in
    let size = take_size (unsent s.limits s.link.id s.past) c.args.most c.waiting.result
    c.min-count.result c.waiting.ensures c.min-count.ensures in
    let is = take_given s c.args.most _ _ c.requires (omega (arith, size, c.if-count-eq0.false))
    g.0 in
    let p = err_from_is_err_and c.from_residual-in_err-put-in-Bytes.result
    c.from_residual-in_err-put-in-Bytes.ensures.1 in
    rw p.1 (rw p.2 (rw c.in_err-put-in-Bytes.ensures.err
    (rw (server_turned c.args.server.now c.turn.new.self c.args.self.now c.turn.ensures.limits
    c.turn.ensures.clock c.turn.ensures.names)
    (take_short c.args.most s c.args.lines.now c.turn.new.self.book.past _ c.turn.new.lines
    c.in_ok-bytes.field-0 g
    (grind arith)))))

pub returns : goal.returns
returns c =
    let s = session c.args.server.now c.args.self.now in
    let g = c.in_ok-bytes.ensures.gives in
    let size = take_size (unsent s.limits s.link.id s.past) c.args.most c.waiting.result
    c.min-count.result c.waiting.ensures c.min-count.ensures in
    let is = take_given s c.args.most _ _ c.requires (omega (arith, size, c.if-count-eq0.false))
    g.0 in
    let put_is : c.put.new.self ≡ put (bytes_of c.in_ok-bytes.field-0) c.args.self.now.down =
    grind arith in
    rw (ap (λ x. with_link x (with_down c.args.self.now c.put.new.self))
    (server_turned c.args.server.now c.turn.new.self c.args.self.now c.turn.ensures.limits
    c.turn.ensures.clock c.turn.ensures.names))
    (take_gives c.args.most s c.args.lines.now c.turn.new.self.book.past _ c.turn.new.lines
    c.in_ok-bytes.field-0 g
    (grind arith)
    c.put.new.self put_is)
