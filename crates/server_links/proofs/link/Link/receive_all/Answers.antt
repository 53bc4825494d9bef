use Rattle.std.proofs.Common.{arith, ◌≡◌, ◌++◌, ◌∷◌, [], false, ◌∙◌, ap, sym, append-nil}
use Rattle.server_links.proofs.Playing.{receive_before, receive_short, receive_gives}
use Rattle.script_text.specs.declared.line.Line.TheVariants as line
use Rattle.server_links.specs.Directions.{is_queued}
use Rattle.server_links.specs.Moves.{read_lines, eof_lines}
use Rattle.std.proofs.lemmas.Result.{err_from_is_err_and}
use Rattle.server_links.specs.Session.{with_link}
use Rattle.server_links.proofs.link.Link.receive_all.Goals as goal

pub returns-in_err-put_read : goal.returns-in_err-put_read
returns-in_err-put_read c s =
    let p = err_from_is_err_and c.from_residual.result c.from_residual.ensures.1 in
    rw p.1 (rw p.2 (rw c.in_err-put_read.ensures.err
    (receive_before (with_link s c.args.self.now) c.args.lines.now)))

pub returns-in_err-copy : goal.returns-in_err-copy
returns-in_err-copy c s =
    let p = err_from_is_err_and c.from_residual-in_err-copy.result
    c.from_residual-in_err-copy.ensures.1 in
    let told = c.in_ok-put_read.ensures.ok ∙ ap (λ b. c.args.lines.now
    ++ read_lines c.args.self.now.name b) c.as_slice.ensures in
    rw p.1 (rw p.2 (receive_short (with_link s c.args.self.now) c.args.lines.now
    c.put_read.new.lines c.pass_all.new.self c.pass_all.ensures told))

pub returns-in_err-push : goal.returns-in_err-push
returns-in_err-push c s =
    let p = err_from_is_err_and c.from_residual-in_err-push.result
    c.from_residual-in_err-push.ensures.1 in
    let told = c.in_ok-put_read.ensures.ok ∙ ap (λ b. c.args.lines.now
    ++ read_lines c.args.self.now.name b) c.as_slice.ensures in
    rw p.1 (rw p.2 (rw c.in_err-push.ensures.err
    (receive_short (with_link s c.args.self.now) c.args.lines.now c.put_read.new.lines
    c.pass_all.new.self c.pass_all.ensures told)))

pub returns-in_ok-push : goal.returns-in_ok-push
returns-in_ok-push c s =
    let told = c.in_ok-put_read.ensures.ok ∙ ap (λ b. c.args.lines.now
    ++ read_lines c.args.self.now.name b) c.as_slice.ensures in
    receive_gives (with_link s c.args.self.now) c.args.lines.now c.put_read.new.lines
    c.pass_all.new.self c.pass_all.ensures told c.pass_eof.new.self c.push.new.self
    c.pass_eof.ensures
    (c.in_ok-push.ensures.ok ∙ ap (λ n. c.put_read.new.lines
    ++ line.End n ∷ []) c.in_ok-copy.ensures
    ∙ ap (λ b. c.put_read.new.lines ++ eof_lines c.args.self.now.name b)
    (sym (sym c.is_queued.ensures ∙ c.if-is_queued.true)))

pub returns-else-is_queued : goal.returns-else-is_queued
returns-else-is_queued c s =
    let told = c.in_ok-put_read.ensures.ok ∙ ap (λ b. c.args.lines.now
    ++ read_lines c.args.self.now.name b) c.as_slice.ensures in
    let down = c.pass_all.new.self in
    let none : is_queued down.eof ≡ false = sym c.is_queued.ensures ∙ c.if-is_queued.false in
    receive_gives (with_link s c.args.self.now) c.args.lines.now c.put_read.new.lines down
    c.pass_all.ensures told down c.put_read.new.lines
    (ap (λ e. record { bytes = down.bytes; eof = e }) (grind arith))
    (grind (arith, append-nil))
