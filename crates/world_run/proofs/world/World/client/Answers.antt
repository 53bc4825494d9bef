use Rattle.std.proofs.Common.{subst, sym, ◌∙◌}
use Rattle.server_links.specs.Outcome.{Gives}
use Rattle.world_run.specs.World.{Stepped, client_step, step}
use Rattle.world_run.proofs.Members.{served_mode}
use Rattle.world_run.proofs.WorldCode as code
use Rattle.world_run.proofs.WorldCode.{client_made}
use Rattle.world_run.proofs.world.World.client.Goals as goal

pub returns-then-not-is_served : goal.returns-then-not-is_served
unfolding step
returns-then-not-is_served c =
    let w = c.args.self.now in
    let off = sym c.is_served.ensures ∙ c.if-not-is_served.true in
    code.is_refused 0 w (client_step c.args.name.now c.args.mode.now c.args.capacity w)
    c.args.lines.now (code.client_unserved c.args.name.now c.args.mode.now c.args.capacity w off)

pub returns-then-is_taken : goal.returns-then-is_taken
unfolding step
returns-then-is_taken c =
    let w = c.args.self.now in
    code.name_taken w (client_step c.args.name.now c.args.mode.now c.args.capacity w)
    c.args.lines.now (code.client_taken c.args.name.now c.args.mode.now c.args.capacity w
    (sym c.is_served.ensures ∙ c.if-not-is_served.false)
    (sym c.is_taken.ensures ∙ c.if-is_taken.true))

pub connect_one-requires-clause-mode : goal.connect_one-requires-clause-mode
connect_one-requires-clause-mode c =
    served_mode c.args.mode.now (sym c.is_served.ensures ∙ c.if-not-is_served.false)

pub connect_two-requires-clause-mode : goal.connect_two-requires-clause-mode
connect_two-requires-clause-mode c =
    served_mode c.args.mode.now (sym c.is_served.ensures ∙ c.if-not-is_served.false)

pub returns-in-Single : goal.returns-in-Single
unfolding step
returns-in-Single c =
    let w = c.args.self.now in
    let name = c.args.name.now in
    let mode = c.args.mode.now in
    subst (λ (m : Stepped). Gives m c.args.lines.now c.connect_one.result c.connect_one.new.self
    c.connect_one.new.lines)
    (sym (code.client_making name mode c.args.capacity w
    (sym c.is_served.ensures ∙ c.if-not-is_served.false)
    (sym c.is_taken.ensures ∙ c.if-is_taken.false)))
    (subst (λ s. Gives (client_made s name mode c.args.capacity w) c.args.lines.now
    c.connect_one.result c.connect_one.new.self c.connect_one.new.lines) (sym c.in-Single.is)
    c.connect_one.ensures)

pub returns-in-Pair : goal.returns-in-Pair
unfolding step
returns-in-Pair c =
    let w = c.args.self.now in
    let name = c.args.name.now in
    let mode = c.args.mode.now in
    subst (λ (m : Stepped). Gives m c.args.lines.now c.connect_two.result c.connect_two.new.self
    c.connect_two.new.lines)
    (sym (code.client_making name mode c.args.capacity w
    (sym c.is_served.ensures ∙ c.if-not-is_served.false)
    (sym c.is_taken.ensures ∙ c.if-is_taken.false)))
    (subst (λ s. Gives (client_made s name mode c.args.capacity w) c.args.lines.now
    c.connect_two.result c.connect_two.new.self c.connect_two.new.lines) (sym c.in-Pair.is)
    c.connect_two.ensures)
