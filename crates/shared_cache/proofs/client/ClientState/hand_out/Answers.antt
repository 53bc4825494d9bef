use Rattle.std.proofs.Common.{◌≡◌, ◌+◌, ◌-◌, ◌≤◌, true, false, get_or, arith, ap, sym, ◌∙◌}
use Rattle.shared_cache.proofs.EndsLeft.{longer}
use Rattle.shared_cache.specs.Log.{handshake_length}
use Rattle.shared_cache.specs.Held.{Setup}
use Rattle.shared_cache.specs.declared.entry.PendingReply.TheVariants.{Gone}
use Rattle.shared_cache.specs.declared.log.ClientReply.TheVariants.{Answer}
use Rattle.shared_cache.proofs.PendingLists.{owed_gone}
use Rattle.shared_cache.proofs.OtherTurns.{reflects_poll, poll_past, poll_gone, poll_waits}
use Rattle.shared_cache.proofs.OtherTurns.{poll_there}
use Rattle.shared_cache.proofs.StepCases.{poll_unwanted, low}
use Rattle.shared_cache.proofs.client.ClientState.hand_out.Goals as goal

pub returns-then-number-before-clause-step : goal.returns-then-number-before-clause-step
returns-then-number-before-clause-step c =
    let i = c.self.inside in
    let s : Setup = record { mode = i.mode; capacity = i.capacity; log_max = i.log_max } in
    let under : c.args.number ≤ handshake_length i.mode
    = omega (arith, c.handshake_length-before.ensures.length) in
    rw (← c.self.view_is) (poll_unwanted s (i.log) c.args.number
    (low s (i.log) c.args.number under))

pub returns-then-number-before-2-clause-step : goal.returns-then-number-before-2-clause-step
returns-then-number-before-2-clause-step c =
    rw (← c.self.view_is) (poll_past _ _ _ c.self.invariant.reflects c.args.number
    (omega (arith, c.handshake_length-before.ensures.length, c.len.ensures)))

pub returns-in-Gone-clause-step : goal.returns-in-Gone-clause-step
returns-in-Gone-clause-step c =
    let i = c.self.inside in
    let before = c.handshake_length-before.ensures.length in
    rw (← c.self.view_is) (poll_gone _ _ _ c.self.invariant.reflects c.args.number
    (omega (arith, before)) (omega (arith, before, c.len.ensures))
    (ap (λ b. get_or i.pending (c.args.number - b - 1) Gone) (sym before) ∙ c.in-Gone.ensures.0))

pub returns-then-self-clause-step : goal.returns-then-self-clause-step
returns-then-self-clause-step c =
    let i = c.self.inside in
    let before = c.handshake_length-before.ensures.length in
    rw (← c.self.view_is) (poll_waits _ _ _ c.self.invariant.reflects c.args.number
    (omega (arith, before)) (omega (arith, before, c.len.ensures)) true
    (ap (λ b. get_or i.pending (c.args.number - b - 1) Gone) (sym before)
    ∙ c.in-Waiting.ensures.0) c.if-self.true)

pub returns-else-self-clause-step : goal.returns-else-self-clause-step
returns-else-self-clause-step c =
    let i = c.self.inside in
    let before = c.handshake_length-before.ensures.length in
    rw (← c.self.view_is) (poll_waits _ _ _ c.self.invariant.reflects c.args.number
    (omega (arith, before)) (omega (arith, before, c.len.ensures)) false
    (ap (λ b. get_or i.pending (c.args.number - b - 1) Gone) (sym before)
    ∙ c.in-Waiting.ensures.0) c.if-self.false)

pub overflow_sub-self : goal.overflow_sub-self
overflow_sub-self c = grind (arith, owed_gone)

pub record-requires : goal.record-requires
record-requires c = grind (arith, owed_gone)

pub invariant_of-self-in-There : goal.invariant_of-self-in-There
invariant_of-self-in-There c =
    let i = c.self.inside in
    let k = c.self.invariant.reflects in
    let before = c.handshake_length-before.ensures.length in
    let place = c.args.number - c.handshake_length-before.result - 1 in
    let one : i.owed ≡ i.owed - 1 + 1 =
    omega (arith, owed_gone i.pending place c.in-There.value c.in-There.ensures.0, k.owed_is) in
    record {
      reflects = rw (c.record.ensures, c.in-There.ensures.1)
          (reflects_poll _ _ _ k c.args.number place c.in-There.value (omega (arith, before))
          (omega (arith, before, c.len.ensures)) c.in-There.ensures.0);
      room =
          let r = c.self.invariant.room in
          omega (arith, longer i.log _ _ c.record.ensures);
    }

pub returns-in-There-clause-step : goal.returns-in-There-clause-step
returns-in-There-clause-step c =
    let i = c.self.inside in
    let before = c.handshake_length-before.ensures.length in
    rw (← c.self.view_is) (poll_there _ _ _ c.self.invariant.reflects c.args.number
    (omega (arith, before)) (omega (arith, before, c.len.ensures)) c.in-There.value
    (ap (λ b. get_or i.pending (c.args.number - b - 1) Gone) (sym before) ∙ c.in-There.ensures.0)
    ∙ ap (λ p. record { reply = Answer c.in-There.value; past = p })
    (sym c.record.ensures))
