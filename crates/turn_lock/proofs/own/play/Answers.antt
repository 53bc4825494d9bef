use Rattle.std.proofs.Common.{arith, ap}
use Rattle.turn_lock.specs.Seats.{Known}
use Rattle.turn_lock.specs.declared.rule.TheConstants.{LAST_TICKET}
use Rattle.turn_lock.proofs.Turning.{grows_worn, plays, sound_within}
use Rattle.turn_lock.proofs.own.play.Goals as goal

pub returns-in-Ok-clause-ok : goal.returns-in-Ok-clause-ok
returns-in-Ok-clause-ok g c =
    let t = c.in-Ok.ensures in
    plays g.S.Logged.step c.args.call c.in-Ok.reply c.args.seat.now c.play.new.seat
    c.requires.within (sound_within g.S.Logged.step c.play.new.seat t.sound) t.same.0 t.same.1
    t.same.4 t.not_less t.turn

pub returns-in-Err-clause-err : goal.returns-in-Err-clause-err
returns-in-Err-clause-err g c =
    let t = c.in-Err.ensures in
    let at = ap (λ (k : Known _ _). k.tickets) t.err in (
      grows_worn c.args.seat.now c.play.new.seat LAST_TICKET c.requires.within
          (omega (arith, at, t.not_less)) t.err,
      omega (arith, at),
    )
