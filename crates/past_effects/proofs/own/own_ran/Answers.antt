use Rattle.past_effects.proofs.Numbers.{number_accepted, number_refused}
use Rattle.past_effects.proofs.own.own_ran.Goals as goal
use Rattle.past_effects.proofs.own.own_ran.Goals.{in-Ok+in_ok-kept-in-Ok, in-Err}

pub returns-clause-number : goal.returns-clause-number
returns-clause-number c =
    elim c.match-apply.branch [
      | in-Ok+in_ok-kept-in-Ok w ↦
          number_accepted c.args.command.now c.has_target.result c.args.mode.now
          c.in_ok-after.after c.apply.new.self c.requires.number c.in_ok-after.ensures
          w.in-Ok.ensures.ok w.in-Ok.ensures.accepted c.has_target.ensures.number
      | in-Err w ↦
          number_refused c.args.command.now c.has_target.result c.args.mode.now
          c.in_ok-after.after c.apply.new.self c.requires.number c.in_ok-after.ensures
          w.in-Err.field-0 w.in-Err.ensures.err
    ]
