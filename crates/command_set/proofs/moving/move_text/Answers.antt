use Rattle.std.proofs.Common.{ap, subst, option_map, ◌∙◌}
use Rattle.keyspace.specs.Plain.{held_of}
use Rattle.string_cmds.specs.Taken.{IsTaken}
use Rattle.command_set.specs.Moving.{went}
use Rattle.command_set.proofs.TakenOut.{taken_back}
use Rattle.command_set.proofs.moving.move_text.Goals as goal

pub returns-clause-back : goal.returns-clause-back
returns-clause-back c =
    let held = option_map held_of c.in_ok-done.held in
    taken_back c.args.key.now held c.args.space.now c.take_text.new.space _
    (subst (λ k. IsTaken k held c.args.space.now c.take_text.new.space) c.as_slice.ensures
    c.in_ok-done.ensures.taken)
    (c.keep_held.ensures ∙ ap (λ k. went k held) c.in_ok-name.ensures)
