use Rattle.command_set.proofs.TakenBack.{new_in_step}
use Rattle.command_set.proofs.database.Database.new.Goals as goal

pub invariant_of-result : goal.invariant_of-result
invariant_of-result c =
    new_in_step c.new.result.index c.new.result.space c.new.ensures.index c.new.ensures.space
