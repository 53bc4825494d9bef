use Rattle.std.proofs.Common.{arith}
use Rattle.std.proofs.lemmas.Map.Steps.{set_value_same}
use Rattle.track_table.proofs.rows.add_holder.Goals as goal

pub returns-in_err-insert-clause-err : goal.returns-in_err-insert-clause-err
returns-in_err-insert-clause-err c = grind (arith, set_value_same)
