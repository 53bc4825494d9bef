use Rattle.script_text.proofs.Storms.{storms_are_valid}
use Rattle.script_text.proofs.storm.Storm.new.Goals as goal

pub invariant_of-result : goal.invariant_of-result
invariant_of-result c = storms_are_valid c.args.number c.args.steps
