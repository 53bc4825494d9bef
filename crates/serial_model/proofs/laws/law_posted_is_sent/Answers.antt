use Rattle.serial_model.proofs.laws.law_posted_is_sent.Goals as goal
use Rattle.serial_model.proofs.Posts.{posted_is_sent}

pub returns : goal.returns
returns c = posted_is_sent
