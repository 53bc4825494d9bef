use Rattle.serial_model.proofs.laws.law_posts_are_numbered.Goals as goal
use Rattle.serial_model.proofs.Posts.{posts_are_numbered}

pub returns : goal.returns
returns c = posts_are_numbered
