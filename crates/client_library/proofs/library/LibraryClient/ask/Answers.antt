use Rattle.client_library.proofs.TurnLaws.{hit_is_held}
use Rattle.client_library.proofs.library.LibraryClient.ask.Goals as goal

pub returns-clause-hit : goal.returns-clause-hit
returns-clause-hit c =
    hit_is_held c.args.self.now c.args.query c.play.result c.play.new.self.past c.play.ensures.step
