use Rattle.std.proofs.Common.{refl, sym, ◌∙◌, arith}
use Rattle.server_links.specs.LinkEvent.{Over}
use Rattle.server_links.proofs.Names.{placed}
use Rattle.server_links.proofs.Stepping.{no_such_link}
use Rattle.server_links.proofs.server_links.ServerLinks.play.Goals as goal

pub returns-in_default : goal.returns-in_default
returns-in_default c =
    no_such_link c.args.name.now (Over c.args.name.now c.args.movement) refl c.args.self.now
    c.args.lines.now (sym c.place_of.ensures ∙ c.in_default.is)

pub play_at-requires : goal.play_at-requires
play_at-requires c = grind (arith, placed)

pub returns : goal.returns
returns c = grind (arith, placed)
