use Rattle.std.proofs.Common.{arith, ◌∙◌}
use Rattle.edge_links.proofs.Bytes.{appends_as}
use Rattle.edge_lines.proofs.Bytes.{first_as}
use Rattle.redis_program.proofs.LineTexts.{line_cut}
use Rattle.redis_program.proofs.schedule.play.Goals as goal

pub returns-in-Ok-clause-gives : goal.returns-in-Ok-clause-gives
returns-in-Ok-clause-gives g c = grind (arith, appends_as)

pub returns-in-Ok-clause-counts : goal.returns-in-Ok-clause-counts
returns-in-Ok-clause-counts g c = grind arith

pub returns-clause-gives : goal.returns-clause-gives
returns-clause-gives g c =
    line_cut _ _ _ _ _ _ _ c.args.world.now _ c.play_line-played.ensures
    (first_as _ _ _ _ c.as_slice.ensures.value c.in-Err.ensures.bytes.0)
    (λ none. c.in-Err.ensures.bytes.1 (c.as_slice.ensures.value ∙ none))
