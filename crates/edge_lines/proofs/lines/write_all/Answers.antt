use Rattle.std.proofs.Common.{◌++◌, take, ◌∙◌}
use Rattle.edge_links.proofs.Bytes.{appends_more, moved}
use Rattle.edge_lines.proofs.lines.write_all.Goals as goal

pub loop-rest-preserved : goal.loop-rest-preserved
loop-rest-preserved g c =
    let inv = c.loop-rest.invariant in
    let took = c.in-Took.ensures in
    let rest = c.loop-rest.rest.now in
    let n = c.in-Took.n in (
      inv.0 ++ take n rest,
      moved _ inv.0 rest _ n inv.1 c.split_at.ensures.back,
      appends_more _ _ _ inv.0 (take n rest) inv.2 took.bytes.2,
      took.counts ∙ inv.3,
    )
