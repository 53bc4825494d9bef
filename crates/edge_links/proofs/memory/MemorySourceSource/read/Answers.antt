use Rattle.std.proofs.Common.{◌≡◌, length, drop, arith, ◌∙◌}
use Rattle.std.proofs.lemmas.List.{length-append, length-take-le}
use Rattle.edge_links.proofs.Pieces.{given}
use Rattle.edge_links.proofs.memory.MemorySourceSource.read.Goals as goal

pub returns-clause-bytes : goal.returns-clause-bytes
returns-clause-bytes c =
    let piece = c.copy_from_slice.new.self in
    let n = c.min-n.result in
    let e : length piece ≡ n
    = c.copy_from_slice.ensures.len ∙ length-take-le n c.args.buf.now (omega arith) in (
      omega arith,
      omega (arith, e, length-append piece (drop n c.args.buf.now)),
      given c.args.self.now.at n c.deref-2.result.now c.args.self.now.bytes.items piece
          (drop n c.args.buf.now) c.deref-2.ensures.value c.copy_from_slice.ensures.after e,
    )
