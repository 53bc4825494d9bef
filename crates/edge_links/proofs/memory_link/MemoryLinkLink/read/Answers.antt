use Rattle.std.proofs.Common.{◌≡◌, ◌+◌, ◌++◌, length, take, drop, arith, sym, ap, ◌∙◌}
use Rattle.std.proofs.Common.{false, nat_le, subst}
use Rattle.std.specs.Io.KnownBytes.{Consumes}
use Rattle.std.proofs.lemmas.Bool.Decides.{nat_tests}
use Rattle.std.proofs.lemmas.List.{length-append, length-take-le}
use Rattle.edge_links.specs.Memory.{bytes_written}
use Rattle.edge_links.specs.MemoryLinks.{bytes_from, bytes_to_come, passed, step_bytes}
use Rattle.edge_links.proofs.Bytes.{kept_consumes}
use Rattle.edge_links.proofs.Pieces.{given, prepended}
use Rattle.edge_links.proofs.memory_link.MemoryLinkLink.read.Goals as goal

pub returns-in-Bytes-clause-bytes : goal.returns-in-Bytes-clause-bytes
returns-in-Bytes-clause-bytes c =
    let link = c.pass.new.self in
    let bytes = c.in-Bytes.bytes.items in
    let piece = c.copy_from_slice.new.self in
    let rest = drop c.min-n.result c.args.buf.now in
    let n = c.min-n.result in
    let steps = link.steps.items in
    let e : length piece ≡ n
    = c.copy_from_slice.ensures.len ∙ length-take-le n c.args.buf.now (omega arith) in
    let front = given link.at n c.deref.result.now bytes piece rest c.deref.ensures.value
    c.copy_from_slice.ensures.after e in
    let gives = subst
    (λ s. Consumes (bytes_from s link.at steps) (bytes_from s (link.at + n) steps)
    (take n (piece ++ rest)))
    (sym c.in-Bytes.is)
    (prepended (drop link.at bytes) (drop (link.at + n) bytes) (take n (piece ++ rest))
    (step_bytes steps) front) in
    let more : nat_le (length bytes) link.at ≡ false
    = ap (λ s. passed s link.at (length (bytes_written link.written))) (sym c.in-Bytes.is)
    ∙ c.pass.ensures.passed in (
      grind (arith, nat_tests, more, c.requires),
      omega (arith, e, length-append piece rest),
      kept_consumes (bytes_to_come c.args.self.now) (bytes_to_come link)
          (bytes_from link.step (link.at + n) steps) (take n (piece ++ rest)) c.pass.ensures.bytes
          gives,
    )
