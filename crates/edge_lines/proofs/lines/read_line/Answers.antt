use Rattle.std.proofs.Common.{◌≡◌, ◌++◌, ◌∷◌, [], length, slice_index_or, ◌∙◌}
use Rattle.edge_lines.proofs.Bytes.{consumes_byte, plain_push, only_byte}
use Rattle.edge_lines.proofs.lines.read_line.Goals as goal

pub returns-in-Err-clause-bytes : goal.returns-in-Err-clause-bytes
returns-in-Err-clause-bytes g c =
    let inv = c.loop-byte.invariant in
    let gave = c.in-Bytes.ensures in
    let one : length c.read.new.buf ≡ 1 = c.read.auto.buf ∙ inv.one in (
      c.loop-byte.line.items ++ slice_index_or c.read.new.buf 0 0 ∷ [],
      plain_push _ _ inv.plain c.if-byte-eq10.false,
      consumes_byte _ _ _ _ _ _ inv.consumed gave.bytes.2
          (only_byte _ _ gave.bytes.0 gave.bytes.1 one),
    )

pub loop-byte-preserved : goal.loop-byte-preserved
loop-byte-preserved g c =
    let inv = c.loop-byte.invariant in
    let gave = c.in-Bytes.ensures in
    let one : length c.read.new.buf ≡ 1 = c.read.auto.buf ∙ inv.one in
    let items = c.in-Ok.ensures.items in
    rw items (record {
      plain = plain_push _ _ inv.plain c.if-byte-eq10.false;
      consumed = consumes_byte _ _ _ _ _ _ inv.consumed gave.bytes.2
          (only_byte _ _ gave.bytes.0 gave.bytes.1 one);
      counts = gave.counts ∙ inv.counts;
      one = one;
    })
