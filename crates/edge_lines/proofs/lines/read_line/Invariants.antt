use Rattle.std.proofs.Common.{◌≡◌, ◌+◌, ◌-◌, length}
use Rattle.std.specs.Io.KnownBytes.{Consumes}
use Rattle.edge_lines.specs.Streams.{IsPlain}
use Rattle.edge_lines.proofs.lines.read_line.Given as goal

abbrev pub invariant-loop-byte : goal.invariant-loop-byte
invariant-loop-byte g l = record {
  plain : IsPlain l.line.items;
  consumed : Consumes (g.S.Source.left l.initial.source) (g.S.Source.left l.source) l.line.items;
  counts : g.S.Source.counts l.source ≡ g.S.Source.counts l.initial.source;
  one : length l.byte ≡ 1;
}

abbrev pub decreases-loop-byte : goal.decreases-loop-byte
decreases-loop-byte g l = l.longest + 1 - length l.line.items
