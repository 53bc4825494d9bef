use Rattle.std.proofs.Common.{◌≡◌, ◌≤◌, ◌+◌}
use Rattle.std.specs.List.{All}
use Rattle.script_text.specs.Scripts.{IsValidLine}
use Rattle.script_program.specs.Scripts.{most_lines}
use Rattle.script_program.proofs.Reading.{Standing}
use Rattle.script_program.proofs.read.read_script.Given as goal

abbrev pub invariant-loop-number : goal.invariant-loop-number
invariant-loop-number g l =
    let left = g.S.Source.left in
    record {
      standing : Standing l.number l.lines.items (left l.initial.input) (left l.input);
      valid : All IsValidLine l.lines.items;
      counts : g.S.Source.counts l.input ≡ g.S.Source.counts l.initial.input;
      few : l.number ≤ most_lines + 1;
    }
