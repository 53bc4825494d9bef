use Rattle.std.proofs.Common.{◌≡◌, ◌≤◌, ◌+◌}
use Rattle.redis_program.specs.Headline.{most_lines}
use Rattle.redis_program.proofs.Playing.{Standing}
use Rattle.redis_program.proofs.schedule.play_lines.Given as goal

abbrev pub invariant-loop-number : goal.invariant-loop-number
invariant-loop-number g l =
    let left = g.S.Source.left in
    let contents = g.K.Sink.contents in
    record {
      standing : Standing g.limits l.number l.world (left l.initial.input) (left l.input)
          (contents l.initial.output) (contents l.output);
      read : g.S.Source.counts l.input ≡ g.S.Source.counts l.initial.input;
      wrote : g.K.Sink.counts l.output ≡ g.K.Sink.counts l.initial.output;
      few : l.number ≤ most_lines + 1;
    }
