use Rattle.std.proofs.Common.{◌∙◌, arith}
use Rattle.script_program.proofs.Reading.{standing_more, line_refused, last_refused, ends_last}
use Rattle.script_program.proofs.Reading.{ends_here, bad_long, pushed_valid, numbered}
use Rattle.script_program.proofs.read.read_script.Goals as goal

pub returns-in-Some-clause-reads : goal.returns-in-Some-clause-reads
returns-in-Some-clause-reads g c =
    let bytes = c.in-Line.ensures.bytes in
    line_refused _ _ _ _ _ c.loop-number.invariant.standing c.in-Some.read _ _ _
    c.as_slice.ensures.value bytes.0 bytes.1 c.in-Some.ensures

pub returns-in-Some-push_line-clause-reads : goal.returns-in-Some-push_line-clause-reads
returns-in-Some-push_line-clause-reads g c =
    let bytes = c.in-Last.ensures.bytes in
    last_refused _ _ _ _ _ c.loop-number.invariant.standing c.in-Some-push_line.read _ _ _
    c.as_slice-in-Last.ensures.value bytes.0 bytes.1 bytes.2 bytes.3 c.in-Some-push_line.ensures

pub returns-in-None-push_line-clause-reads : goal.returns-in-None-push_line-clause-reads
returns-in-None-push_line-clause-reads g c =
    let bytes = c.in-Last.ensures.bytes in
    let pushed = c.in-None-push_line.ensures in
    ends_last _ _ _ _ _ c.loop-number.invariant.standing _ _ pushed.0 _
    c.as_slice-in-Last.ensures.value bytes.0 bytes.1 bytes.2 bytes.3 pushed.1 pushed.2

pub returns-in-None-push_line-clause-valid : goal.returns-in-None-push_line-clause-valid
returns-in-None-push_line-clause-valid g c = grind (arith, pushed_valid)

pub returns-in-End-clause-reads : goal.returns-in-End-clause-reads
returns-in-End-clause-reads g c =
    let bytes = c.in-End.ensures.bytes in
    ends_here _ _ _ _ _ c.loop-number.invariant.standing bytes.0 bytes.1

pub returns-in-TooLong-clause-reads : goal.returns-in-TooLong-clause-reads
returns-in-TooLong-clause-reads g c =
    let bytes = c.in-TooLong.ensures.bytes in
    bad_long _ _ _ _ _ c.loop-number.invariant.standing bytes.0 bytes.1 bytes.2 bytes.3

pub loop-number-preserved : goal.loop-number-preserved
loop-number-preserved g c =
    let inv = c.loop-number.invariant in
    let line = c.in-Line.ensures in
    let pushed = c.in-None.ensures in
    let few = numbered _ _ _ pushed.1 in
    record {
      standing = standing_more _ _ _ _ _ inv.standing _ _ pushed.0 _ c.as_slice.ensures.value
          line.bytes.0 line.bytes.1 pushed.1 pushed.2;
      valid = pushed_valid _ _ pushed.0 _ _ pushed.1 pushed.2 inv.valid;
      counts = line.counts ∙ inv.counts;
      few = omega (arith, few);
    }
