use Rattle.std.proofs.Common.{refl, ◌∙◌, arith, inl, inr}
use Rattle.redis_program.specs.declared.status.Ending.TheVariants.{BadLine, ReadFault, NoMemory}
use Rattle.redis_program.proofs.Scheduling.{too_long, numbered}
use Rattle.redis_program.proofs.Playing.{standing_none, line_played, last_played, done_here}
use Rattle.redis_program.proofs.Playing.{ends_here, line_brings, last_brings}
use Rattle.redis_program.proofs.Playing.{end_counted, fault_counted}
use Rattle.redis_program.proofs.schedule.play_lines.Goals as goal

pub loop-number-init : goal.loop-number-init
loop-number-init g c = record {
  standing = standing_none _ _ _ _ c.requires.1.1.1;
  read = refl;
  wrote = refl;
  few = omega arith;
}

pub returns-in-Err-clause-gives : goal.returns-in-Err-clause-gives
returns-in-Err-clause-gives g c =
    let law = c.law_one_history.ensures in
    let read = c.in-Line.ensures.bytes in
    line_brings _ _ _ _ _ _ _ _ _ law _ _ _ _ c.loop-number.invariant.standing
    c.as_slice.ensures.value read.0 read.1 c.in-Err.ensures.gives

pub returns-in-Err-clause-read : goal.returns-in-Err-clause-read
returns-in-Err-clause-read g c = grind arith

pub returns-in-Err-clause-wrote : goal.returns-in-Err-clause-wrote
returns-in-Err-clause-wrote g c = grind arith

pub loop-number-preserved : goal.loop-number-preserved
loop-number-preserved g c =
    let inv = c.loop-number.invariant in
    let read = c.in-Line.ensures in
    let played = c.in-Ok.ensures in
    let few = numbered _ _ _ played.gives.1.1 in
    record {
      standing = line_played _ _ _ _ _ _ _ _ _ _ _ _ _ inv.standing c.as_slice.ensures.value
          read.bytes.0 read.bytes.1 played.gives;
      read = read.counts ∙ inv.read;
      wrote = played.counts ∙ inv.wrote;
      few = omega (arith, few);
    }

pub returns-in-Ok-play-clause-gives : goal.returns-in-Ok-play-clause-gives
returns-in-Ok-play-clause-gives g c =
    let law = c.law_one_history.ensures in
    let read = c.in-Last.ensures.bytes in
    last_played _ _ _ _ _ _ _ _ _ law _ _ _ _ c.loop-number.invariant.standing
    c.as_slice-in-Last.ensures.value read.0 read.1 read.2 read.3 c.in-Ok-play.ensures.gives

pub returns-in-Err-play-clause-gives : goal.returns-in-Err-play-clause-gives
returns-in-Err-play-clause-gives g c =
    let law = c.law_one_history.ensures in
    let read = c.in-Last.ensures.bytes in
    last_brings _ _ _ _ _ _ _ _ _ law _ _ _ _ c.loop-number.invariant.standing
    c.as_slice-in-Last.ensures.value read.0 read.1 read.2 read.3 c.in-Err-play.ensures.gives

pub returns-in-End-clause-gives : goal.returns-in-End-clause-gives
returns-in-End-clause-gives g c =
    let law = c.law_one_history.ensures in
    let read = c.in-End.ensures.bytes in
    done_here _ _ _ _ _ _ _ _ (g.K.Sink.contents c.loop-number.output) law
    c.loop-number.invariant.standing read.0 read.1

pub returns-in-End-clause-read : goal.returns-in-End-clause-read
returns-in-End-clause-read g c =
    end_counted _ _ _ c.loop-number.invariant.read c.in-End.ensures.counts

pub returns-in-TooLong-clause-gives : goal.returns-in-TooLong-clause-gives
returns-in-TooLong-clause-gives g c =
    let law = c.law_one_history.ensures in
    let read = c.in-TooLong.ensures.bytes in
    let n = c.loop-number.number in
    ends_here _ _ _ _ _ _ _ _ (g.K.Sink.contents c.loop-number.output) law (BadLine n) read.0
    c.loop-number.invariant.standing read.3
    (refl, refl, read.0, inr (read.1, refl, read.2), too_long n read.0 read.2)

pub returns-in-Failed-clause-gives : goal.returns-in-Failed-clause-gives
returns-in-Failed-clause-gives g c =
    let law = c.law_one_history.ensures in
    let read = c.in-Failed.ensures.bytes in
    ends_here _ _ _ _ _ _ _ _ (g.K.Sink.contents c.loop-number.output) law ReadFault read.0
    c.loop-number.invariant.standing read.2
    (refl, read.1)

pub returns-in-Failed-clause-read : goal.returns-in-Failed-clause-read
returns-in-Failed-clause-read g c =
    fault_counted _ _ _ c.loop-number.invariant.read c.in-Failed.ensures.counts

pub returns-in-NoMemory-clause-gives : goal.returns-in-NoMemory-clause-gives
returns-in-NoMemory-clause-gives g c =
    let law = c.law_one_history.ensures in
    let read = c.in-NoMemory.ensures.bytes in
    ends_here _ _ _ _ _ _ _ _ (g.K.Sink.contents c.loop-number.output) law NoMemory read.0
    c.loop-number.invariant.standing read.2
    (inl (refl, read.1))
