use Rattle.std.proofs.Common.{◌≡◌, take, length}
use Rattle.turn_lock.specs.Own.{IsWithin}
use Rattle.script_run.specs.Lines.{calls_of, PlaysThread}
use Rattle.script_run.proofs.callers.play_lines.Given as goal

-- the lines so far were played, and each of the thread's has its answer
abbrev pub invariant-loop-line : goal.invariant-loop-line
invariant-loop-line g l =
    PlaysThread (calls_of l.thread (take l.line-index l.lines)) l.items.items l.initial.seat l.seat
    × (length l.items.items ≡ length (calls_of l.thread (take l.line-index l.lines)))
    × (l.seat.lock ≡ l.initial.seat.lock) × IsWithin l.seat
