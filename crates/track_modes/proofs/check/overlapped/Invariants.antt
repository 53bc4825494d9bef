use Rattle.std.proofs.Common.{◌≡◌, ◌++◌, take, drop}
use Rattle.track_modes.specs.PrefixLists.{overlapped}
use Rattle.track_modes.proofs.check.overlapped.Given as goal

abbrev pub invariant-loop-place : goal.invariant-loop-place
invariant-loop-place l =
    overlapped l.held l.new ≡ overlapped (l.held ++ take l.place l.new) (drop l.place l.new)
