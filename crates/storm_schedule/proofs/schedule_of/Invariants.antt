use Rattle.std.proofs.Common.{◌≡◌, ◌++◌}
use Rattle.std.specs.List.{flat_map}
use Rattle.script_text.specs.Grammar.{event_text}
use Rattle.script_text.specs.Storm.{storm}
use Rattle.storm_schedule.proofs.schedule_of.Given as goal

abbrev pub invariant-loop-place : goal.invariant-loop-place
invariant-loop-place l =
    l.text.items ++ flat_map event_text l.storm ≡ flat_map event_text (storm l.number l.steps)
