use Rattle.std.proofs.Common.{◌≡◌, drop}
use Rattle.std.specs.List.{list_any}
use Rattle.std.specs.Str.{bytes_eq}
use Rattle.string_cmds.proofs.keys.has.Given as goal

abbrev pub invariant-loop-met : goal.invariant-loop-met
invariant-loop-met l =
    list_any (bytes_eq l.key) l.keys ≡ list_any (bytes_eq l.key) (drop l.met-index l.keys)
