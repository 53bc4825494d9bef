use Rattle.std.proofs.Common.{◌≡◌, drop}
use Rattle.std.specs.List.{list_any}
use Rattle.std.specs.Str.{bytes_eq}
use Rattle.command_words.proofs.lists.has.Given as goal

abbrev pub invariant-loop-named : goal.invariant-loop-named
invariant-loop-named l =
    list_any (bytes_eq l.key) (drop l.named-index l.keys) ≡ list_any (bytes_eq l.key) l.keys
