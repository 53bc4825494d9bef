use Rattle.std.proofs.Common.{◌≡◌, ◌++◌, take}
use Rattle.script_text.specs.Grammar.{parts_text, prefix_parts}
use Rattle.script_text.proofs.event_line.put_prefixes.Given as goal

abbrev pub invariant-loop-prefix : goal.invariant-loop-prefix
invariant-loop-prefix l = l.out.items ≡ l.initial.out.items
    ++ parts_text (prefix_parts (take l.prefix-index l.prefix-items))
