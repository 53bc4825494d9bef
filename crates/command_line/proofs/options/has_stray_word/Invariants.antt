use Rattle.std.proofs.Common.{◌≡◌, false, map, take}
use Rattle.std.specs.List.{list_any}
use Rattle.std.specs.Prelude.{string_bytes}
use Rattle.command_line.specs.Options.{is_stray}
use Rattle.command_line.proofs.options.has_stray_word.Given as goal

abbrev pub invariant-loop-word : goal.invariant-loop-word
invariant-loop-word l =
    list_any is_stray (map string_bytes (take l.word-index l.words)) ≡ false
