use Rattle.std.proofs.Common.{◌≡◌, take, not}
use Rattle.std.specs.List.{filter, list_any}
use Rattle.std.specs.Str.{bytes_eq}
use Rattle.command_words.specs.Queries.{key_of}
use Rattle.fill_mark.specs.declared.marks.Mark.{Mark}
use Rattle.shared_cache.proofs.cache.invalidate.Given as goal

abbrev pub invariant-loop-key : goal.invariant-loop-key
invariant-loop-key l =
    l.marks ≡ filter
    (λ (m : Mark). not (list_any (bytes_eq (key_of m.query)) (take l.key-index l.key-items)))
    l.initial.marks
