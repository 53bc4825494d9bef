use Rattle.std.proofs.Common.{◌≡◌, ◌++◌, take}
use Rattle.resp_value.specs.Tree.{trees_of, rows_of}
use Rattle.resp_value.specs.Spelling.{spellings, row_spellings}
use Rattle.resp_value.proofs.put.+spell.Given as goal

abbrev pub invariant-spell_values-loop-value : goal.invariant-spell_values-loop-value
invariant-spell_values-loop-value l =
    l.out.items ≡ l.fn.out.items ++ spellings l.proto (trees_of (take l.value-index l.values))

abbrev pub invariant-spell_pairs-loop-key : goal.invariant-spell_pairs-loop-key
invariant-spell_pairs-loop-key l =
    l.out.items ≡ l.fn.out.items ++ row_spellings l.proto (rows_of (take l.key-index l.pairs))
