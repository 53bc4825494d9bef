use Rattle.std.proofs.Common.{◌≡◌, map, take}
use Rattle.resp_value.specs.ValueTree.{tree_of}
use Rattle.command_words.specs.Effect.{blob_or_null}
use Rattle.command_words.specs.Hashes.{field_get}
use Rattle.hash_cmds.proofs.reads.values_of.Given as goal

abbrev pub invariant-loop-name : goal.invariant-loop-name
invariant-loop-name l =
    l.values ≡ map (λ name. tree_of (blob_or_null (field_get name l.fields)))
    (take l.name-index l.names)
