use Rattle.std.proofs.Common.{◌≡◌, map, take}
use Rattle.resp_value.specs.declared.value.Value.TheVariants.{Null}
use Rattle.resp_value.specs.ValueTree.{tree_of}
use Rattle.command_words.specs.Effect.{blob_or_null}
use Rattle.command_words.specs.Space.{content_at}
use Rattle.command_words.specs.Strings.{on_text}
use Rattle.string_cmds.proofs.reads.mget.Given as goal

abbrev pub invariant-loop-key : goal.invariant-loop-key
invariant-loop-key l =
    l.values ≡ map (λ key. tree_of (on_text Null blob_or_null (content_at key l.space)))
    (take l.key-index l.keys)
