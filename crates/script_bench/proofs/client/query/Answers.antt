use Rattle.std.proofs.Common.{◌∙◌, sym}
use Rattle.std.proofs.lemmas.Option.{same_Some}
use Rattle.script_bench.proofs.Keys.{words_are, reads_as, reads_some}
use Rattle.script_bench.proofs.client.query.Goals as goal

pub unreachable-requires : goal.unreachable-requires
unreachable-requires c =
    reads_some _ _ (reads_as _ _ c.args.number c.in_ok-query.ensures
    (words_are _ _ _ _ _ c.args.number c.new-words.ensures c.in_ok-push.ensures.ok
    c.in_ok-push-2.ensures.ok c.in_ok-from_slice.ensures
    (c.from_vec.ensures ∙ c.in_ok-key.ensures))) c.in-None.is

pub returns : goal.returns
returns c =
    same_Some _ _ (sym c.in-Some.is ∙ reads_as _ _ c.args.number c.in_ok-query.ensures
    (words_are _ _ _ _ _ c.args.number c.new-words.ensures c.in_ok-push.ensures.ok
    c.in_ok-push-2.ensures.ok c.in_ok-from_slice.ensures
    (c.from_vec.ensures ∙ c.in_ok-key.ensures)))
