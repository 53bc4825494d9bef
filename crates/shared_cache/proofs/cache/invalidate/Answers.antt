use Rattle.std.proofs.Common.{ap, sym, ◌∙◌, not, take}
use Rattle.std.specs.List.{filter, list_any}
use Rattle.std.specs.Str.{bytes_eq}
use Rattle.command_words.specs.Queries.{key_of, names}
use Rattle.fill_mark.specs.declared.marks.Mark.{Mark}
use Rattle.fill_mark.specs.Marks.{without_key}
use Rattle.shared_cache.proofs.InPlace.{all_stay, none_stay, without_more}
use Rattle.shared_cache.proofs.cache.invalidate.Goals as goal

pub loop-key-init : goal.loop-key-init
loop-key-init c = sym (all_stay c.args.marks.now)

pub loop-key-preserved : goal.loop-key-preserved
loop-key-preserved c =
    c.void_key.ensures ∙ ap (without_key c.as_slice.result.now) c.loop-key.invariant
    ∙ ap (λ k. without_key k
    (filter (λ (m : Mark). not
    (list_any (bytes_eq (key_of m.query))
    (take c.loop-key.key-index c.as_slice-key-items.result.now))) c.args.marks.now))
    c.as_slice.ensures
    ∙ without_more (λ (m : Mark). key_of m.query) _ _ _ _ c.loop-key-test.true c.key-item.is

pub returns-in-All-clause-marks : goal.returns-in-All-clause-marks
returns-in-All-clause-marks c =
    c.void_all.ensures
    ∙ sym (ap (λ w. filter (λ (m : Mark). not (names w (key_of m.query))) c.args.marks.now)
    c.in-All.is ∙ none_stay c.args.marks.now)
