use Rattle.std.proofs.Common.{◌≡◌, ap, subst, option_map, ◌∙◌}
use Rattle.keyspace.specs.Plain.{held_of}
use Rattle.command_words.specs.Strings.{set_effect}
use Rattle.string_cmds.specs.Counted.{IsKept}
use Rattle.command_set.specs.Moving.{changed}
use Rattle.command_set.proofs.TakenOut.{set_back}
use Rattle.command_set.proofs.moving.move_value.Goals as goal

pub returns-clause-back : goal.returns-clause-back
returns-clause-back c =
    let had = option_map (λ held. option_map held_of held) c.in_ok-done.had in
    let key = c.args.key.now in
    let value = c.args.value.now in
    let s = c.args.space.now in
    let t = c.set_text.new.space in
    set_back key value c.args.when c.args.life c.args.moment had s t _
    (subst (λ k. IsKept k had s t) c.as_slice.ensures c.in_ok-done.ensures.kept)
    (subst (λ k. t ≡ (set_effect k value c.args.when c.args.life s c.args.moment).space)
    c.as_slice.ensures c.in_ok-done.ensures.space)
    (c.keep_had.ensures ∙ ap (λ k. changed k had) c.in_ok-name.ensures)
