use Rattle.std.proofs.Common.{◌≡◌, ap, subst, option_map, ◌∙◌, rules, to_z, of_z, w64}
use Rattle.keyspace.specs.Plain.{held_of}
use Rattle.command_words.specs.Strings.{decrby_effect}
use Rattle.string_cmds.specs.Counted.{IsKept}
use Rattle.command_set.specs.Moving.{changed}
use Rattle.command_set.proofs.TakenOut.{difference_back}
use Rattle.command_set.proofs.moving.move_difference.Goals as goal

pub returns-clause-back : goal.returns-clause-back
returns-clause-back c =
    let had = option_map (λ held. option_map held_of held) c.in_ok-done.had in
    let s = c.args.space.now in
    let t = c.take_number.new.space in
    let number : to_z w64 (of_z w64 c.args.number) ≡ c.args.number = search rules in
    difference_back c.args.key.now c.args.number had s t _
    (subst (λ k. IsKept k had s t) c.as_slice.ensures
    c.in_ok-done.ensures.kept)
    (subst (λ k. t ≡ (decrby_effect k c.args.number s).space) c.as_slice.ensures
    (subst (λ n. t ≡ (decrby_effect c.as_slice.result.now n s).space) number
    c.in_ok-done.ensures.space))
    (c.keep_had.ensures ∙ ap (λ k. changed k had) c.in_ok-name.ensures)
