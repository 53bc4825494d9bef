use Rattle.std.proofs.Common.{◌≡◌, subst, ◌∙◌}
use Rattle.command_words.specs.Hashes.{hincrby_effect}
use Rattle.hash_cmds.specs.Counted.{IsChange}
use Rattle.command_set.specs.Moving.{field_changed}
use Rattle.command_set.proofs.TakenOut.{field_sum_back}
use Rattle.command_set.proofs.moving.move_field.Goals as goal

pub returns-clause-back : goal.returns-clause-back
returns-clause-back c =
    let key = c.args.key.now in
    let field = c.args.field.now in
    let n = c.args.number.now in
    let s = c.args.space.now in
    let t = c.add_field.new.space in
    let change = c.in_ok-done.change in
    let named = c.as_slice-key_bytes in
    let of = c.as_slice-field_bytes in
    field_sum_back key field n change s t _
    (subst (λ k. IsChange k field change s t) named.ensures
    (subst (λ f. IsChange named.result.now f change s t) of.ensures c.in_ok-done.ensures.kept))
    (subst (λ k. t ≡ (hincrby_effect k field n s).space) named.ensures
    (subst (λ f. t ≡ (hincrby_effect named.result.now f n s).space) of.ensures
    c.in_ok-done.ensures.space))
    (c.keep_change.ensures
    ∙ (λ i. field_changed (c.in_ok-name.ensures i) (c.in_ok-of_field.ensures i) change))
