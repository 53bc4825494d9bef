use Rattle.std.proofs.Common.{◌∙◌, ◌++◌, ◌≡◌, ap, sym, length, true, false}
use Rattle.std.proofs.lemmas.Result.{on_ok_weaker}
use Rattle.std.specs.Prelude.{◌==◌}
use Rattle.past_effects.specs.Seen.{unpassed}
use Rattle.past_effects.specs.Sendings.{told_sent}
use Rattle.past_effects.proofs.Groups.{told_at_none, told_at_nowhere, told_at_some}
use Rattle.past_effects.proofs.Told.{told_none}
use Rattle.past_effects.proofs.sendings.Sendings.tell_at.Goals as goal

pub returns-then-is_empty : goal.returns-then-is_empty
returns-then-is_empty c =
    let some = c.in_ok-some-in-Some.some in
    let none : (length some == 0) ≡ true =
    ap (λ l. length l == 0) (sym c.as_slice.ensures) ∙ sym c.is_empty.ensures
    ∙ c.if-is_empty.true in
    sym (ap (λ l. c.args.self.now
    ++ told_sent c.args.connections.now (unpassed c.args.passed l))
    (told_at_none c.args.keys.now c.args.prefixes.now c.args.place c.in-Some.prefix.now
    c.in-Some.ids.now some c.in-Some.ensures.row c.in_ok-some-in-Some.ensures none)
    ∙ told_none c.args.connections.now c.args.self.now)

pub returns-else-is_empty : goal.returns-else-is_empty
returns-else-is_empty c =
    let some = c.in_ok-some-in-Some.some in
    let any : (length some == 0) ≡ false =
    ap (λ l. length l == 0) (sym c.as_slice.ensures) ∙ sym c.is_empty.ensures
    ∙ c.if-is_empty.false in
    on_ok_weaker c.tell.result
    (λ e. e ∙ ap (λ l. c.args.self.now
    ++ told_sent c.args.connections.now (unpassed c.args.passed l))
    (told_at_some c.args.keys.now c.args.prefixes.now c.args.place c.in-Some.prefix.now
    c.in-Some.ids.now some c.in-Some.ensures.row c.in_ok-some-in-Some.ensures any))
    c.tell.ensures

pub returns-in-None : goal.returns-in-None
returns-in-None c =
    sym (ap (λ l. c.args.self.now
    ++ told_sent c.args.connections.now (unpassed c.args.passed l))
    (told_at_nowhere c.args.keys.now c.args.prefixes.now c.args.place c.in-None.ensures.row)
    ∙ told_none c.args.connections.now c.args.self.now)
