use Rattle.std.proofs.Common.{ap, sym, subst, ◌∙◌, None, Some}
use Rattle.command_words.specs.Queries.{key_of}
use Rattle.shared_cache.specs.Held.{held_for}
use Rattle.shared_cache.specs.HeldKeys.{found_in}
use Rattle.shared_cache.specs.KeyReads.{AreOfKey}
use Rattle.shared_cache.proofs.KeyCode.{found_plain}
use Rattle.shared_cache.proofs.KeyReads.{found_is_of_key}
use Rattle.shared_cache.proofs.held_keys.HeldKeys.find.Goals as goal

pub returns-in_err-entries : goal.returns-in_err-entries
returns-in_err-entries c =
    rw c.from_residual.ensures
    (found_plain c.args.query.now c.key.result.now c.self.inside.keys.entries None c.key.ensures
    c.in_err-entries.ensures
    ∙ ap (λ k. found_in c.args.query.now k.pairs) c.self.view_is)

pub returns : goal.returns
returns c =
    c.entry_for.ensures ∙ ap (held_for c.args.query.now) c.as_slice.ensures
    ∙ found_plain c.args.query.now c.key.result.now c.self.inside.keys.entries
    (Some c.in_ok-entries.entries.now) c.key.ensures c.in_ok-entries.ensures
    ∙ ap (λ k. found_in c.args.query.now k.pairs) c.self.view_is

pub entry_for-requires : goal.entry_for-requires
entry_for-requires c =
    subst (AreOfKey (key_of c.args.query.now)) (sym c.as_slice.ensures)
    (subst (λ j. AreOfKey j c.in_ok-entries.entries.now) c.key.ensures
    (found_is_of_key c.key.result.now c.self.inside.keys.entries c.in_ok-entries.entries.now
    c.in_ok-entries.ensures c.self.invariant))
