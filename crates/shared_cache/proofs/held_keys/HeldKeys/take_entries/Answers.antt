use Rattle.std.proofs.Common.{ap, sym, subst, ◌∙◌, ◌∷◌, [], map, None, Some, arith}
use Rattle.shared_cache.specs.HeldKeys.{entries_of, others, with_pairs}
use Rattle.shared_cache.proofs.PlainKeys.{plain}
use Rattle.shared_cache.proofs.KeyCode.{entries_plain, put_others}
use Rattle.shared_cache.specs.KeyReads.{AreOfKeys}
use Rattle.shared_cache.proofs.KeyReads.{found_is_of_key, put_of_keys, none_of_key}
use Rattle.shared_cache.proofs.held_keys.HeldKeys.take_entries.Goals as goal

pub returns-in-Some-clause-entries : goal.returns-in-Some-clause-entries
returns-in-Some-clause-entries c =
    entries_plain c.args.key.items c.self.inside.keys.entries (Some c.in-Some.entries)
    (sym c.in-Some.is ∙ c.in-Ok.ensures.old)
    ∙ ap (λ k. entries_of c.args.key.items k.pairs) c.self.view_is

pub returns-in-Some-clause-ok : goal.returns-in-Some-clause-ok
returns-in-Some-clause-ok c =
    let keys = c.self.inside.keys in
    ap (λ z. record { pairs = map plain z.entries; most = z.cap }) c.in-Ok.ensures.entries
    ∙ ap (λ l. record { pairs = l; most = keys.cap })
    (put_others keys.entries c.args.key c.none.result keys.cap
    ∙ ap (λ vs. (c.args.key.items, vs) ∷ others c.args.key.items keys.cap (map plain keys.entries))
    c.none.ensures)
    ∙ ap (λ k. with_pairs ((c.args.key.items, []) ∷ others c.args.key.items k.most k.pairs) k)
    c.self.view_is

pub returns-in-Ok-clause-entries : goal.returns-in-Ok-clause-entries
returns-in-Ok-clause-entries c =
    c.none-in-None.ensures
    ∙ entries_plain c.args.key.items c.self.inside.keys.entries None
    (sym c.in-None.is ∙ c.in-Ok.ensures.old)
    ∙ ap (λ k. entries_of c.args.key.items k.pairs) c.self.view_is

pub returns-in-Ok-clause-ok : goal.returns-in-Ok-clause-ok
returns-in-Ok-clause-ok c =
    let keys = c.self.inside.keys in
    ap (λ z. record { pairs = map plain z.entries; most = z.cap }) c.in-Ok.ensures.entries
    ∙ ap (λ l. record { pairs = l; most = keys.cap })
    (put_others keys.entries c.args.key c.none.result keys.cap
    ∙ ap (λ vs. (c.args.key.items, vs) ∷ others c.args.key.items keys.cap (map plain keys.entries))
    c.none.ensures)
    ∙ ap (λ k. with_pairs ((c.args.key.items, []) ∷ others c.args.key.items k.most k.pairs) k)
    c.self.view_is

pub invariant_of-self : goal.invariant_of-self
invariant_of-self c =
    subst (λ z. AreOfKeys (map plain z.entries)) (sym c.in-Ok.ensures.entries)
    (put_of_keys c.self.inside.keys.entries c.args.key c.none.result c.self.inside.keys.cap
    c.self.invariant (grind (arith, none_of_key)))

pub invariant_of-self-in-Ok : goal.invariant_of-self-in-Ok
invariant_of-self-in-Ok c =
    subst (λ z. AreOfKeys (map plain z.entries)) (sym c.in-Ok.ensures.entries)
    (put_of_keys c.self.inside.keys.entries c.args.key c.none.result c.self.inside.keys.cap
    c.self.invariant (grind (arith, none_of_key)))

pub returns-in-Some-clause-of_key : goal.returns-in-Some-clause-of_key
returns-in-Some-clause-of_key c =
    found_is_of_key c.args.key.items c.self.inside.keys.entries c.in-Some.entries
    (sym c.in-Some.is ∙ c.in-Ok.ensures.old) c.self.invariant

pub returns-in-Ok-clause-of_key : goal.returns-in-Ok-clause-of_key
returns-in-Ok-clause-of_key c = grind (arith, none_of_key)
