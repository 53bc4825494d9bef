use Rattle.std.proofs.Common.{arith, ap, sym, subst, ◌∙◌, ◌∷◌, [], map}
use Rattle.command_words.specs.Queries.{key_of}
use Rattle.shared_cache.specs.HeldKeys.{others, with_pairs}
use Rattle.shared_cache.proofs.PlainKeys.{plain}
use Rattle.shared_cache.proofs.KeyCode.{put_others}
use Rattle.shared_cache.specs.KeyReads.{AreOfKeys}
use Rattle.shared_cache.proofs.KeyReads.{put_of_keys}
use Rattle.shared_cache.proofs.held_keys.HeldKeys.put_alone.Goals as goal

pub returns-in-Ok-clause-ok : goal.returns-in-Ok-clause-ok
returns-in-Ok-clause-ok c =
    let keys = c.self.inside.keys in
    let h = c.args.entry in
    let key = c.in_ok-key.key in
    ap (λ z. record { pairs = map plain z.entries; most = z.cap }) c.in-Ok.ensures.entries
    ∙ ap (λ l. record { pairs = l; most = keys.cap })
    (put_others keys.entries key c.one.result keys.cap
    ∙ ap (λ es. (key.items, es) ∷ others key.items keys.cap (map plain keys.entries))
    (c.one.ensures ∙ ap (λ s. s ∷ []) c.in_ok-slot.ensures)
    ∙ ap (λ k. (k, h ∷ []) ∷ others k keys.cap (map plain keys.entries))
    (c.in_ok-key.ensures.items ∙ c.key.ensures))
    ∙ ap (λ k. with_pairs ((key_of h.query, h ∷ []) ∷ others (key_of h.query) k.most k.pairs) k)
    c.self.view_is

pub invariant_of-self : goal.invariant_of-self
invariant_of-self c =
    let key = c.in_ok-key.key in
    subst (λ z. AreOfKeys (map plain z.entries)) (sym c.in-Ok.ensures.entries)
    (put_of_keys c.self.inside.keys.entries key c.one.result c.self.inside.keys.cap
    c.self.invariant (grind arith))
