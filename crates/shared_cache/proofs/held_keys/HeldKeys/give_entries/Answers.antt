use Rattle.std.proofs.Common.{ap, sym, subst, ◌∙◌, ◌∷◌, ◌≡◌, map, true, false}
use Rattle.std.specs.Prelude.{is_some}
use Rattle.std.specs.Map.{lookup_entry, remove_entry}
use Rattle.std.specs.Str.{bytes_eq}
use Rattle.shared_cache.specs.HeldKeys.{with_pairs}
use Rattle.shared_cache.proofs.PlainKeys.{plain}
use Rattle.shared_cache.proofs.KeyCode.{some_plain, put_others, there_others}
use Rattle.shared_cache.specs.KeyReads.{AreOfKey, AreOfKeys}
use Rattle.shared_cache.proofs.KeyReads.{put_of_keys}
use Rattle.shared_cache.proofs.held_keys.HeldKeys.give_entries.Goals as goal

pub unreachable-requires : goal.unreachable-requires
unreachable-requires c =
    let no : false ≡ true =
    c.in-Err.ensures.succeeds (some_plain c.args.key.items c.self.inside.keys.entries
    ∙ ap (λ k. is_some (lookup_entry (bytes_eq c.args.key.items) k.pairs)) c.self.view_is
    ∙ c.requires.there) in
    cc

pub returns : goal.returns
returns c =
    let keys = c.self.inside.keys in
    let there : is_some (lookup_entry (bytes_eq c.args.key.items) (map plain keys.entries)) ≡ true =
    ap (λ k. is_some (lookup_entry (bytes_eq c.args.key.items) k.pairs)) c.self.view_is
    ∙ c.requires.there in
    ap (λ z. record { pairs = map plain z.entries; most = z.cap }) c.in-Ok.ensures.entries
    ∙ ap (λ l. record { pairs = l; most = keys.cap })
    (put_others keys.entries c.args.key c.many.result keys.cap
    ∙ ap (λ l. (c.args.key.items, c.many.result) ∷ l)
    (there_others c.args.key.items keys.cap (map plain keys.entries) there)
    ∙ ap (λ es. (c.args.key.items, es)
    ∷ remove_entry (bytes_eq c.args.key.items) (map plain keys.entries)) c.many.ensures)
    ∙ ap (λ k. with_pairs
    ((c.args.key.items, c.args.entries.items) ∷ remove_entry (bytes_eq c.args.key.items) k.pairs) k)
    c.self.view_is

pub invariant_of-self : goal.invariant_of-self
invariant_of-self c =
    subst (λ z. AreOfKeys (map plain z.entries)) (sym c.in-Ok.ensures.entries)
    (put_of_keys c.self.inside.keys.entries c.args.key c.many.result c.self.inside.keys.cap
    c.self.invariant (subst (AreOfKey c.args.key.items) (sym c.many.ensures) c.requires.of_key))
