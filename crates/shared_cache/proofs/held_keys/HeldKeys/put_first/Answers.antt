use Rattle.std.proofs.Common.{ap, sym, ◌∙◌, ◌∷◌, ◌++◌, []}
use Rattle.command_words.specs.Queries.{key_of}
use Rattle.shared_cache.specs.HeldKeys.{others, with_pairs}
use Rattle.shared_cache.proofs.KeyCode.{none_of}
use Rattle.shared_cache.proofs.held_keys.HeldKeys.put_first.Goals as goal

pub returns-in-Ok-clause-ok : goal.returns-in-Ok-clause-ok
returns-in-Ok-clause-ok c =
    let h = c.args.entry in
    c.in-Ok.ensures.ok
    ∙ ap (λ es. with_pairs ((key_of h.query, es ++ h ∷ [])
    ∷ others (key_of h.query) c.args.self.now.most c.args.self.now.pairs) c.args.self.now)
    (sym (none_of (key_of h.query) c.args.self.now.pairs c.requires))
