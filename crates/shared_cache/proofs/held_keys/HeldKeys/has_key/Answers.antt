use Rattle.std.proofs.Common.{ap, ◌∙◌}
use Rattle.std.specs.Prelude.{is_some}
use Rattle.std.specs.Map.{lookup_entry}
use Rattle.std.specs.Str.{bytes_eq}
use Rattle.shared_cache.proofs.KeyCode.{some_plain}
use Rattle.shared_cache.proofs.held_keys.HeldKeys.has_key.Goals as goal

pub returns : goal.returns
returns c =
    c.contains.ensures ∙ some_plain c.args.key.now c.self.inside.keys.entries
    ∙ ap (λ k. is_some (lookup_entry (bytes_eq c.args.key.now) k.pairs)) c.self.view_is
