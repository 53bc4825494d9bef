use Rattle.std.proofs.Common.{arith, ap, sym, subst, ◌∙◌, map}
use Rattle.std.specs.Map.{remove_entry}
use Rattle.std.specs.Str.{bytes_eq}
use Rattle.shared_cache.specs.HeldKeys.{with_pairs}
use Rattle.shared_cache.proofs.PlainKeys.{plain, remove_plain}
use Rattle.shared_cache.specs.KeyReads.{AreOfKeys}
use Rattle.shared_cache.proofs.KeyReads.{of_keys_without}
use Rattle.shared_cache.proofs.held_keys.HeldKeys.remove.Goals as goal

pub returns : goal.returns
returns c =
    ap (λ z. record { pairs = map plain z.entries; most = z.cap }) c.pop.ensures.entries
    ∙ ap (λ l. record { pairs = l; most = c.self.inside.keys.cap })
    (remove_plain (bytes_eq c.args.key.now) c.self.inside.keys.entries)
    ∙ ap (λ k. with_pairs (remove_entry (bytes_eq c.args.key.now) k.pairs) k) c.self.view_is

pub invariant_of-self : goal.invariant_of-self
invariant_of-self c =
    subst AreOfKeys
    (sym (ap (λ z. map plain z.entries) c.pop.ensures.entries
    ∙ remove_plain (bytes_eq c.args.key.now) c.self.inside.keys.entries))
    (grind (arith, of_keys_without, plain))
