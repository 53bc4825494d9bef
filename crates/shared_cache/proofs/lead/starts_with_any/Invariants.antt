use Rattle.std.proofs.Common.{◌≡◌, drop}
use Rattle.std.specs.Prelude.{nat_eq}
use Rattle.std.specs.List.{list_any, starts_with}
use Rattle.shared_cache.proofs.lead.starts_with_any.Given as goal

abbrev pub invariant-loop-prefix : goal.invariant-loop-prefix
invariant-loop-prefix l =
    list_any (starts_with nat_eq l.key) (drop l.prefix-index l.prefixes)
    ≡ list_any (starts_with nat_eq l.key) l.prefixes
