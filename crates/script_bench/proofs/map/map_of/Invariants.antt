use Rattle.std.proofs.Common.{◌≡◌, ◌<◌, ℕ, Some}
use Rattle.std.specs.Str.{bytes_eq}
use Rattle.std.specs.HashMap.{get_by}
use Rattle.script_bench.specs.Asks.{key_of}
use Rattle.script_bench.specs.Filled.{content_is}
use Rattle.script_bench.proofs.map.map_of.Given as goal

abbrev pub invariant-loop-number : goal.invariant-loop-number
invariant-loop-number l =
    (n : ℕ) → n < l.number → get_by (λ k. bytes_eq (key_of n) k.items) l.map ≡ Some content_is
