use Rattle.std.proofs.Common.{◌≡◌, ◌++◌, length, map}
use Rattle.std.specs.Option.{option_map}
use Rattle.script_text.specs.Clients.{prefixes_of}
use Rattle.script_text.proofs.client_line.read_prefixes.Given as goal

-- the prefixes so far stand before those that are left
abbrev pub invariant-prefixes : goal.invariant-prefixes
invariant-prefixes l = prefixes_of (map (λ t. t.now) l.options) ≡ option_map (λ more. l.prefixes
    ++ more) (prefixes_of (map (λ t. t.now) l.rest))

abbrev pub decreases-prefixes : goal.decreases-prefixes
decreases-prefixes l = length l.rest
