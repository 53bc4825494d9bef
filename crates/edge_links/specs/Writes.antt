-- What writing all of some bytes to a link does.
use Rattle.std.specs.Prelude.{◌≡◌, ⊤, ◌++◌, ℕ, List}
use Rattle.std.specs.declared.option.Option.{Option}
use Rattle.std.specs.declared.result.Result.{Result}
use Rattle.std.specs.declared.result.Result.TheVariants.{Ok, Err}
use Rattle.std.specs.Io.KnownBytes.{Appends}
use Rattle.edge_links.specs.declared.writing.LinkFailed.{LinkFailed}
use Rattle.edge_links.specs.Counts.{Counts, FaultCounted}

-- `front` are the first bytes of `bytes`
abbrev pub IsFront : List ℕ → List ℕ → Type 0
IsFront front bytes = (behind : List ℕ) × (front ++ behind ≡ bytes)

-- all of the bytes were written; or the first of them, and then the link failed
abbrev pub WritesAll : Result ⊤ LinkFailed → Option (List ℕ) → Option (List ℕ) → List ℕ → Type 0
WritesAll (Ok u) old new bytes = Appends old new bytes
WritesAll (Err e) old new bytes =
    (front : List ℕ) × Appends old new front × IsFront front bytes

abbrev pub AllCounts : Result ⊤ LinkFailed → Counts → Counts → Type 0
AllCounts (Ok u) old new = new ≡ old
AllCounts (Err e) old new = FaultCounted old new
