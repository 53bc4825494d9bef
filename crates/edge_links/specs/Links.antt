-- What a read of a link, an accept and a call of a net answer, and what they leave.
use Rattle.std.specs.Prelude.{◌≡◌, ◌≤◌, ◌<◌, ℕ, List, [], ◌∷◌, length, take, IfSome}
use Rattle.std.specs.declared.option.Option.{Option}
use Rattle.std.specs.Option.{option_map}
use Rattle.std.specs.declared.result.Result.{Result}
use Rattle.std.specs.declared.result.Result.TheVariants.{Ok, Err}
use Rattle.std.specs.Io.KnownBytes.{Consumes, Keeps, IsAtEnd}
use Rattle.edge_links.specs.declared.links.LinkRead.{LinkRead}
use Rattle.edge_links.specs.declared.links.LinkRead.TheVariants as read
use Rattle.edge_links.specs.declared.links.Accepted.{Accepted}
use Rattle.edge_links.specs.declared.links.Accepted.TheVariants as accepted
use Rattle.edge_links.specs.declared.links.NetFailed.{NetFailed}
use Rattle.edge_links.specs.Counts.{Counts, FaultCounted, IdleCounted, EndCounted, nought}

-- known bytes are given in order, and End comes only where none is left
abbrev pub LinkGives : LinkRead → Option (List ℕ) → Option (List ℕ) → List ℕ → Type 0
LinkGives (read.Bytes n) old new buf = (0 < n) × (n ≤ length buf) × Consumes old new (take n buf)
LinkGives read.Idle old new buf = Keeps old new
LinkGives read.End old new buf = IsAtEnd new × Keeps old new
LinkGives read.Failed old new buf = Keeps old new

abbrev pub LinkCounts : LinkRead → Counts → Counts → Type 0
LinkCounts (read.Bytes n) old new = new ≡ old
LinkCounts read.Idle old new = IdleCounted old new
LinkCounts read.End old new = EndCounted old new
LinkCounts read.Failed old new = FaultCounted old new

-- known links come in order, and Closed comes only where none is left
abbrev pub AcceptGives : {L : Type 0} → Accepted L → Option (List L) → Option (List L) → Type 0
AcceptGives (accepted.Came link) old new = old ≡ option_map (λ links. link ∷ links) new
AcceptGives accepted.Idle old new = new ≡ old
AcceptGives accepted.Closed old new = (new ≡ old) × IfSome new (λ links. links ≡ [])
AcceptGives accepted.Failed old new = new ≡ old

-- what comes has its counts at 0
abbrev pub AcceptCounts : {L : Type 0} → (L → Counts) → Accepted L → Counts → Counts → Type 0
AcceptCounts counts (accepted.Came link) old new = (new ≡ old) × (counts link ≡ nought)
AcceptCounts counts accepted.Idle old new = IdleCounted old new
AcceptCounts counts accepted.Closed old new = EndCounted old new
AcceptCounts counts accepted.Failed old new = FaultCounted old new

abbrev pub NetCounts : {T : Type 0} → (T → Counts) → Result T NetFailed → Counts → Counts → Type 0
NetCounts counts (Ok given) old new = (new ≡ old) × (counts given ≡ nought)
NetCounts counts (Err e) old new = FaultCounted old new
