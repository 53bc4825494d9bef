-- The counts of an object at the edge, which never fall.
use Rattle.std.specs.Prelude.{◌≡◌, ◌≤◌, ◌+◌, ◌-◌, ◌^◌, ℕ, min}
pub use Rattle.edge_links.specs.declared.counts.Counts.{Counts}

-- at least one more was counted; a count at its type's last value stays there
pub record Counted (before now : ℕ) : Type 0 where
  pub not_less : before ≤ now
  pub more : min (before + 1) (2 ^ 64 - 1) ≤ now

abbrev pub nought : Counts
nought = record { faults = 0; idles = 0; ends = 0 }

-- one more of this kind was counted, and the other counts are as they were
abbrev pub FaultCounted : Counts → Counts → Type 0
FaultCounted old new =
    Counted old.faults new.faults × (new.idles ≡ old.idles) × (new.ends ≡ old.ends)

abbrev pub IdleCounted : Counts → Counts → Type 0
IdleCounted old new =
    Counted old.idles new.idles × (new.faults ≡ old.faults) × (new.ends ≡ old.ends)

abbrev pub EndCounted : Counts → Counts → Type 0
EndCounted old new =
    Counted old.ends new.ends × (new.faults ≡ old.faults) × (new.idles ≡ old.idles)
