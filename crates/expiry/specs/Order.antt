-- What holds of every index: each deadline comes before all that stand after it.
use Rattle.std.specs.Prelude.{◌≡◌, List, [], ◌∷◌, true}
use Rattle.expiry.specs.declared.index.Deadline.{Deadline}
use Rattle.expiry.specs.Index.{comes_before}

abbrev pub IsBeforeAll : Deadline → List Deadline → Type 0
IsBeforeAll d [] = Unit {0}
IsBeforeAll d (e ∷ es) = (comes_before d e ≡ true) × IsBeforeAll d es

abbrev pub IsOrdered : List Deadline → Type 0
IsOrdered [] = Unit {0}
IsOrdered (d ∷ ds) = IsBeforeAll d ds × IsOrdered ds
