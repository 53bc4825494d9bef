-- The numbers of the faults of an event.
use Rattle.std.specs.Prelude.{ℕ}
use Rattle.server_links.specs.declared.fault.WorldFault.{WorldFault}
use Rattle.server_links.specs.declared.fault.WorldFault.TheVariants.{NoName, NameTaken}
use Rattle.server_links.specs.declared.fault.WorldFault.TheVariants.{NothingThere}
use Rattle.server_links.specs.declared.fault.WorldFault.TheVariants.{NoMemory, Refused, HistoryFull}

abbrev pub number_of : WorldFault → ℕ
number_of NoName = 1
number_of NameTaken = 2
number_of NothingThere = 3
number_of NoMemory = 4
number_of (Refused number) = 5
number_of (HistoryFull entries) = 6

-- the faults that leave the world as before
abbrev pub IsRefusal : WorldFault → Type 0
IsRefusal NoName = Unit {0}
IsRefusal NameTaken = Unit {0}
IsRefusal NothingThere = Unit {0}
IsRefusal NoMemory = ⊥
IsRefusal (Refused number) = Unit {0}
IsRefusal (HistoryFull entries) = ⊥
