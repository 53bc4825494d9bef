-- How far a client has processed what was sent to it.
use Rattle.std.specs.Prelude.{ℕ, List, length, take}
use Rattle.serial_model.specs.declared.history.Limits.{Limits}
use Rattle.serial_model.specs.declared.history.Entry.{Entry}
use Rattle.serial_model.specs.History.{run_entries, runs_of}
use Rattle.shared_cache.specs.declared.log.Wire.{Wire}
use Rattle.shared_cache.specs.declared.log.Wire.TheVariants.{Main}
use Rattle.shared_cache.specs.declared.log.LogEntry.{LogEntry}
use Rattle.shared_cache.specs.Log.{replies}
use Rattle.wire_currency.specs.Current as wires
use Rattle.currency.specs.Links.{Client, traffic_of}
pub use Rattle.command_words.specs.Queries.{names_key, reads_key}
pub use Rattle.wire_currency.specs.Current.{before_first}
pub use Rattle.currency.specs.Links.{up_to}

-- the number of entries all of whose messages on a link are processed; a link that has ended
-- does not count
abbrev pub complete_on : Limits → Client → Wire → List Entry → List LogEntry → ℕ
complete_on l x w past log = wires.complete_on (traffic_of l x past) log w

-- the number of entries all of whose messages to the client are processed
abbrev pub complete : Limits → Client → List Entry → List LogEntry → ℕ
complete l x past log = wires.complete (traffic_of l x past) log

-- the entry of the last of these commands that names a key, or 0
abbrev pub last_named : List ℕ → List (List (List ℕ)) → List ℕ → ℕ
last_named key runs entries = wires.last_named (λ words. names_key words key) runs entries

-- the entry of the last reply that the client has processed to a command that names the key
abbrev pub replied : Client → List Entry → List LogEntry → List ℕ → ℕ
replied x past log key =
    last_named key
    (take (length (replies x.setup.mode Main log)) (runs_of (x.id Main) past))
    (run_entries (x.id Main) past)
