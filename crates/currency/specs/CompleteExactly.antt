-- How far a client has processed what was sent to it, told by what it got: exactly.
use Rattle.std.specs.Prelude.{List}
use Rattle.serial_model.specs.declared.history.Limits.{Limits}
use Rattle.serial_model.specs.declared.history.Entry.{Entry}
use Rattle.shared_cache.specs.declared.log.LogEntry.{LogEntry}
use Rattle.wire_currency.specs.Complete as wires
use Rattle.currency.specs.Links.{Client, Meet, traffic_of}

-- Complete is the least over the client's links. All of the history is complete on a link that has
-- ended; on another, the entries before the first of which something is not got, or all where there
-- is none.
abbrev pub CompleteExactly : Limits → Client → List Entry → List LogEntry → Type 0
CompleteExactly l x past log = wires.CompleteExactly (traffic_of l x past) log

-- for every history and every log that meet
abbrev pub CompletesExactly : Type 0
CompletesExactly =
    (l : Limits) (x : Client) (past : List Entry) (log : List LogEntry)
    → Meet l x past log → CompleteExactly l x past log
