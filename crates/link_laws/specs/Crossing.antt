-- What both ends of a link know of each other by its bytes alone.
use Rattle.std.specs.Prelude.{ℕ, List, map}
use Rattle.resp_value.specs.declared.value.Value.{Value}
use Rattle.resp_value.specs.Lists.{IsPrefix}
use Rattle.resp_value.specs.ValueTree.{tree_of}
use Rattle.resp_stream.specs.Parse.{requests_of, values_of}
use Rattle.resp_laws.specs.Fronts.{Every, IsWellFormed}
use Rattle.serial_model.specs.declared.history.Limits.{Limits}
use Rattle.serial_model.specs.declared.history.Entry.{Entry}
use Rattle.serial_model.specs.History.{Sending, Message, End, sent, stream}
use Rattle.shared_cache.specs.declared.log.Wire.{Wire}
use Rattle.shared_cache.specs.declared.log.LogEntry.{LogEntry}
use Rattle.shared_cache.specs.Held.{Setup, commands}
use Rattle.shared_cache.specs.Laws.{LegalLog}
use Rattle.shared_cache.specs.Out.{out}
use Rattle.currency.specs.Links.{AreGot}

-- an end has no bytes
abbrev pub IsReadable : Sending → Type 0
IsReadable (Message proto value) = IsWellFormed proto (tree_of value)
IsReadable End = Unit {0}

abbrev pub SentIsWellFormed : Type 0
SentIsWellFormed =
    (l : Limits) (c : ℕ) (past : List Entry) → Every (λ s. IsReadable s.1) (sent l c past)

-- Whatever front of the stream was read of such a past, its values are the first that were sent.
abbrev pub ReadWasSent : (Limits → List Entry → Type 0) → Type 0
ReadWasSent IsPast =
    (l : Limits) (c : ℕ) (past : List Entry) (b : List ℕ) (values : List Value)
    → IsPast l past → IsPrefix b (stream l c past)
    → IsPrefix (map tree_of values) (values_of b)
    → AreGot values (sent l c past)

-- Whatever front of a link's bytes was heard, its requests are the first commands.
abbrev pub HeardWasCommanded : Type 0
HeardWasCommanded =
    (s : Setup) (w : Wire) (log : List LogEntry) (b : List ℕ)
    → LegalLog s log → IsPrefix b (out s w log)
    → IsPrefix (requests_of b) (commands s w log)
