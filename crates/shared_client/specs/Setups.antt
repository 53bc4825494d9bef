-- What a client is made with, and its turns as the lock's step.
use Rattle.std.specs.Prelude.{List, Option}
use Rattle.turn_lock.specs.History.{past_after}
use Rattle.shared_cache.specs.declared.log.LogEntry.{LogEntry}
use Rattle.shared_cache.specs.declared.log.ClientCall.{ClientCall}
use Rattle.shared_cache.specs.declared.log.ClientReply.{ClientReply}
use Rattle.shared_cache.specs.Held.{Setup}
use Rattle.shared_cache.specs.Steps.{ClientStep}
use Rattle.shared_cache.specs.Laws.{LegalLog}
use Rattle.shared_client.specs.declared.logged.ClientSetup.{ClientSetup}

-- the setup and the log of a client that threads take turns on
pub record Shared : Type 0 where
  pub setup : ClientSetup
  pub past : List LogEntry

abbrev pub setup_of : ClientSetup → Setup
setup_of c = record { mode = c.mode; capacity = c.capacity; log_max = c.log_max }

abbrev pub made_with : Setup → ClientSetup
made_with s = record { mode = s.mode; capacity = s.capacity; log_max = s.log_max }

-- the step on this log may give this reply and add this entry, or none; a legal log stays legal
abbrev pub TurnStep : ClientSetup → List LogEntry → ClientCall → ClientReply → Option LogEntry
    → Type 0
TurnStep c log call reply entry =
    ClientStep (setup_of c) log call reply (past_after log entry)
    × (LegalLog (setup_of c) log → LegalLog (setup_of c) (past_after log entry))
