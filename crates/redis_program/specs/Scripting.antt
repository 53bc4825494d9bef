-- What a run of a script comes to, and what its status rests on.
use Rattle.std.specs.Prelude.{◌≡◌, ℕ, List, [], ◌∷◌, Bool, true, false, Option, Some, None}
use Rattle.std.specs.Prelude.{Result, Ok, Err}
use Rattle.edge_links.specs.declared.counts.Counts.{Counts}
use Rattle.edge_lines.specs.declared.lines.SinkFailed.{SinkFailed}
use Rattle.command_line.specs.declared.settings.Asked.TheVariants as asked
use Rattle.command_line.specs.declared.settings.Caching as settings
use Rattle.command_line.specs.declared.settings.Caching.TheVariants as asks
use Rattle.command_line.specs.declared.settings.ScriptSettings.{ScriptSettings}
use Rattle.command_line.specs.Commands.{command_of}
use Rattle.shared_cache.specs.declared.log.Shape.{Shape}
use Rattle.shared_cache.specs.declared.log.Shape.TheVariants.{Single, Pair}
use Rattle.shared_cache.specs.declared.log.Caching.{Caching}
use Rattle.shared_cache.specs.declared.log.Caching.TheVariants.{Default, OptIn, OptOut, Bcast}
use Rattle.shared_cache.specs.Held.{Setup}
use Rattle.script_run.specs.declared.reports.SessionEnd.TheVariants as ended
use Rattle.script_program.specs.declared.run.ScriptEnd.{ScriptEnd}
use Rattle.script_program.specs.declared.run.ScriptEnd.TheVariants as end
use Rattle.script_program.specs.declared.run.ScriptSession.{ScriptSession}
use Rattle.script_program.specs.Written.{WritesScript}
use Rattle.redis_program.specs.declared.status.Status.{Status}
use Rattle.redis_program.specs.declared.status.Status.TheVariants as status

-- the words ask for a script
abbrev pub AsksForScript : List (List ℕ) → Type 0
AsksForScript words =
    (settings : ScriptSettings) × (command_of words ≡ Some (asked.Script settings))

-- ---- the client that the settings ask for

-- how the server is to track: with `bcast` by the prefix that is written, or by every key
abbrev pub caching_by : settings.Caching → Option (List ℕ) → Caching
caching_by asks.Default prefix = Default
caching_by asks.OptIn prefix = OptIn
caching_by asks.OptOut prefix = OptOut
caching_by asks.Bcast None = Bcast []
caching_by asks.Bcast (Some prefix) = Bcast (prefix ∷ [])

-- the most entries of a client's log
abbrev pub log_max : ℕ
log_max = 4000000

-- with a link for invalidations, or without
abbrev pub shape_by : Bool → Shape
shape_by true = Pair
shape_by false = Single

abbrev pub client_of : ScriptSettings → Setup
client_of s = record {
  mode = record {
    shape = shape_by s.redirect;
    proto = s.resp;
    caching = caching_by s.caching s.prefix;
    noloop = s.noloop;
  };
  capacity = s.capacity;
  log_max = log_max;
}

-- ---- what its run comes to

-- the status of what was written of a script
abbrev pub script_status : Result ScriptEnd SinkFailed → Status
script_status (Ok (end.Played ended.Done)) = status.Done
script_status (Ok (end.Played (ended.LinkEnded w number))) = status.LinkEnded
script_status (Ok (end.Played ended.HistoryFull)) = status.HistoryFull
script_status (Ok (end.Played ended.NoMemory)) = status.NoMemory
script_status (Ok (end.Played ended.Worn)) = status.Worn
script_status (Ok (end.BadLine number)) = status.BadLine
script_status (Ok end.ReadFault) = status.ReadFault
script_status (Ok end.NetFault) = status.NetFault
script_status (Ok end.NoMemory) = status.NoMemory
script_status (Err failed) = status.WriteFault

-- What a run of a script comes to. `WritesScript` says what was read, played and written, and what
-- the source and the net have counted.
pub record ScriptGives {L : Type 0} (s : ScriptSettings) (left contents : L → Option (List ℕ))
    (counts : L → Counts) (input : Option (List ℕ)) (session : Option (ScriptSession L))
    (answer : Status) (in0 in1 net0 net1 : Counts) (out0 out1 : Option (List ℕ)) : Type 0 where
  pub end : Result ScriptEnd SinkFailed
  pub status : answer ≡ script_status end
  pub writes : WritesScript left contents counts (client_of s) input session end in0 in1 net0 net1
      out0 out1
