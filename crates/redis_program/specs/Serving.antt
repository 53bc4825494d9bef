-- What a run of the server writes, and what its status rests on.
use Rattle.std.specs.Prelude.{◌≡◌, ℕ, List, Option, Result, Ok, Err, IfSome}
use Rattle.std.specs.declared.option.Option.TheVariants.{Some}
use Rattle.edge_links.specs.declared.counts.Counts.{Counts}
use Rattle.edge_lines.specs.declared.lines.SinkFailed.{SinkFailed}
use Rattle.command_line.specs.declared.settings.Asked.TheVariants as asked
use Rattle.command_line.specs.declared.settings.ServeSettings.{ServeSettings}
use Rattle.command_line.specs.Commands.{command_of}
use Rattle.conn_pool.specs.declared.serve.Served.{Served}
use Rattle.serve_run.specs.Runs.{ServesAll}
use Rattle.serve_run.specs.Written.{WritesRun}
use Rattle.serve_run.specs.declared.run.ServeEnd.{ServeEnd}
use Rattle.serve_run.specs.declared.run.ServeEnd.TheVariants.{Done, NetFault, NoMemory}
use Rattle.redis_program.specs.declared.status.Status.{Status}
use Rattle.redis_program.specs.declared.status.Status.TheVariants as status
use Rattle.redis_program.specs.Headline.{limits_of}

-- the words ask for a server
abbrev pub AsksToServe : List (List ℕ) → Type 0
AsksToServe words = (settings : ServeSettings) × (command_of words ≡ Some (asked.Serve settings))

-- the status of what was written of a server
abbrev pub served_status : Result ServeEnd SinkFailed → Status
served_status (Ok Done) = status.Done
served_status (Ok NetFault) = status.NetFault
served_status (Ok NoMemory) = status.NoMemory
served_status (Err failed) = status.WriteFault

-- What a run of the server comes to. `WritesRun` says what is written, and that the net counted no
-- fault but where nothing was served.
pub record ServeGives {A L : Type 0} (settings : ServeSettings) (counts : A → Counts)
    (left : A → Option (List L)) (served : Option (Served A)) (answer : Status)
    (out0 out1 : Option (List ℕ)) (net0 net1 : Counts) : Type 0 where
  pub end : Result ServeEnd SinkFailed
  pub status : answer ≡ served_status end
  pub writes : WritesRun settings.connections served end net0 net1 out0 out1
  pub serves : IfSome served (λ s. ServesAll (limits_of settings.limits) settings.connections
      counts left s)
