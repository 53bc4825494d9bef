-- What a server's run writes, and what its end rests on.
use Rattle.std.specs.Prelude.{◌≡◌, ℕ, List, [], ◌++◌, codes, true, Option, Result, Ok, Err}
use Rattle.std.specs.declared.option.Option.TheVariants.{None, Some}
use Rattle.std.specs.Io.KnownBytes.{Appends}
use Rattle.edge_links.specs.declared.counts.Counts.{Counts}
use Rattle.edge_links.specs.Counts.{Counted}
use Rattle.edge_lines.specs.declared.lines.SinkFailed.{SinkFailed}
use Rattle.edge_lines.specs.Streams.{AppendsFirst}
use Rattle.conn_pool.specs.declared.serve.Served.{Served}
use Rattle.serve_run.specs.Runs.{NetGave, Runs}
use Rattle.serve_run.specs.declared.run.ServeEnd.{ServeEnd}
use Rattle.serve_run.specs.declared.run.ServeEnd.TheVariants.{Done, NetFault, NoMemory}

-- the last line of an end with its LF, or nothing
abbrev pub end_line : ServeEnd → List ℕ
end_line Done = []
end_line NetFault = codes "net-fault\n"
end_line NoMemory = codes "no-memory\n"

-- The lines of the run were written, and then the last line of the end, which is answered.
-- Where the sink failed, the first bytes of that were written.
abbrev pub RunWrites : Result ServeEnd SinkFailed → ServeEnd → List ℕ → Option (List ℕ)
    → Option (List ℕ) → Type 0
RunWrites (Ok answer) end text old new = (answer ≡ end) × Appends old new (text ++ end_line end)
RunWrites (Err failed) end text old new = AppendsFirst old new (text ++ end_line end)

-- what was served with this limit of connections ended so, and this was written of it
abbrev pub WritesRun : {A : Type 0} → ℕ → Option (Served A) → Result ServeEnd SinkFailed → Counts
    → Counts → Option (List ℕ) → Option (List ℕ) → Type 0
WritesRun connections served answer net0 net1 old new =
    (end : ServeEnd) × (text : List ℕ) × Runs connections served text end
    × NetGave served end net0 net1 × RunWrites answer end text old new

-- a fault of the net was counted, or its acceptor failed
abbrev pub NetFailed : {A : Type 0} → Option (Served A) → Counts → Counts → Type 0
NetFailed None old new = Counted old.faults new.faults
NetFailed (Some s) old new = s.accept_failed ≡ true
