-- The run of a server, and that of a script, as a whole, where nothing at their edges failed.
use Rattle.std.specs.Prelude.{◌≡◌, ◌⊎◌, ⊤, ℕ, List, Option, Result}
use Rattle.std.specs.declared.option.Option.TheVariants.{None, Some}
use Rattle.edge_links.specs.declared.counts.Counts.{Counts}
use Rattle.edge_links.specs.Counts.{Counted, nought}
use Rattle.edge_lines.specs.declared.lines.SinkFailed.{SinkFailed}
use Rattle.command_line.specs.declared.settings.ScriptSettings.{ScriptSettings}
use Rattle.command_line.specs.declared.settings.ServeSettings.{ServeSettings}
use Rattle.conn_pool.specs.Complete.{Completes as PoolCompletes}
use Rattle.conn_pool.specs.declared.serve.Served.{Served}
use Rattle.script_program.specs.Complete.{Completes}
use Rattle.script_program.specs.declared.run.ScriptEnd.{ScriptEnd}
use Rattle.script_program.specs.declared.run.ScriptSession.{ScriptSession}
use Rattle.redis_program.specs.declared.status.Status.{Status}
use Rattle.redis_program.specs.declared.status.Status.TheVariants as status
use Rattle.redis_program.specs.Headline.{limits_of}
use Rattle.redis_program.specs.Scripting.{client_of, script_status}

-- ---- a server

-- the acceptor that was served, if one was, counted no fault
abbrev pub IsAccepting : {A : Type 0} → (A → Counts) → Option (Served A) → Type 0
IsAccepting counts None = ⊤
IsAccepting counts (Some s) = Counted nought.faults (counts s.acceptor).faults → ⊥

-- the acceptor was served to its end, and all of it was written; or memory ran out
abbrev pub ServeCompletes : {A : Type 0} → ServeSettings → (A → Counts) → Option (Served A)
    → Status → Type 0
ServeCompletes {A = A} settings counts served answer =
    (answer ≡ status.NoMemory)
    ⊎ ((s : Served A) × (served ≡ Some s) × (answer ≡ status.Done)
    × PoolCompletes (limits_of settings.limits) settings.connections nought (counts s.acceptor)
    s.reports.items s.book s.accept_failed)

-- ---- a script

-- the status is that of a run as a whole: a line is outside the grammar, memory ran out, or each
-- line of the script has its value, or the session shows why not
abbrev pub ScriptCompletes : {L : Type 0} → ScriptSettings → (L → Option (List ℕ))
    → (L → Option (List ℕ)) → (L → Counts) → Option (List ℕ) → Option (ScriptSession L) → Status
    → Type 0
ScriptCompletes s left contents counts input session answer =
    (end : Result ScriptEnd SinkFailed) × (answer ≡ script_status end)
    × Completes left contents counts (client_of s) input session end
