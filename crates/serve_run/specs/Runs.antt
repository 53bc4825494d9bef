-- What the run of a server comes to.
use Rattle.std.specs.Prelude.{◌≡◌, ◌<◌, ◌≤◌, ◌⊎◌, ℕ, List, [], length, true, false, Option}
use Rattle.std.specs.declared.option.Option.TheVariants.{None, Some}
use Rattle.edge_links.specs.declared.counts.Counts.{Counts}
use Rattle.edge_links.specs.Counts.{Counted, FaultCounted, nought}
use Rattle.serial_model.specs.declared.history.Limits.{Limits}
use Rattle.serial_model.specs.History.{is_stopped}
use Rattle.conn_pool.specs.declared.serve.Served.{Served}
use Rattle.conn_pool.specs.Dispatcher.{after_giving, still}
use Rattle.conn_pool.specs.Outcome.{Stands}
use Rattle.serve_run.specs.Reports.{IsBegun, lines_of, names_each}
use Rattle.serve_run.specs.declared.run.ServeEnd.{ServeEnd}
use Rattle.serve_run.specs.declared.run.ServeEnd.TheVariants.{Done, NetFault, NoMemory}

-- An acceptor that had counted nothing was served to its close or fault, up to the limit, or until
-- a SHUTDOWN ran. Each link that it gave has its report, and the reports tell of one legal history.
pub record ServesAll {A L : Type 0} (limits : Limits) (connections : ℕ) (counts : A → Counts)
    (left : A → Option (List L)) (s : Served A) : Type 0 where
  pub acceptor : A
  pub fresh : counts acceptor ≡ nought
  pub given : still (left acceptor)
      ≡ after_giving (length s.reports.items) (still (left s.acceptor))
  pub failed : s.accept_failed ≡ true
      → Counted (counts acceptor).faults (counts s.acceptor).faults
  pub sound : s.accept_failed ≡ false
      → (counts s.acceptor).faults ≡ (counts acceptor).faults
  pub over : Counted (counts acceptor).faults (counts s.acceptor).faults
      ⊎ Counted (counts acceptor).ends (counts s.acceptor).ends
      ⊎ (0 < connections) × (length s.reports.items ≡ connections)
      ⊎ (is_stopped limits s.book.state.past ≡ true)
  pub within : 0 < connections → length s.reports.items ≤ connections
  pub history : Stands limits s.reports.items s.book

-- the text has the lines of a run with this limit, and the end says whether the net failed
abbrev pub Runs : {A : Type 0} → ℕ → Option (Served A) → List ℕ → ServeEnd → Type 0
Runs connections None text Done = ⊥
Runs connections None text NetFault = text ≡ []
Runs connections None text NoMemory = text ≡ []
Runs connections (Some s) text Done =
    (text ≡ lines_of (names_each connections) s.reports.items) × (s.accept_failed ≡ false)
Runs connections (Some s) text NetFault =
    (text ≡ lines_of (names_each connections) s.reports.items) × (s.accept_failed ≡ true)
Runs connections (Some s) text NoMemory =
    IsBegun (names_each connections) s.reports.items [] text

-- where nothing was served for a fault of the net, it counted one, and else none
abbrev pub NetGave : {A : Type 0} → Option (Served A) → ServeEnd → Counts → Counts → Type 0
NetGave None NetFault old new = FaultCounted old new
NetGave served end old new = new ≡ old
