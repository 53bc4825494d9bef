-- The order of reports.
use Rattle.std.specs.Prelude.{List}
use Rattle.std.specs.List.Sorted.{IsNonDecreasingBy}
use Rattle.conn_worker.specs.declared.report.Report.{Report}

-- in order of the connections' ids
abbrev pub AreInOrder : List Report → Type 0
AreInOrder reports = IsNonDecreasingBy (λ (r : Report). r.id) reports
