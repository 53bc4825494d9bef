-- Reports, and what is kept of them.
use Rattle.std.specs.Prelude.{◌≡◌, ◌-◌, ℕ, List, Bool, true, false, vec_capacity, vec_len}
use Rattle.conn_worker.specs.declared.report.Report.{Report}
use Rattle.conn_pool.specs.EndTotals.{totals_of}
use Rattle.conn_pool.specs.declared.reports.Kept.{Kept}
use Rattle.conn_pool.specs.declared.reports.Kept.TheVariants as kept

-- All of them in the order in which they were added, whether each is kept, and how many can be
-- added without memory, where that is limited.
pub record Reported : Type 0 where
  pub items : List Report
  pub each : Bool
  pub room : ℕ

abbrev pub keeps_each : Kept → Bool
keeps_each (kept.Each v) = true
keeps_each (kept.Totals t) = false

-- it is of these reports
abbrev pub IsKept : Kept → List Report → Type 0
IsKept (kept.Each v) reports = v.items ≡ reports
IsKept (kept.Totals t) reports = t ≡ totals_of reports

abbrev pub room_in : Kept → ℕ
room_in (kept.Each v) = vec_capacity v - vec_len v
room_in (kept.Totals t) = 1
