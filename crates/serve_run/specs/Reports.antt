-- What is printed of the connections that were served.
use Rattle.std.specs.Prelude.{◌≡◌, ℕ, Bool, true, false, not, cond, List, [], ◌++◌, ◌==◌}
use Rattle.std.specs.Prelude.{codes}
use Rattle.std.specs.Fmt.{decimal}
use Rattle.std.specs.List.{flat_map}
use Rattle.resp_value.specs.Lists.{IsPrefix}
use Rattle.conn_worker.specs.declared.report.Report.{Report}
use Rattle.conn_worker.specs.Numbers.{end_number}
use Rattle.conn_pool.specs.declared.totals.EndTotal.{EndTotal}
use Rattle.conn_pool.specs.EndTotals.{by_end, totals_of}

-- the line of a report, with its LF
unfoldable pub report_line : Report → List ℕ
report_line r =
    codes "connection " ++ (decimal r.id
    ++ (codes " ended " ++ (decimal (end_number r.ended)
    ++ (codes " requests " ++ (decimal r.requests ++ codes "\n")))))

-- those of several, one after the other
unfoldable pub report_text : List Report → List ℕ
report_text reports = flat_map report_line reports

-- the line of a way to end, by its number, with its LF
unfoldable pub tally_line : ℕ × EndTotal → List ℕ
tally_line (end, t) =
    codes "ended " ++ (decimal end
    ++ (codes " connections " ++ (decimal t.connections
    ++ (codes " requests " ++ (decimal t.requests ++ codes "\n")))))

-- nothing where none ended so
abbrev pub total_line : ℕ × EndTotal → List ℕ
total_line p = cond (p.1.connections == 0) [] (tally_line p)

unfoldable pub total_text : List (ℕ × EndTotal) → List ℕ
total_text totals = flat_map total_line totals

-- each connection is named where their number has a limit
abbrev pub names_each : ℕ → Bool
names_each connections = not (connections == 0)

-- the lines of reports, of which each has one, or else each way to end
abbrev pub lines_of : Bool → List Report → List ℕ
lines_of true reports = report_text reports
lines_of false reports = total_text (by_end (totals_of reports))

-- the first of these lines were added
abbrev pub IsBegun : Bool → List Report → List ℕ → List ℕ → Type 0
IsBegun true reports old new =
    (first : List Report) × IsPrefix first reports × (new ≡ old ++ report_text first)
IsBegun false reports old new =
    (first : List (ℕ × EndTotal)) × IsPrefix first (by_end (totals_of reports))
    × (new ≡ old ++ total_text first)
