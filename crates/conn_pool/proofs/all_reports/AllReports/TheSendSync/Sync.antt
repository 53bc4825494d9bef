-- A list that only proofs read owns nothing, so any thread may share it.
use denote.Memory.{part_of, raw_all}
use denote.Param.Send.{IsSync, cell_keyless, view_sync}
use Rattle.conn_pool.specs.contracts.all_reports.AllReports.{the_row, the_view, the_invariant}
use Rattle.conn_pool.specs.contracts.all_reports.AllReports.TheInside.{the_row as inside}
use Rattle.conn_pool.specs.declared.all_reports.AllReports.{AllReports, the_code}

inside_sync : IsSync inside
unfolding part_of
inside_sync = record {
  shared = λ d b o κ. λ q vs.
      (cell_keyless q (raw_all inside.mir) vs b o, ((λ _. (tt, (tt, tt))), tt));
}

pub sync : IsSync the_row
sync = view_sync inside AllReports the_code the_view the_invariant inside_sync
