-- A list that only proofs read owns nothing, so it may go to another thread.
use denote.Param.Send.{IsSend, sendable, owning_send, view_send}
use Rattle.conn_pool.specs.contracts.all_reports.AllReports.{the_row, the_view, the_invariant}
use Rattle.conn_pool.specs.contracts.all_reports.AllReports.TheInside.{the_row as inside, the_type}
use Rattle.conn_pool.specs.declared.all_reports.AllReports.{AllReports, the_code}

inside_send : IsSend inside
inside_send = owning_send the_type (search sendable, tt) (λ d. tt) (λ k x w. tt)

pub send : IsSend the_row
send = view_send inside AllReports the_code the_view the_invariant inside_send
