-- What is written of a server's run, and what the fault of a net rests on.
use Rattle.std.proofs.Common.{◌≡◌, ℕ, List, ◌++◌, Some, None, Ok, Result, refl, sym}
use Rattle.std.proofs.Common.{subst}
use Rattle.std.specs.declared.option.Option.{Option}
use Rattle.resp_value.proofs.Prefixes.{prefix_by}
use Rattle.edge_links.specs.declared.counts.Counts.{Counts}
use Rattle.edge_lines.specs.declared.lines.SinkFailed.{SinkFailed}
use Rattle.edge_lines.specs.Streams.{AppendsFirst}
use Rattle.edge_lines.proofs.Bytes.{first_longer}
use Rattle.conn_pool.specs.declared.serve.Served.{Served}
use Rattle.serve_run.specs.Runs.{NetGave, Runs}
use Rattle.serve_run.specs.Written.{NetFailed, WritesRun, end_line}
use Rattle.serve_run.specs.declared.run.ServeEnd.{ServeEnd}
use Rattle.serve_run.specs.declared.run.ServeEnd.TheVariants.{NetFault}

-- the sink failed in the lines of the reports
pub text_cut : (end : ServeEnd) (text : List ℕ) (old new : Option (List ℕ))
    → AppendsFirst old new text → AppendsFirst old new (text ++ end_line end)
text_cut end text old new a =
    first_longer old new text (text ++ end_line end)
    (prefix_by text (text ++ end_line end) (end_line end) refl) a

module _ {A : Type 0} (connections : ℕ) (served : Option (Served A)) (net0 net1 : Counts) where
  fault_rests : (text : List ℕ) → Runs connections served text NetFault
      → NetGave served NetFault net0 net1 → NetFailed served net0 net1
  fault_rests text r n = by_served served r n
    where
      by_served : (s : Option (Served A)) → Runs connections s text NetFault
          → NetGave s NetFault net0 net1 → NetFailed s net0 net1
      by_served None r n = n.0
      by_served (Some s) r n = r.1

  pub fault_failed : (answer : Result ServeEnd SinkFailed) (old new : Option (List ℕ))
      → WritesRun connections served answer net0 net1 old new → answer ≡ Ok NetFault
      → NetFailed served net0 net1
  fault_failed answer old new w e =
      let is : WritesRun connections served (Ok NetFault) net0 net1 old new =
      subst (λ a. WritesRun connections served a net0 net1 old new) e w in
      let end : NetFault ≡ is.0 = is.4.0 in
      fault_rests is.1 (subst (λ x. Runs connections served is.1 x) (sym end) is.2)
      (subst (λ x. NetGave served x net0 net1) (sym end) is.3)
