-- What is written of a script's run.
use Rattle.std.proofs.Common.{arith, ◌≡◌, ℕ, List, ◌++◌, Ok, Result, refl, append-nil, Some, None}
use Rattle.std.specs.Prelude.{IfSome, option_map}
use Rattle.std.specs.declared.option.Option.{Option}
use Rattle.resp_value.proofs.Prefixes.{prefix_by}
use Rattle.edge_links.specs.declared.counts.Counts.{Counts}
use Rattle.edge_links.specs.Counts.{EndCounted}
use Rattle.edge_lines.specs.declared.lines.SinkFailed.{SinkFailed}
use Rattle.edge_lines.specs.Streams.{AppendsFirst}
use Rattle.edge_lines.specs.TextLines.{text_lines}
use Rattle.edge_lines.proofs.Bytes.{first_longer}
use Rattle.shared_cache.specs.Held.{Setup}
use Rattle.client_link.specs.declared.pump_end.PumpEnd.{PumpEnd}
use Rattle.client_link.specs.Pumps.{end_number}
use Rattle.script_text.specs.declared.script_line.ScriptLine.{ScriptLine}
use Rattle.script_run.specs.declared.answer.Answer.{Answer}
use Rattle.script_run.specs.declared.reports.SessionEnd.{SessionEnd}
use Rattle.script_run.specs.declared.session.PumpedLink.{PumpedLink}
use Rattle.script_run.specs.Session.{LinkEnd}
use Rattle.script_run.specs.Ends.{side_end, side_pump, SideCounts}
use Rattle.script_run.specs.Reports.{end_text, ends_of, no_tally, session_end, tally_after}
use Rattle.script_run.specs.Reports.{text_after}
use Rattle.script_program.specs.declared.run.ScriptEnd.{ScriptEnd}
use Rattle.script_program.specs.declared.run.ScriptSession.{ScriptSession}
use Rattle.script_program.specs.Scripts.{script_of}
use Rattle.script_program.specs.Written.{Reports, SessionWrites, WritesScript}

-- the sink failed in the answers
pub text_cut : (e : SessionEnd) (text : List ℕ) (old new : Option (List ℕ))
    → AppendsFirst old new text → AppendsFirst old new (text ++ end_text e)
text_cut e text old new a =
    first_longer old new text (text ++ end_text e)
    (prefix_by text (text ++ end_text e) (end_text e) refl) a

pub reported : (lines : List ScriptLine) (answers : List (List Answer)) (main : PumpEnd)
    (side : Option PumpEnd) (e : SessionEnd) (text : List ℕ)
    → text ≡ text_after no_tally 1 (ends_of lines answers)
    → e ≡ session_end (tally_after no_tally (ends_of lines answers)) (end_number main)
    (option_map end_number side)
    → Reports lines answers main side e text
reported lines answers main side x text t e = grind (arith, append-nil)

pub played_writes : {L : Type 0} (left contents : L → Option (List ℕ)) (counts : L → Counts)
    (client : Setup) (lines : List ScriptLine) (input : Option (List ℕ))
    (session : Option (ScriptSession L)) (answer : Result ScriptEnd SinkFailed)
    (in0 in1 net0 net1 : Counts) (out0 out1 : Option (List ℕ))
    → SessionWrites left contents counts client lines session answer out0 out1
    → IfSome input (λ bytes. script_of 1 (text_lines bytes) ≡ Ok lines) → EndCounted in0 in1
    → net1 ≡ net0
    → WritesScript left contents counts client input session answer in0 in1 net0 net1 out0 out1
played_writes left contents counts client lines input session answer in0 in1 net0 net1 out0 out1
    w known counted net = grind arith

-- Side's pump is the same as its link's
pub same_pump : {L : Type 0} (left contents : L → Option (List ℕ)) (counts : L → Counts)
    (o : Option L) (p : Option (PumpedLink L)) → SideCounts counts o p
    → side_pump p ≡ option_map (λ (l : LinkEnd). l.end) (side_end left contents counts o p)
same_pump left contents counts None None h = refl
same_pump left contents counts (Some l) (Some p) h = refl
same_pump left contents counts None (Some p) h = absurd h
same_pump left contents counts (Some l) None h = absurd h
