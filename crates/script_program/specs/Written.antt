-- What the run of a script comes to, what it writes, and what its end rests on.
use Rattle.std.specs.Prelude.{◌≡◌, ◌++◌, ◌⊎◌, ⊤, ℕ, List, [], codes, Option, Some, None}
use Rattle.std.specs.Prelude.{Result, Ok, Err}
use Rattle.std.specs.Prelude.{IfSome, is_some, option_map}
use Rattle.std.specs.Fmt.{decimal}
use Rattle.std.specs.Io.KnownBytes.{Appends}
use Rattle.resp_value.specs.Lists.{IsPrefix}
use Rattle.edge_links.specs.declared.counts.Counts.{Counts}
use Rattle.edge_links.specs.Counts.{Counted, FaultCounted, nought}
use Rattle.edge_lines.specs.declared.lines.SinkFailed.{SinkFailed}
use Rattle.edge_lines.specs.Streams.{AppendsFirst}
use Rattle.edge_lines.specs.TextLines.{text_lines}
use Rattle.shared_cache.specs.Held.{Setup}
use Rattle.client_link.specs.declared.pump_end.PumpEnd.{PumpEnd}
use Rattle.client_link.specs.Pumps.{EndCounts, end_number}
use Rattle.script_text.specs.declared.script_line.ScriptLine.{ScriptLine}
use Rattle.script_run.specs.declared.answer.Answer.{Answer}
use Rattle.script_run.specs.declared.reports.LineEnd.{LineEnd}
use Rattle.script_run.specs.declared.reports.SessionEnd.{SessionEnd}
use Rattle.script_run.specs.declared.reports.SessionEnd.TheVariants as ended
use Rattle.script_run.specs.Reports.{end_text, ends_of, no_tally, session_end, tally_after}
use Rattle.script_run.specs.Reports.{text_after}
use Rattle.script_run.specs.Complete.{EndShows}
use Rattle.script_run.specs.Session.{Session, is_pair}
use Rattle.script_run.specs.Ends.{link_end, side_end, side_pump, SideCounts}
use Rattle.script_program.specs.declared.run.ScriptEnd.{ScriptEnd}
use Rattle.script_program.specs.declared.run.ScriptEnd.TheVariants as end
use Rattle.script_program.specs.declared.run.ScriptSession.{ScriptSession}
use Rattle.script_program.specs.Scripts.{script_of}

-- ---- what is written

-- the last line of an end with its LF, or nothing
abbrev pub end_line : ScriptEnd → List ℕ
end_line (end.Played e) = end_text e
end_line (end.BadLine number) = codes "bad-line " ++ decimal number ++ codes "\n"
end_line end.ReadFault = codes "read-fault\n"
end_line end.NetFault = codes "net-fault\n"
end_line end.NoMemory = codes "no-memory\n"

-- The text was written, and then the last line of the end, which is answered. Where the sink
-- failed, the first bytes of that were written.
abbrev pub EndWrites : Result ScriptEnd SinkFailed → ScriptEnd → List ℕ → Option (List ℕ)
    → Option (List ℕ) → Type 0
EndWrites (Ok answer) e text old new = (answer ≡ e) × Appends old new (text ++ end_line e)
EndWrites (Err failed) e text old new = AppendsFirst old new (text ++ end_line e)

-- ---- what was played

-- The text has the answers to the lines in their order, and the session ends as they came out; or
-- memory for the text ran out after some lines.
abbrev pub Reports : List ScriptLine → List (List Answer) → PumpEnd → Option PumpEnd → SessionEnd
    → List ℕ → Type 0
Reports lines answers main side ended.NoMemory text =
    (first : List LineEnd) × IsPrefix first (ends_of lines answers)
    × (text ≡ text_after no_tally 1 first)
Reports lines answers main side e text =
    (text ≡ text_after no_tally 1 (ends_of lines answers))
    × (e ≡ session_end (tally_after no_tally (ends_of lines answers)) (end_number main)
    (option_map end_number side))

-- These lines were played over links that were new, and the text tells of it. A Side is there where
-- the client has one.
pub record PlaysScript {L : Type 0} (left contents : L → Option (List ℕ)) (counts : L → Counts)
    (client : Setup) (lines : List ScriptLine) (s : ScriptSession L) (e : SessionEnd)
    (text : List ℕ) : Type 0 where
  pub main : L
  pub side : Option L
  pub fresh : counts main ≡ nought
  pub side_fresh : IfSome side (λ l. counts l ≡ nought)
  pub side_there : is_some side ≡ is_pair client.mode.shape
  pub answers : List (List Answer)
  pub session : Session client lines answers (link_end left contents counts main s.main)
      (side_end left contents counts side s.side) s.client.state.past s.client.tickets
  pub counted : EndCounts s.main.end (counts main) (counts s.main.link)
  pub side_counted : SideCounts counts side s.side
  pub reported : Reports lines answers s.main.end (side_pump s.side) e text
  -- each line has its value, or this is why not
  pub shown : EndShows e client (ends_of lines answers) (link_end left contents counts main s.main)
      (side_end left contents counts side s.side) s.client.state.past s.client.tickets

-- an end before anything is played
abbrev pub NotPlayed : ScriptEnd → Type 0
NotPlayed (end.Played e) = ⊥
NotPlayed e = ⊤

-- the last line of the end was written; where memory for the number of a line ran out, that of want
-- of memory
abbrev pub NoneWritten : ScriptEnd → Result ScriptEnd SinkFailed → Option (List ℕ)
    → Option (List ℕ) → Type 0
NoneWritten (end.BadLine number) answer old new =
    EndWrites answer (end.BadLine number) [] old new ⊎ EndWrites answer end.NoMemory [] old new
NoneWritten e answer old new = EndWrites answer e [] old new

-- a session of these lines was played and written of; or none was, for want of memory
abbrev pub SessionWrites : {L : Type 0} → (L → Option (List ℕ)) → (L → Option (List ℕ))
    → (L → Counts) → Setup → List ScriptLine → Option (ScriptSession L)
    → Result ScriptEnd SinkFailed → Option (List ℕ) → Option (List ℕ) → Type 0
SessionWrites left contents counts client lines None answer old new =
    EndWrites answer end.NoMemory [] old new
SessionWrites left contents counts client lines (Some s) answer old new =
    (e : SessionEnd) × (text : List ℕ)
    × PlaysScript left contents counts client lines s e text
    × EndWrites answer (end.Played e) text old new

-- What a run came to that read this input, where it is known. Nothing was played where a line is
-- outside the grammar, the first of which is told, nor where there is no session.
abbrev pub Comes : {L : Type 0} → (L → Option (List ℕ)) → (L → Option (List ℕ)) → (L → Counts)
    → Setup → Option (List ℕ) → Option (ScriptSession L) → ScriptEnd → List ℕ → Type 0
Comes left contents counts client input None (end.Played e) text = ⊥
Comes left contents counts client input None (end.BadLine number) text =
    (text ≡ []) × IfSome input (λ bytes. script_of 1 (text_lines bytes) ≡ Err number)
Comes left contents counts client input None end.ReadFault text = text ≡ []
Comes left contents counts client input None end.NetFault text = text ≡ []
Comes left contents counts client input None end.NoMemory text = text ≡ []
Comes left contents counts client input (Some s) (end.Played e) text =
    (lines : List ScriptLine) × PlaysScript left contents counts client lines s e text
    × IfSome input (λ bytes. script_of 1 (text_lines bytes) ≡ Ok lines)
Comes left contents counts client input (Some s) e text = ⊥

-- What the counts of the source and of the net say: a session is played, and the net dials, only
-- where the source has counted its end.
abbrev pub EndRests : ScriptEnd → Counts → Counts → Counts → Counts → Type 0
EndRests (end.Played e) in0 in1 net0 net1 = Counted in0.ends in1.ends × (net1 ≡ net0)
EndRests (end.BadLine number) in0 in1 net0 net1 = (in1.faults ≡ in0.faults) × (net1 ≡ net0)
EndRests end.ReadFault in0 in1 net0 net1 = Counted in0.faults in1.faults × (net1 ≡ net0)
EndRests end.NetFault in0 in1 net0 net1 = Counted in0.ends in1.ends × FaultCounted net0 net1
EndRests end.NoMemory in0 in1 net0 net1 = (in1.faults ≡ in0.faults) × (net1 ≡ net0)

-- the run came to this end, and wrote of it
pub record WritesScript {L : Type 0} (left contents : L → Option (List ℕ)) (counts : L → Counts)
    (client : Setup) (input : Option (List ℕ)) (session : Option (ScriptSession L))
    (answer : Result ScriptEnd SinkFailed) (in0 in1 net0 net1 : Counts)
    (out0 out1 : Option (List ℕ)) : Type 0 where
  pub end : ScriptEnd
  pub text : List ℕ
  pub comes : Comes left contents counts client input session end text
  pub rests : EndRests end in0 in1 net0 net1
  pub writes : EndWrites answer end text out0 out1
