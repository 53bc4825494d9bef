-- What a run shows of its session, and what it comes to where nothing failed.
use Rattle.std.proofs.Common.{ℕ, List, Ok, Err, Result, sym, subst}
use Rattle.std.specs.Prelude.{OnErr, option_map}
use Rattle.std.specs.declared.option.Option.{Option}
use Rattle.edge_links.specs.declared.counts.Counts.{Counts}
use Rattle.edge_links.specs.Counts.{Counted}
use Rattle.edge_lines.specs.declared.lines.SinkFailed.{SinkFailed}
use Rattle.shared_cache.specs.Held.{Setup}
use Rattle.shared_cache.specs.declared.log.LogEntry.{LogEntry}
use Rattle.script_text.specs.declared.script_line.ScriptLine.{ScriptLine}
use Rattle.script_run.specs.declared.answer.Answer.{Answer}
use Rattle.script_run.specs.declared.reports.SessionEnd.{SessionEnd}
use Rattle.script_run.specs.declared.reports.SessionEnd.TheVariants as ended
use Rattle.script_run.specs.Complete.{Completes as SessionCompletes, EndShows}
use Rattle.script_run.specs.Reports.{ends_of}
use Rattle.script_run.specs.Session.{LinkEnd}
use Rattle.script_program.specs.declared.run.ScriptEnd.{ScriptEnd}
use Rattle.script_program.specs.declared.run.ScriptEnd.TheVariants as end
use Rattle.script_program.specs.declared.run.ScriptSession.{ScriptSession}
use Rattle.script_program.specs.Complete.{Completes, IsFaultless}
use Rattle.script_program.specs.Written.{EndRests, Reports, WritesScript}

-- what the end that is told of a session shows
module _ (s : Setup) (lines : List ScriptLine) (answers : List (List Answer)) (main : LinkEnd)
    (side : Option LinkEnd) (log : List LogEntry) (tickets : ℕ)
    (c : SessionCompletes s (ends_of lines answers) main side log tickets) where
  abbrev Shows : SessionEnd → Type 0
  Shows e = EndShows e s (ends_of lines answers) main side log tickets

  pub shown_by : (e : SessionEnd) (text : List ℕ)
      → Reports lines answers main.end (option_map (λ (l : LinkEnd). l.end) side) e text → Shows e
  shown_by ended.Done text h = subst Shows (sym h.1) c.shown
  shown_by (ended.LinkEnded w n) text h = subst Shows (sym h.1) c.shown
  shown_by ended.HistoryFull text h = subst Shows (sym h.1) c.shown
  shown_by ended.NoMemory text h = tt
  shown_by ended.Worn text h = subst Shows (sym h.1) c.shown

-- a run whose source, net and sink counted no fault
module _ {L : Type 0} (left contents : L → Option (List ℕ)) (counts : L → Counts) (client : Setup)
    (input : Option (List ℕ)) (session : Option (ScriptSession L)) (in0 in1 net0 net1 : Counts)
    (out0 out1 : Option (List ℕ)) (k0 k1 : Counts) (read : Counted in0.faults in1.faults → ⊥)
    (dialled : Counted net0.faults net1.faults → ⊥) (wrote : Counted k0.faults k1.faults → ⊥) where
  faultless : (e : ScriptEnd) → EndRests e in0 in1 net0 net1 → IsFaultless e
  faultless (end.Played e) h = tt
  faultless (end.BadLine number) h = tt
  faultless end.ReadFault h = read h.0
  faultless end.NetFault h = dialled h.1.0
  faultless end.NoMemory h = tt

  pub completes : (answer : Result ScriptEnd SinkFailed)
      → WritesScript left contents counts client input session answer in0 in1 net0 net1 out0 out1
      → OnErr answer (Counted k0.faults k1.faults)
      → Completes left contents counts client input session answer
  completes (Ok e) w failed =
      subst (λ z. Completes left contents counts client input session (Ok z)) (sym w.writes.0)
      (faultless w.end w.rests, w.text, w.comes)
  completes (Err f) w failed = wrote failed
