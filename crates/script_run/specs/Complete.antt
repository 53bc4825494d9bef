-- A session as a whole: each of its lines has its value, unless what came of a link or what it had
-- to do without is why not.
use Rattle.std.specs.Prelude.{◌≡◌, ◌<◌, ◌≤◌, ◌⊎◌, ⊤, ℕ, List, ◌∷◌, Option, Some, None, option_map}
use Rattle.std.specs.Prelude.{true}
use Rattle.std.specs.List.{All}
use Rattle.std.specs.Io.KnownBytes.{Consumes}
use Rattle.turn_lock.specs.History.{IsPrefix}
use Rattle.turn_lock.specs.declared.rule.TheConstants.{LAST_TICKET}
use Rattle.resp_value.specs.declared.value.Value.{Value}
use Rattle.edge_links.specs.Counts.{Counted}
use Rattle.shared_cache.specs.declared.log.Wire.{Wire}
use Rattle.shared_cache.specs.declared.log.Wire.TheVariants.{Main, Side}
use Rattle.shared_cache.specs.declared.log.LogEntry.{LogEntry}
use Rattle.shared_cache.specs.declared.log.LogEntry.TheVariants as entry
use Rattle.shared_cache.specs.declared.log.ClientCall.TheVariants as call
use Rattle.shared_cache.specs.declared.log.ClientReply.TheVariants as reply
use Rattle.shared_cache.specs.Held.{Setup}
use Rattle.shared_cache.specs.Steps.{client_step, is_log_full}
use Rattle.client_link.specs.declared.pump_end.PumpEnd.{PumpEnd}
use Rattle.client_link.specs.declared.pump_end.PumpEnd.TheVariants as ended
use Rattle.client_link.specs.Pumps.{end_number, fault_in}
use Rattle.script_text.specs.declared.answer_line.ScriptAnswer.TheVariants as said
use Rattle.script_run.specs.declared.reports.LineEnd.{LineEnd}
use Rattle.script_run.specs.declared.reports.LineEnd.TheVariants as line
use Rattle.script_run.specs.declared.reports.SessionEnd.{SessionEnd}
use Rattle.script_run.specs.declared.reports.SessionEnd.TheVariants as session
use Rattle.script_run.specs.Reports.{no_tally, session_end, tally_after}
use Rattle.script_run.specs.Session.{LinkEnd}

-- the line was answered: by a hit, by the reply to its read, or by the reply to its command
abbrev pub HasValue : LineEnd → Type 0
HasValue (line.Said (said.Hit number value)) = ⊤
HasValue (line.Said (said.Read number value)) = ⊤
HasValue (line.Said (said.Reply value)) = ⊤
HasValue (line.Said said.Down) = ⊥
HasValue line.NoMemory = ⊥
HasValue line.LogFull = ⊥
HasValue line.Worn = ⊥

-- ---- what came of a link

-- What came of a link whose pump has this end: the link gave its end, or failed, which it counted;
-- the bytes read of it have that fault; or a value of them is one that the client refuses so, by
-- which its log ends the link. No other end is that of a link which ended by itself.
abbrev pub EndCause : PumpEnd → Setup → Wire → LinkEnd → List LogEntry → Type 0
EndCause ended.PeerEnd s w l log = Counted l.counts0.ends l.counts1.ends
EndCause ended.LinkFault s w l log = Counted l.counts0.faults l.counts1.faults
EndCause (ended.BadStream fault) s w l log =
    (heard : List ℕ) × Consumes l.left0 l.left1 heard × (fault_in heard ≡ Some fault)
EndCause (ended.Refused r) s w l log =
    (value : Value) × (past : List LogEntry) × IsPrefix (entry.Bad w value ∷ past) log
    × (client_step s past (call.Got w value)
    ≡ record { reply = reply.Refused r; past = entry.Bad w value ∷ past })
EndCause ended.Done s w l log = ⊥
EndCause ended.NoMemory s w l log = ⊥
EndCause ended.LogFull s w l log = ⊥
EndCause ended.Worn s w l log = ⊥

-- the link ended by itself, and its pump by this number
abbrev pub EndsBy : ℕ → Setup → Wire → LinkEnd → List LogEntry → Type 0
EndsBy number s w l log = (number ≡ end_number l.end) × EndCause l.end s w l log

-- the same of the link of this name, where there is one
abbrev pub WireEnds : Wire → ℕ → Setup → LinkEnd → Option LinkEnd → List LogEntry → Type 0
WireEnds Main number s main side log = EndsBy number s Main main log
WireEnds Side number s main (Some side) log = EndsBy number s Side side log
WireEnds Side number s main None log = ⊥

-- neither link ended by itself
abbrev pub AreSound : Setup → LinkEnd → Option LinkEnd → List LogEntry → Type 0
AreSound s main None log = EndCause main.end s Main main log → ⊥
AreSound s main (Some side) log =
    (EndCause main.end s Main main log → ⊥) × (EndCause side.end s Side side log → ⊥)

-- ---- what a session comes to

-- why a session ends so, of whose lines these are the ends
abbrev pub EndShows : SessionEnd → Setup → List LineEnd → LinkEnd → Option LinkEnd
    → List LogEntry → ℕ → Type 0
EndShows session.Done s ends main side log tickets = All HasValue ends
EndShows (session.LinkEnded w number) s ends main side log tickets =
    WireEnds w number s main side log
EndShows session.HistoryFull s ends main side log tickets = is_log_full s log ≡ true
EndShows session.Worn s ends main side log tickets = LAST_TICKET ≤ tickets
EndShows session.NoMemory s ends main side log tickets = ⊤

-- how a session ends whose lines came out so
abbrev pub end_of : List LineEnd → LinkEnd → Option LinkEnd → SessionEnd
end_of ends main side =
    session_end (tally_after no_tally ends) (end_number main.end)
    (option_map end_number (option_map (λ (l : LinkEnd). l.end) side))

-- A session ends as done exactly where each of its lines has its value; and by each other end only
-- where a link ended by itself, the log is full, no ticket is left, or memory ran out.
pub record Completes (s : Setup) (ends : List LineEnd) (main : LinkEnd) (side : Option LinkEnd)
    (log : List LogEntry) (tickets : ℕ) : Type 0 where
  pub done : All HasValue ends → end_of ends main side ≡ session.Done
  pub shown : EndShows (end_of ends main side) s ends main side log tickets

-- So over links that are sound, with room in the log and a ticket left, each line has its value and
-- the script is played to its end, or memory ran out.
abbrev pub SoundSessionsAnswer : Type 0
SoundSessionsAnswer =
    (s : Setup) (ends : List LineEnd) (main : LinkEnd) (side : Option LinkEnd)
    (log : List LogEntry) (tickets : ℕ) → Completes s ends main side log tickets
    → AreSound s main side log → (is_log_full s log ≡ true → ⊥) → tickets < LAST_TICKET
    → (All HasValue ends × (end_of ends main side ≡ session.Done))
    ⊎ (end_of ends main side ≡ session.NoMemory)
