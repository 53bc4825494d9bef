-- What a session of a script comes to: one log, of which each entry is a turn of a caller, of a
-- pump, or an end at the last.
use Rattle.std.specs.Prelude.{◌≡◌, ◌≢◌, ◌≤◌, ◌⊎◌, ◌+◌, ℕ, ⊤, List, [], ◌∷◌, ◌++◌, length, Option}
use Rattle.std.specs.Prelude.{Bool, true, false, Some, None, suc}
use Rattle.std.specs.List.{All}
use Rattle.turn_lock.specs.Counts.{total}
use Rattle.turn_lock.specs.History.{IsPrefix}
use Rattle.turn_lock.specs.declared.rule.TheConstants.{LAST_TICKET}
use Rattle.turn_lock.specs.Own.{past_of}
use Rattle.shared_cache.specs.declared.log.Wire.{Wire}
use Rattle.shared_cache.specs.declared.log.Wire.TheVariants.{Main, Side}
use Rattle.shared_cache.specs.declared.log.Shape.{Shape}
use Rattle.shared_cache.specs.declared.log.Shape.TheVariants.{Single, Pair}
use Rattle.shared_cache.specs.declared.log.LogEntry.{LogEntry}
use Rattle.shared_cache.specs.declared.log.LogEntry.TheVariants as entry
use Rattle.shared_cache.specs.Held.{Setup}
use Rattle.shared_cache.specs.Laws.{LegalLog}
use Rattle.shared_cache.specs.declared.log.ClientReply.TheVariants as reply
use Rattle.shared_cache.specs.Log.{is_ended, reply as reply_of}
use Rattle.shared_cache.specs.Steps.{client_step}
use Rattle.shared_client.specs.Turns.{Place, Turn, setup_at}
use Rattle.script_text.specs.declared.answer_line.ScriptAnswer.TheVariants as said
use Rattle.script_text.specs.declared.script_line.ScriptCall.{ScriptCall}
use Rattle.script_text.specs.declared.script_line.ScriptLine.{ScriptLine}
use Rattle.script_text.specs.Scripts.{most_threads}
use Rattle.client_link.specs.declared.pump_end.PumpEnd.{PumpEnd}
use Rattle.client_link.specs.declared.pump_end.PumpEnd.TheVariants as ended
use Rattle.client_link.specs.Pumps.{Pumps}
use Rattle.script_run.specs.declared.answer.Answer.{Answer}
use Rattle.script_run.specs.declared.reports.LineEnd.TheVariants as line
use Rattle.edge_links.specs.declared.counts.Counts.{Counts}
use Rattle.script_run.specs.Lines.{call_for, entry_for, calls_of, AllCame, ThreadsCame}
use Rattle.script_run.specs.Reports.{line_end, ends_of}

-- each entry of a log, with the entries before it
abbrev pub turns_in : List LogEntry → List Turn
turns_in [] = []
turns_in (e ∷ log) = (e, log) ∷ turns_in log

-- the line is printed as down
abbrev pub IsDown : Answer → Type 0
IsDown answer = line_end (Some answer) ≡ line.Said said.Down

abbrev pub AnyDown : List Answer → Type 0
AnyDown [] = ⊥
AnyDown (answer ∷ answers) = IsDown answer ⊎ AnyDown answers

abbrev pub HasDown : List (List Answer) → Type 0
HasDown [] = ⊥
HasDown (answers ∷ others) = AnyDown answers ⊎ HasDown others

-- the line's call was not played; or it was sent, and the log has no reply to it
abbrev pub NoReply : Setup → ScriptCall → List Turn → List LogEntry → Type 0
NoReply s c turns log =
    (turns ≡ []) ⊎ ((number : ℕ) × (past : List LogEntry) × (turns ≡ (entry_for c, past) ∷ [])
    × (client_step s past (call_for c)
    ≡ record { reply = reply.Sent number; past = entry_for c ∷ past })
    × (reply_of s.mode log number ≡ None))

-- no line of a thread that is down has a reply in this log, where its turns are those by which its
-- answer came
abbrev pub AllUnanswered : (s : Setup) (calls : List ScriptCall) (answers : List Answer)
    (turns : List Turn) (seen : List LogEntry) (tickets : ℕ)
    → AllCame s calls answers turns seen tickets → List LogEntry → Type 0
AllUnanswered s calls [] turns seen tickets came log = ⊤
AllUnanswered s [] (answer ∷ answers) turns seen tickets came log = ⊤
AllUnanswered s (c ∷ calls) (answer ∷ answers) turns seen tickets came log =
    (IsDown answer → NoReply s c came.0 log)
    × AllUnanswered s calls answers came.1 seen tickets came.4 log

abbrev pub Unanswered : (s : Setup) (lines : List ScriptLine) (thread : ℕ)
    (all : List (List Answer)) (turns : List Turn) (seen : List LogEntry) (tickets : ℕ)
    → ThreadsCame s lines thread all turns seen tickets → List LogEntry → Type 0
Unanswered s lines thread [] turns seen tickets came log = ⊤
Unanswered s lines thread (answers ∷ others) turns seen tickets came log =
    AllUnanswered s (calls_of thread lines) answers came.0 seen tickets came.3.came log
    × Unanswered s lines (suc thread) others came.1 seen tickets came.4 log

-- ---- the links

-- a client of this shape has a Side
abbrev pub is_pair : Shape → Bool
is_pair Single = false
is_pair Pair = true

-- a link with its pump: why that ended; and before and after, what was left of the link to read and
-- was written to it, where this is known, and what it had counted
pub record LinkEnd : Type 0 where
  pub end : PumpEnd
  pub left0 : Option (List ℕ)
  pub left1 : Option (List ℕ)
  pub link0 : Option (List ℕ)
  pub link1 : Option (List ℕ)
  pub counts0 : Counts
  pub counts1 : Counts

-- the pump ended the link, and neither found it ended nor had no ticket
abbrev pub EndsLink : PumpEnd → Type 0
EndsLink ended.Done = ⊥
EndsLink ended.Worn = ⊥
EndsLink e = ⊤

-- the pump of Main did, or that of Side
abbrev pub AnyEnds : LinkEnd → Option LinkEnd → Type 0
AnyEnds main None = EndsLink main.end
AnyEnds main (Some side) = EndsLink main.end ⊎ EndsLink side.end

-- the turns of a link's pump on this log, from its start on
pub record PumpedBy (s : Setup) (w : Wire) (l : LinkEnd) (turns : List Turn) (log : List LogEntry)
    (tickets : ℕ) : Type 0 where
  pub before : Place
  pub after : Place
  pub from_start : past_of before ≡ []
  pub setup_is : setup_at before ≡ s
  pub begins : IsPrefix (past_of after) log
  pub not_more : after.tickets ≤ tickets
  pub pumps : Pumps w l.end l.left0 l.left1 l.link0 l.link1 before after
  pub turns_are : turns ≡ pumps.ending ++ pumps.works.turns

-- the same of Side, where there is one
abbrev pub SidePumped : Setup → Option LinkEnd → List Turn → List LogEntry → ℕ → Type 0
SidePumped s None turns log tickets = turns ≡ []
SidePumped s (Some l) turns log tickets = PumpedBy s Side l turns log tickets

-- a link's end at the last, behind all that the callers saw; or the link had ended, or no ticket
-- was left
pub data ClosedBy (s : Setup) (w : Wire) (turns : List Turn) (seen log : List LogEntry)
    (tickets : ℕ) : Type 0 where
  LastEnd : (past : List LogEntry) → turns ≡ (entry.End w, past) ∷ [] → IsPrefix seen past
      → ClosedBy s w turns seen log tickets
  Over : (later : List LogEntry) → turns ≡ [] → IsPrefix later log
      → is_ended s.mode w later ≡ true → ClosedBy s w turns seen log tickets
  NoTicket : turns ≡ [] → LAST_TICKET ≤ tickets → ClosedBy s w turns seen log tickets

-- the same of Side, where there is one
abbrev pub SideClosed : Setup → Option LinkEnd → List Turn → List LogEntry → List LogEntry → ℕ
    → Type 0
SideClosed s None turns seen log tickets = turns ≡ []
SideClosed s (Some l) turns seen log tickets = ClosedBy s Side turns seen log tickets

-- ---- a session

pub record Session (s : Setup) (lines : List ScriptLine) (answers : List (List Answer))
    (main : LinkEnd) (side : Option LinkEnd) (log : List LogEntry) (tickets : ℕ) : Type 0 where
  -- the turns of the callers, of each link's pump, and the last
  pub called : List Turn
  pub pumped : List Turn
  pub side_pumped : List Turn
  pub closing : List Turn
  pub side_closing : List Turn
  -- what the callers have seen of the log in the end
  pub seen : List LogEntry
  pub begins : IsPrefix seen log
  pub many : length answers ≡ most_threads
  pub came : ThreadsCame s lines 1 answers called seen tickets
  pub pumps : PumpedBy s Main main pumped log tickets
  pub side_pumps : SidePumped s side side_pumped log tickets
  pub closes : ClosedBy s Main closing seen log tickets
  pub side_closes : SideClosed s side side_closing seen log tickets
  -- these are the log's entries, each once, however they are weighed
  pub all : (f : Turn → ℕ) → total f (turns_in log)
      ≡ total f (pumped ++ side_pumped) + (total f (side_closing ++ closing) + total f called)
  pub legal : LegalLog s log
  pub down : HasDown answers → AnyEnds main side
  pub unanswered : Unanswered s lines 1 answers called seen tickets came log

-- In a session none of whose pumps ended a link no line is down: each is answered by a hit or an
-- answer, or finds no memory, a full log or no ticket.
abbrev pub LinesAreAnswered : Type 0
LinesAreAnswered =
    (s : Setup) (lines : List ScriptLine) (answers : List (List Answer)) (main : LinkEnd)
    (side : Option LinkEnd) (log : List LogEntry) (tickets : ℕ)
    → Session s lines answers main side log tickets → (AnyEnds main side → ⊥)
    → All (λ e. e ≢ line.Said said.Down) (ends_of lines answers)
