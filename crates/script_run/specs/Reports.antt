-- What is printed of a session, and how it ends.
use Rattle.std.specs.Prelude.{◌==◌, ◌&&◌, ◌||◌, ◌++◌, ◌+◌, ◌-◌, ℕ, zero, suc, List, [], ◌∷◌}
use Rattle.std.specs.Prelude.{Bool, true}
use Rattle.std.specs.Prelude.{false, not, cond, codes, nat_le, Option, Some, None}
use Rattle.shared_cache.specs.declared.log.Wire.{Wire}
use Rattle.shared_cache.specs.declared.log.Wire.TheVariants.{Main, Side}
use Rattle.shared_cache.specs.declared.log.ClientRefusal.{ClientRefusal}
use Rattle.shared_cache.specs.declared.log.ClientRefusal.TheVariants as refusal
use Rattle.script_text.specs.Answered.{answer_text}
use Rattle.script_text.specs.declared.answer_line.ScriptAnswer.TheVariants as said
use Rattle.script_text.specs.declared.script_line.ScriptLine.{ScriptLine}
use Rattle.script_run.specs.declared.answer.Answer.{Answer}
use Rattle.script_run.specs.declared.answer.Answer.TheVariants.{Hit, Read, Reply, Refused}
use Rattle.script_run.specs.declared.reports.LineEnd.{LineEnd}
use Rattle.script_run.specs.declared.reports.LineEnd.TheVariants as end
use Rattle.script_run.specs.declared.reports.Tally.{Tally}
use Rattle.script_run.specs.declared.reports.SessionEnd.{SessionEnd}
use Rattle.script_run.specs.declared.reports.SessionEnd.TheVariants as session

-- ---- the answers in the order of the lines

abbrev pub first_of : List Answer → Option Answer
first_of [] = None
first_of (answer ∷ answers) = Some answer

abbrev pub rest_of : List Answer → List Answer
rest_of [] = []
rest_of (answer ∷ answers) = answers

-- the next answer of the thread at that place, and what is left
abbrev pub first_at : ℕ → List (List Answer) → Option Answer
first_at place [] = None
first_at zero (answers ∷ others) = first_of answers
first_at (suc place) (answers ∷ others) = first_at place others

abbrev pub rest_at : ℕ → List (List Answer) → List (List Answer)
rest_at place [] = []
rest_at zero (answers ∷ others) = rest_of answers ∷ others
rest_at (suc place) (answers ∷ others) = answers ∷ rest_at place others

abbrev pub refused_end : ClientRefusal → LineEnd
refused_end refusal.NoMemory = end.NoMemory
refused_end (refusal.LogFull entries) = end.LogFull
refused_end refusal.Worn = end.Worn
refused_end r = end.Said said.Down

-- a line that has no answer was not played, for want of memory
abbrev pub line_end : Option Answer → LineEnd
line_end (Some (Hit number value)) = end.Said (said.Hit number value)
line_end (Some (Read number value)) = end.Said (said.Read number value)
line_end (Some (Reply value)) = end.Said (said.Reply value)
line_end (Some (Refused r)) = refused_end r
line_end None = end.NoMemory

-- what the lines came to, in order, where these are the answers of the threads
abbrev pub ends_of : List ScriptLine → List (List Answer) → List LineEnd
ends_of [] threads = []
ends_of (line ∷ lines) threads =
    line_end (first_at (line.thread - 1) threads)
    ∷ ends_of lines (rest_at (line.thread - 1) threads)

-- ---- what is printed of them

abbrev pub no_tally : Tally
no_tally = record { down = false; no_memory = false; log_full = false; worn = false }

abbrev pub note_end : Tally → LineEnd → Tally
note_end t (end.Said said.Down) = record t { down = true }
note_end t (end.Said answer) = t
note_end t end.NoMemory = record t { no_memory = true }
note_end t end.LogFull = record t { log_full = true }
note_end t end.Worn = record t { worn = true }

-- all lines so far have an answer
abbrev pub is_printing : Tally → Bool
is_printing t = not t.no_memory && (not t.log_full && not t.worn)

abbrev pub said_text : ℕ → LineEnd → List ℕ
said_text line (end.Said answer) = answer_text line answer
said_text line end.NoMemory = []
said_text line end.LogFull = []
said_text line end.Worn = []

-- the text of lines from this number on, up to the first that has no answer
abbrev pub text_after : Tally → ℕ → List LineEnd → List ℕ
text_after t line [] = []
text_after t line (e ∷ ends) =
    cond (is_printing (note_end t e)) (said_text line e) []
    ++ text_after (note_end t e) (line + 1) ends

abbrev pub tally_after : Tally → List LineEnd → Tally
tally_after t [] = t
tally_after t (e ∷ ends) = tally_after (note_end t e) ends

-- ---- how the session ends, where the pumps of Main, and of Side if there is one, ended by these
-- numbers

-- a pump ended by this number
abbrev pub ends_so : ℕ → ℕ → Option ℕ → Bool
ends_so number main None = main == number
ends_so number main (Some side) = main == number || side == number

-- the first link whose pump ended by 1 to 4
abbrev pub link_ended : ℕ → Option ℕ → SessionEnd
link_ended main None = session.LinkEnded Main main
link_ended main (Some side) =
    cond (nat_le main 4) (session.LinkEnded Main main) (session.LinkEnded Side side)

abbrev pub session_end : Tally → ℕ → Option ℕ → SessionEnd
session_end t main side =
    cond (not t.down && is_printing t) session.Done
    (cond (t.no_memory || ends_so 6 main side) session.NoMemory
    (cond (t.log_full || ends_so 7 main side) session.HistoryFull
    (cond (t.worn || ends_so 8 main side) session.Worn (link_ended main side))))

abbrev pub cause_text : Wire → ℕ → List ℕ
cause_text Main number =
    cond (number == 1) (codes "link-ended main 1")
    (cond (number == 2) (codes "link-ended main 2")
    (cond (number == 3) (codes "link-ended main 3") (codes "link-ended main 4")))
cause_text Side number =
    cond (number == 1) (codes "link-ended side 1")
    (cond (number == 2) (codes "link-ended side 2")
    (cond (number == 3) (codes "link-ended side 3") (codes "link-ended side 4")))

-- the last line, with its LF
abbrev pub end_text : SessionEnd → List ℕ
end_text session.Done = []
end_text (session.LinkEnded w number) = cause_text w number ++ 10 ∷ []
end_text session.HistoryFull = codes "history-full" ++ 10 ∷ []
end_text session.NoMemory = codes "no-memory" ++ 10 ∷ []
end_text session.Worn = codes "worn" ++ 10 ∷ []
