-- What the lines of a script come to, and the turns that they take. Turns stand newest first.
use Rattle.std.specs.Prelude.{◌≡◌, ◌≤◌, ◌==◌, ℕ, suc, ⊤, List, [], ◌∷◌, ◌++◌, cond, length}
use Rattle.std.specs.Prelude.{Some, None}
use Rattle.turn_lock.specs.History.{IsPrefix}
use Rattle.turn_lock.specs.declared.rule.TheConstants.{LAST_TICKET}
use Rattle.turn_lock.specs.Own.{past_of, Grows}
use Rattle.resp_value.specs.declared.value.Value.{Value}
use Rattle.shared_cache.specs.declared.log.LogEntry.{LogEntry}
use Rattle.shared_cache.specs.declared.log.LogEntry.TheVariants as entry
use Rattle.shared_cache.specs.declared.log.ClientCall.{ClientCall}
use Rattle.shared_cache.specs.declared.log.ClientCall.TheVariants as call
use Rattle.shared_cache.specs.declared.log.ClientReply.TheVariants as reply
use Rattle.shared_cache.specs.declared.log.ClientRefusal.{ClientRefusal}
use Rattle.shared_cache.specs.declared.log.ClientRefusal.TheVariants as refusal
use Rattle.shared_cache.specs.declared.entry.CacheEntry.{CacheEntry}
use Rattle.shared_cache.specs.Log.{reply as reply_of}
use Rattle.shared_cache.specs.Held.{Setup, held, held_for}
use Rattle.shared_cache.specs.Steps.{client_step, read_number, command_number}
use Rattle.shared_client.specs.Turns.{Place, Turn, setup_at, Allows}
use Rattle.script_text.specs.declared.script_line.ScriptCall.{ScriptCall}
use Rattle.script_text.specs.declared.script_line.ScriptCall.TheVariants.{Ask, Do}
use Rattle.script_text.specs.declared.script_line.ScriptLine.{ScriptLine}
use Rattle.script_run.specs.declared.answer.Answer.{Answer}
use Rattle.script_run.specs.declared.answer.Answer.TheVariants.{Hit, Read, Reply, Refused}

-- the client's call for what a line asks, and its entry
abbrev pub call_for : ScriptCall → ClientCall
call_for (Ask query) = call.Ask query
call_for (Do words) = call.Send words

abbrev pub entry_for : ScriptCall → LogEntry
entry_for (Ask query) = entry.Ask query
entry_for (Do words) = entry.Send words

-- the turns come one after another, behind what was there before, and are in what is there after
abbrev pub Between : List LogEntry → List Turn → List LogEntry → Type 0
Between before [] after = IsPrefix before after
Between before (turn ∷ turns) after =
    IsPrefix (turn.0 ∷ turn.1) after × Between before turns turn.1

-- ---- one line

-- the query was held, and was answered by one turn
pub record HitBy (s : Setup) (query : List (List ℕ)) (number : ℕ) (value : Value)
    (turns : List Turn) : Type 0 where
  pub past : List LogEntry
  pub turns_are : turns ≡ (entry.Ask query, past) ∷ []
  pub entry_held : CacheEntry
  pub is_held : held_for query (held s past) ≡ Some entry_held
  pub value_is : value ≡ entry_held.value
  pub number_is : number ≡ entry_held.number

-- it was not held; its read was sent, and a second turn handed out the reply
pub record ReadBy (s : Setup) (query : List (List ℕ)) (number : ℕ) (value : Value)
    (turns : List Turn) : Type 0 where
  pub past : List LogEntry
  pub later : List LogEntry
  pub turns_are : turns ≡ (entry.Poll number, later) ∷ (entry.Ask query, past) ∷ []
  pub not_held : held_for query (held s past) ≡ None
  pub number_is : number ≡ read_number s past query
  pub reply_is : reply_of s.mode later number ≡ Some value

-- the command was sent, and a second turn handed out the reply
pub record SentBy (s : Setup) (words : List (List ℕ)) (value : Value) (turns : List Turn) : Type 0
  where
    pub number : ℕ
    pub past : List LogEntry
    pub later : List LogEntry
    pub turns_are : turns ≡ (entry.Poll number, later) ∷ (entry.Send words, past) ∷ []
    pub number_is : number ≡ command_number s past words
    pub reply_is : reply_of s.mode later number ≡ Some value

-- why a call was refused, as the log showed then
abbrev pub RefusedSo : Setup → ClientCall → ClientRefusal → List LogEntry → ℕ → Type 0
RefusedSo s c refusal.NoMemory seen tickets = ⊤
RefusedSo s c refusal.Worn seen tickets = LAST_TICKET ≤ tickets
RefusedSo s c refusal.NotReady seen tickets = ⊥
RefusedSo s c r seen tickets =
    Allows c r × (client_step s seen c ≡ record { reply = reply.Refused r; past = seen })

-- the line's call was not played; or it was sent, and its reply was not handed out
pub data RefusedBy (s : Setup) (c : ScriptCall) (r : ClientRefusal) (turns : List Turn)
    (seen : List LogEntry) (tickets : ℕ) : Type 0 where
  Unplayed : turns ≡ [] → RefusedSo s (call_for c) r seen tickets
      → RefusedBy s c r turns seen tickets
  NoAnswer : (number : ℕ) (past : List LogEntry) → turns ≡ (entry_for c, past) ∷ []
      → client_step s past (call_for c)
      ≡ record { reply = reply.Sent number; past = entry_for c ∷ past }
      → RefusedSo s (call.Poll number) r seen tickets → RefusedBy s c r turns seen tickets

-- how the answer to a line came, by these turns, where this was seen in the end
abbrev pub Came : Setup → ScriptCall → Answer → List Turn → List LogEntry → ℕ → Type 0
Came s (Ask query) (Hit number value) turns seen tickets = HitBy s query number value turns
Came s (Ask query) (Read number value) turns seen tickets = ReadBy s query number value turns
Came s (Ask query) (Reply value) turns seen tickets = ⊥
Came s (Do words) (Hit number value) turns seen tickets = ⊥
Came s (Do words) (Read number value) turns seen tickets = ⊥
Came s (Do words) (Reply value) turns seen tickets = SentBy s words value turns
Came s (Ask query) (Refused r) turns seen tickets = RefusedBy s (Ask query) r turns seen tickets
Came s (Do words) (Refused r) turns seen tickets = RefusedBy s (Do words) r turns seen tickets

pub record PlaysLine (c : ScriptCall) (answer : Answer) (old new : Place) : Type 0 where
  pub turns : List Turn
  pub grows : Grows old new turns
  pub between : Between (past_of old) turns (past_of new)
  pub came : Came (setup_at old) c answer turns (past_of new) new.tickets

-- ---- the lines of a thread

-- the calls of the thread's lines, in order
abbrev pub calls_of : ℕ → List ScriptLine → List ScriptCall
calls_of thread [] = []
calls_of thread (line ∷ lines) =
    cond (line.thread == thread) (line.call ∷ calls_of thread lines) (calls_of thread lines)

-- what was seen of the log and the ticket word is part of this; the turns are in what was seen
pub record CameIn (s : Setup) (c : ScriptCall) (answer : Answer) (turns : List Turn)
    (log : List LogEntry) (tickets : ℕ) : Type 0 where
  pub seen : List LogEntry
  pub ticket : ℕ
  pub in_order : Between [] turns seen
  pub begins : IsPrefix seen log
  pub not_more : ticket ≤ tickets
  pub came : Came s c answer turns seen ticket

-- The answers are those of the first calls, one after the other, and these are the turns of all. A
-- call behind them was not played.
abbrev pub AllCame : Setup → List ScriptCall → List Answer → List Turn → List LogEntry → ℕ → Type 0
AllCame s calls [] turns log tickets = turns ≡ []
AllCame s [] (answer ∷ answers) turns log tickets = ⊥
AllCame s (c ∷ calls) (answer ∷ answers) turns log tickets =
    (mine : List Turn) × (rest : List Turn) × (turns ≡ rest ++ mine)
    × CameIn s c answer mine log tickets × AllCame s calls answers rest log tickets

pub record PlaysThread (calls : List ScriptCall) (answers : List Answer) (old new : Place) : Type 0
  where
    pub turns : List Turn
    pub grows : Grows old new turns
    pub between : Between (past_of old) turns (past_of new)
    pub came : AllCame (setup_at old) calls answers turns (past_of new) new.tickets

-- ---- the threads of a script

-- a thread's turns come one after another, and its answers by them
pub record ThreadCame (s : Setup) (calls : List ScriptCall) (answers : List Answer)
    (turns : List Turn) (log : List LogEntry) (tickets : ℕ) : Type 0 where
  pub in_order : Between [] turns log
  pub came : AllCame s calls answers turns log tickets

-- each list of answers is that of a thread, the first that of this one, and these are all turns
abbrev pub ThreadsCame : Setup → List ScriptLine → ℕ → List (List Answer) → List Turn
    → List LogEntry → ℕ → Type 0
ThreadsCame s lines thread [] turns log tickets = turns ≡ []
ThreadsCame s lines thread (answers ∷ others) turns log tickets =
    (mine : List Turn) × (rest : List Turn) × (turns ≡ rest ++ mine)
    × ThreadCame s (calls_of thread lines) answers mine log tickets
    × ThreadsCame s lines (suc thread) others rest log tickets

pub record PlaysThreads (lines : List ScriptLine) (threads : ℕ) (answers : List (List Answer))
    (old new : Place) : Type 0 where
  pub turns : List Turn
  pub grows : Grows old new turns
  pub many : length answers ≡ threads
  pub came : ThreadsCame (setup_at old) lines 1 answers turns (past_of new) new.tickets
