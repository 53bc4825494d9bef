-- What a pump does to its seat and its link.
use Rattle.std.specs.Prelude.{◌≡◌, ◌≤◌, ◌⊎◌, ℕ, List, [], ◌∷◌, ◌++◌, length, take, ⊤, true, false}
use Rattle.std.specs.Prelude.{Bool, Option, Some, None, Result, Ok, Err}
use Rattle.std.specs.List.{All}
use Rattle.std.specs.Io.KnownBytes.{Appends, Consumes}
use Rattle.turn_lock.specs.declared.rule.TheConstants.{LAST_TICKET}
use Rattle.turn_lock.specs.Own.{past_of, Grows}
use Rattle.turn_lock.specs.Turns.{in_order}
use Rattle.resp_value.specs.Lists.{IsPrefix}
use Rattle.resp_value.specs.Tree.{Tree}
use Rattle.resp_value.specs.ValueTree.{tree_of}
use Rattle.resp_value.specs.declared.value.Value.{Value}
use Rattle.resp_stream.specs.Parse.{parse_values, values_of}
use Rattle.resp_stream.specs.Stream.{Stream, begun, fed}
use Rattle.resp_stream.specs.declared.fault.StreamFault.{StreamFault}
use Rattle.edge_links.specs.declared.counts.Counts.{Counts}
use Rattle.edge_links.specs.Counts.{Counted, FaultCounted}
use Rattle.shared_cache.specs.declared.log.Wire.{Wire}
use Rattle.shared_cache.specs.declared.log.LogEntry.{LogEntry}
use Rattle.shared_cache.specs.declared.log.LogEntry.TheVariants as entry
use Rattle.shared_cache.specs.declared.log.ClientCall.TheVariants as call
use Rattle.shared_cache.specs.declared.log.ClientReply.TheVariants as reply
use Rattle.shared_cache.specs.declared.log.ClientRefusal.{ClientRefusal}
use Rattle.shared_cache.specs.declared.log.ClientRefusal.TheVariants as refusal
use Rattle.shared_cache.specs.Held.{Setup}
use Rattle.shared_cache.specs.Log.{is_ended}
use Rattle.shared_cache.specs.Out.{out, taken, untaken}
use Rattle.shared_cache.specs.Steps.{client_step, is_log_full}
use Rattle.shared_client.specs.Turns.{Place, Turn, setup_at}
use Rattle.client_link.specs.declared.pump_end.PumpEnd.{PumpEnd}
use Rattle.client_link.specs.declared.pump_end.PumpEnd.TheVariants as ended

-- the end of a pump whose turn was refused
abbrev pub end_by : ClientRefusal → PumpEnd
end_by (refusal.Down w) = ended.Done
end_by refusal.NoMemory = ended.NoMemory
end_by (refusal.LogFull n) = ended.LogFull
end_by refusal.Worn = ended.Worn
end_by r = ended.Refused r

-- ---- the turns of a pump, the newest first

-- a TakeOut or a Got of that link
abbrev pub IsWork : Wire → Turn → Type 0
IsWork u (entry.TakeOut w n, past) = w ≡ u
IsWork u (entry.Got w v, past) = w ≡ u
IsWork u (entry.Ask q, past) = ⊥
IsWork u (entry.Send ws, past) = ⊥
IsWork u (entry.Poll n, past) = ⊥
IsWork u (entry.End w, past) = ⊥
IsWork u (entry.Bad w v, past) = ⊥

-- the value that the turn got, one that ended the link included
abbrev pub got_in : Turn → List Tree
got_in (entry.Got w v, past) = tree_of v ∷ []
got_in (entry.Bad w v, past) = tree_of v ∷ []
got_in (entry.TakeOut w n, past) = []
got_in (entry.Ask q, past) = []
got_in (entry.Send ws, past) = []
got_in (entry.Poll n, past) = []
got_in (entry.End w, past) = []

-- the values got, in order
abbrev pub gots_in : List Turn → List Tree
gots_in turns = in_order got_in turns

abbrev pub gave_in : Setup → Turn → List ℕ
gave_in s (entry.TakeOut w n, past) = take n (untaken s w past)
gave_in s (entry.Got w v, past) = []
gave_in s (entry.Bad w v, past) = []
gave_in s (entry.Ask q, past) = []
gave_in s (entry.Send ws, past) = []
gave_in s (entry.Poll n, past) = []
gave_in s (entry.End w, past) = []

-- the bytes that the TakeOuts gave, in order
abbrev pub gave : Setup → List Turn → List ℕ
gave s turns = in_order (gave_in s) turns

-- where the turn is a Got: of all that was queued up to and with it, no byte is behind those that
-- were taken
abbrev pub IsTaken : Setup → Wire → ℕ → Turn → Type 0
IsTaken s u count (entry.Got w v, past) = length (out s u (entry.Got w v ∷ past)) ≤ count
IsTaken s u count (entry.TakeOut w n, past) = ⊤
IsTaken s u count (entry.Bad w v, past) = ⊤
IsTaken s u count (entry.Ask q, past) = ⊤
IsTaken s u count (entry.Send ws, past) = ⊤
IsTaken s u count (entry.Poll n, past) = ⊤
IsTaken s u count (entry.End w, past) = ⊤

-- the value of the last turn ended the link, and was refused so
pub record EndsByValue (s : Setup) (w : Wire) (r : ClientRefusal) (turns : List Turn) : Type 0
  where
    pub value : Value
    pub past : List LogEntry
    pub turns_are : turns ≡ (entry.Bad w value, past) ∷ []
    pub step : client_step s past (call.Got w value)
        ≡ record { reply = reply.Refused r; past = entry.Bad w value ∷ past }

-- ---- counts

-- a count that rose in this call, for an end that the link gave; else no fault and no end of it
abbrev pub EndCounts : PumpEnd → Counts → Counts → Type 0
EndCounts ended.PeerEnd old new = Counted old.ends new.ends × (new.faults ≡ old.faults)
EndCounts ended.LinkFault old new = Counted old.faults new.faults × (new.ends ≡ old.ends)
EndCounts (ended.BadStream fault) old new = (new.faults ≡ old.faults) × (new.ends ≡ old.ends)
EndCounts (ended.Refused r) old new = (new.faults ≡ old.faults) × (new.ends ≡ old.ends)
EndCounts ended.Done old new = (new.faults ≡ old.faults) × (new.ends ≡ old.ends)
EndCounts ended.NoMemory old new = (new.faults ≡ old.faults) × (new.ends ≡ old.ends)
EndCounts ended.LogFull old new = (new.faults ≡ old.faults) × (new.ends ≡ old.ends)
EndCounts ended.Worn old new = ⊤

abbrev pub RoundCounts : Result ⊤ PumpEnd → Counts → Counts → Type 0
RoundCounts (Ok u) old new = (new.faults ≡ old.faults) × (new.ends ≡ old.ends)
RoundCounts (Err e) old new = EndCounts e old new

-- ---- why a pump's turn is not taken, as the seat shows it

abbrev pub IsStop : Wire → PumpEnd → Place → Type 0
IsStop w ended.PeerEnd k = ⊥
IsStop w ended.LinkFault k = ⊥
IsStop w (ended.BadStream fault) k = ⊥
IsStop w (ended.Refused r) k = ⊥
IsStop w ended.Done k = is_ended (setup_at k).mode w (past_of k) ≡ true
IsStop w ended.NoMemory k = ⊤
IsStop w ended.LogFull k = is_log_full (setup_at k) (past_of k) ≡ true
IsStop w ended.Worn k = LAST_TICKET ≤ k.tickets

-- ---- what is written to a link

-- all that was queued was taken out and written
pub record Delivers (w : Wire) (link0 link1 : Option (List ℕ)) (old new : Place) : Type 0 where
  pub turns : List Turn
  pub grows : Grows old new turns
  pub work : All (IsWork w) turns
  pub got_none : gots_in turns ≡ []
  pub wrote : Appends link0 link1 (gave (setup_at old) turns)
  pub all_taken : length (out (setup_at old) w (past_of new))
      ≤ taken (setup_at old) w (past_of new)

-- some of what was queued was taken out, and some of that was written
pub record DeliversPart (w : Wire) (cause : PumpEnd) (link0 link1 : Option (List ℕ))
    (old new : Place) : Type 0
  where
    pub turns : List Turn
    pub grows : Grows old new turns
    pub work : All (IsWork w) turns
    pub got_none : gots_in turns ≡ []
    pub bytes : List ℕ
    pub wrote : Appends link0 link1 bytes
    pub front : IsPrefix bytes (gave (setup_at old) turns)
    pub cause_is : (cause ≡ ended.LinkFault) ⊎ IsStop w cause new

abbrev pub DeliveryCounts : Result ⊤ PumpEnd → Counts → Counts → Type 0
DeliveryCounts (Ok u) old new = new ≡ old
DeliveryCounts (Err ended.LinkFault) old new = FaultCounted old new
DeliveryCounts (Err e) old new = new ≡ old

-- ---- one read of a link

-- the values of the stream were got, all of them
pub record GetsAll (w : Wire) (before after : Stream) (old new : Place) : Type 0 where
  pub turns : List Turn
  pub grows : Grows old new turns
  pub work : All (IsWork w) turns
  pub gave_none : gave (setup_at old) turns ≡ []
  pub gots : gots_in turns ≡ (parse_values before).items
  pub fault : (parse_values before).fault ≡ None
  pub reader : after ≡ (parse_values before).stream

-- why no more of a stream's values were got
abbrev pub GettingStops : Wire → PumpEnd → Stream → List Turn → List Turn → Setup → Place → Type 0
GettingStops w (ended.BadStream fault) before ending turns s k =
    (ending ≡ []) × (gots_in turns ≡ (parse_values before).items)
    × ((parse_values before).fault ≡ Some fault)
GettingStops w (ended.Refused r) before ending turns s k = EndsByValue s w r ending
GettingStops w e before ending turns s k = (ending ≡ []) × IsStop w e k

-- some of the values of the stream were got, and the one that ended the link behind them
pub record GetsPart (w : Wire) (cause : PumpEnd) (before : Stream) (old new : Place) : Type 0 where
  pub turns : List Turn
  pub ending : List Turn
  pub grows : Grows old new (ending ++ turns)
  pub work : All (IsWork w) turns
  pub gave_none : gave (setup_at old) turns ≡ []
  pub gots : IsPrefix (gots_in (ending ++ turns)) (parse_values before).items
  pub stops : GettingStops w cause before ending turns (setup_at old) new

-- Nothing came; or a piece was read, and the values that are whole by then were got.
pub data Hears (w : Wire) (before after : Stream) (left0 left1 : Option (List ℕ))
    (old new : Place) : Type 0 where
  Idle : after ≡ before → new ≡ old → Consumes left0 left1 []
      → Hears w before after left0 left1 old new
  Piece : (piece : List ℕ) → Consumes left0 left1 piece
      → GetsAll w (fed before piece) after old new → Hears w before after left0 left1 old new

abbrev pub IsOfLink : PumpEnd → Type 0
IsOfLink ended.PeerEnd = ⊤
IsOfLink ended.LinkFault = ⊤
IsOfLink (ended.BadStream fault) = ⊥
IsOfLink (ended.Refused r) = ⊥
IsOfLink ended.Done = ⊥
IsOfLink ended.NoMemory = ⊥
IsOfLink ended.LogFull = ⊥
IsOfLink ended.Worn = ⊥

-- The link gave no bytes; or a piece was read, and some of the values in it were got.
pub data HearsPart (w : Wire) (cause : PumpEnd) (before : Stream)
    (left0 left1 : Option (List ℕ)) (old new : Place) : Type 0 where
  Nothing : IsOfLink cause → new ≡ old → Consumes left0 left1 []
      → HearsPart w cause before left0 left1 old new
  Part : (piece : List ℕ) → Consumes left0 left1 piece
      → GetsPart w cause (fed before piece) old new → HearsPart w cause before left0 left1 old new

-- ---- a pump

-- an end by which every value that was read was got
abbrev pub IsWhole : PumpEnd → Type 0
IsWhole ended.PeerEnd = ⊤
IsWhole ended.LinkFault = ⊤
IsWhole (ended.BadStream fault) = ⊤
IsWhole (ended.Refused r) = ⊥
IsWhole ended.Done = ⊥
IsWhole ended.NoMemory = ⊥
IsWhole ended.LogFull = ⊥
IsWhole ended.Worn = ⊥

-- the fault of a text, behind its values
abbrev pub fault_in : List ℕ → Option StreamFault
fault_in heard = (parse_values (fed begun heard)).fault

-- what was read has the fault, or none, where it was read to its end
abbrev pub FaultIs : PumpEnd → List ℕ → Type 0
FaultIs ended.PeerEnd heard = fault_in heard ≡ None
FaultIs ended.LinkFault heard = fault_in heard ≡ None
FaultIs (ended.BadStream fault) heard = fault_in heard ≡ Some fault
FaultIs (ended.Refused r) heard = ⊤
FaultIs ended.Done heard = ⊤
FaultIs ended.NoMemory heard = ⊤
FaultIs ended.LogFull heard = ⊤
FaultIs ended.Worn heard = ⊤

-- What a pump did, but for its last turn, by `ending`: the Gots are the first values in what was
-- read, in order, and what was written are the first bytes that the TakeOuts gave. Where the link
-- ended, or failed, or its bytes have a fault, the values are all. Where its end was read the bytes
-- are all too, and all was taken that was queued by the last Got, or at the start.
pub record Work (w : Wire) (cause : PumpEnd) (ending : List Turn)
    (left0 left1 link0 link1 : Option (List ℕ)) (old new : Place) : Type 0 where
  pub turns : List Turn
  pub grows : Grows old new (ending ++ turns)
  pub work : All (IsWork w) turns
  pub heard : List ℕ
  pub read : Consumes left0 left1 heard
  pub bytes : List ℕ
  pub wrote : Appends link0 link1 bytes
  pub gots : IsPrefix (gots_in (ending ++ turns)) (values_of heard)
  pub front : IsPrefix bytes (gave (setup_at old) turns)
  pub all_got : IsWhole cause → gots_in turns ≡ values_of heard
  pub fault_is : FaultIs cause heard
  pub all_wrote : cause ≡ ended.PeerEnd → bytes ≡ gave (setup_at old) turns
  pub got_taken : cause ≡ ended.PeerEnd
      → All (IsTaken (setup_at old) w (taken (setup_at old) w (past_of new))) turns
  pub start_taken : cause ≡ ended.PeerEnd
      → length (out (setup_at old) w []) ≤ taken (setup_at old) w (past_of new)

-- why a pump stops, before it ends the link
abbrev pub Stops : Wire → PumpEnd → Setup → List Turn → Place → Type 0
Stops w ended.PeerEnd s ending k = ending ≡ []
Stops w ended.LinkFault s ending k = ending ≡ []
Stops w (ended.BadStream fault) s ending k = ending ≡ []
Stops w (ended.Refused r) s ending k = EndsByValue s w r ending
Stops w e s ending k = (ending ≡ []) × IsStop w e k

pub record Runs (w : Wire) (cause : PumpEnd) (left0 left1 link0 link1 : Option (List ℕ))
    (old new : Place) : Type 0 where
  pub ending : List Turn
  pub works : Work w cause ending left0 left1 link0 link1 old new
  pub stops : Stops w cause (setup_at old) ending new

-- an End of that link, or none
abbrev pub IsEnd : Wire → List Turn → Type 0
IsEnd w ending = (ending ≡ []) ⊎ ((past : List LogEntry) × (ending ≡ (entry.End w, past) ∷ []))

-- the link has ended in the client's log
abbrev pub IsOver : Wire → Place → Type 0
IsOver w k = is_ended (setup_at k).mode w (past_of k) ≡ true

-- The last turn of a pump with this end. The link has ended by then, by this turn or by one of
-- another seat, unless no ticket was left.
abbrev pub Finishes : Wire → PumpEnd → Setup → List Turn → Place → Type 0
Finishes w ended.PeerEnd s ending k = IsEnd w ending × IsOver w k
Finishes w ended.LinkFault s ending k = IsEnd w ending × IsOver w k
Finishes w (ended.BadStream fault) s ending k = IsEnd w ending × IsOver w k
Finishes w (ended.Refused r) s ending k = EndsByValue s w r ending × IsOver w k
Finishes w ended.Done s ending k = (ending ≡ []) × IsOver w k
Finishes w ended.NoMemory s ending k = IsEnd w ending × IsOver w k
Finishes w ended.LogFull s ending k =
    IsEnd w ending × IsOver w k × (is_log_full (setup_at k) (past_of k) ≡ true)
Finishes w ended.Worn s ending k = (ending ≡ []) × (LAST_TICKET ≤ k.tickets)

pub record Pumps (w : Wire) (cause : PumpEnd) (left0 left1 link0 link1 : Option (List ℕ))
    (old new : Place) : Type 0 where
  pub ending : List Turn
  pub works : Work w cause ending left0 left1 link0 link1 old new
  pub finishes : Finishes w cause (setup_at old) ending new

-- the client knows of such an end, or no ticket is left to tell it
abbrev pub is_known : PumpEnd → Bool
is_known ended.PeerEnd = false
is_known ended.LinkFault = false
is_known (ended.BadStream fault) = false
is_known (ended.Refused r) = true
is_known ended.Done = true
is_known ended.NoMemory = false
is_known ended.LogFull = false
is_known ended.Worn = true

-- the end of a pump and its last turn: an End, where the log does not end the link
pub data Closes (w : Wire) (before after : PumpEnd) (old new : Place) : Type 0 where
  Kept : is_known before ≡ true → after ≡ before → new ≡ old → Closes w before after old new
  Ended : is_known before ≡ false → after ≡ before → (ending : List Turn) → IsEnd w ending
      → Grows old new ending → IsOver w new → Closes w before after old new
  NoTicket : is_known before ≡ false → after ≡ ended.Worn → Grows old new []
      → LAST_TICKET ≤ new.tickets → Closes w before after old new

-- the ends of a pump are numbered from 1
abbrev pub end_number : PumpEnd → ℕ
end_number ended.PeerEnd = 1
end_number ended.LinkFault = 2
end_number (ended.BadStream fault) = 3
end_number (ended.Refused r) = 4
end_number ended.Done = 5
end_number ended.NoMemory = 6
end_number ended.LogFull = 7
end_number ended.Worn = 8
