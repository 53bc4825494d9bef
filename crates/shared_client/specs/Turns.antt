-- The client's turns, as a seat of the lock takes them.
use Rattle.std.specs.Prelude.{◌≡◌, ◌≤◌, ◌⊎◌, ⊤, ℕ, List, [], ◌∷◌, Option, Some, None, false}
use Rattle.std.specs.Prelude.{IfSome}
use Rattle.turn_lock.specs.History.{IsPrefix}
use Rattle.turn_lock.specs.Seats.{Known}
use Rattle.turn_lock.specs.declared.rule.TheConstants.{LAST_TICKET}
use Rattle.turn_lock.specs.Own.{past_of, Grows}
use Rattle.resp_value.specs.declared.octets.Octets.{Octets}
use Rattle.resp_value.specs.declared.value.Value.{Value}
use Rattle.resp_value.specs.declared.value.Proto.TheVariants.{Three}
use Rattle.shared_cache.specs.declared.log.Wire.{Wire}
use Rattle.shared_cache.specs.declared.log.Shape.TheVariants.{Single}
use Rattle.shared_cache.specs.declared.log.Caching.TheVariants.{Default}
use Rattle.shared_cache.specs.declared.log.LogEntry.{LogEntry}
use Rattle.shared_cache.specs.declared.log.LogEntry.TheVariants as entry
use Rattle.shared_cache.specs.declared.log.ClientCall.{ClientCall}
use Rattle.shared_cache.specs.declared.log.ClientCall.TheVariants as call
use Rattle.shared_cache.specs.declared.log.ClientReply.{ClientReply}
use Rattle.shared_cache.specs.declared.log.ClientReply.TheVariants as reply
use Rattle.shared_cache.specs.declared.log.ClientRefusal.{ClientRefusal}
use Rattle.shared_cache.specs.declared.log.ClientRefusal.TheVariants as refusal
use Rattle.shared_cache.specs.Log.{HasWire}
use Rattle.shared_cache.specs.Held.{Setup}
use Rattle.shared_cache.specs.Steps.{client_step, MayRunOut}
use Rattle.shared_client.specs.Setups.{setup_of}
use Rattle.shared_client.specs.declared.logged.ClientSetup.{ClientSetup}
use Rattle.shared_client.specs.declared.turns.Asked.{Asked}
use Rattle.shared_client.specs.declared.turns.Asked.TheVariants as asked

-- an entry with the entries before it
abbrev pub Turn : Type 0
Turn = LogEntry × List LogEntry

-- what a client's seat knows
abbrev pub Place : Type 0
Place = Known ClientSetup LogEntry

abbrev pub setup_in : Option ClientSetup → Setup
setup_in None = record {
  mode = record { shape = Single; proto = Three; caching = Default; noloop = false };
  capacity = 1;
  log_max = 1;
}
setup_in (Some c) = setup_of c

-- the setup of the seat's client
abbrev pub setup_at : Place → Setup
setup_at k = setup_in k.setup

-- the seat's client has that link
abbrev pub IsLinked : Wire → Place → Type 0
IsLinked w k = IfSome k.setup (λ u. HasWire u.mode.shape w)

-- a call that was answered so, on the log that it found, and that added this entry
pub record Adds (call : ClientCall) (reply : ClientReply) (entry : LogEntry) (before after : Place)
    : Type 0 where
  pub past : List LogEntry
  pub begins : IsPrefix (past_of before) past
  pub step : client_step (setup_at before) past call
      ≡ record { reply = reply; past = entry ∷ past }
  pub grows : Grows before after ((entry, past) ∷ [])
  pub ends : past_of after ≡ entry ∷ past

-- a call that was answered so, and that added none
pub record Stays (call : ClientCall) (reply : ClientReply) (before after : Place) : Type 0 where
  pub step : client_step (setup_at before) (past_of after) call
      ≡ record { reply = reply; past = past_of after }
  pub grows : Grows before after []

-- there was no memory for the entry
pub record RunsOut (call : ClientCall) (before after : Place) : Type 0 where
  pub needs : MayRunOut (setup_at before) (past_of after) call
  pub grows : Grows before after []

-- no ticket was left for the call
pub record WornOut (before after : Place) : Type 0 where
  pub tickets : LAST_TICKET ≤ after.tickets
  pub grows : Grows before after []

-- the refusals that a call may meet; no call meets another
abbrev pub Allows : ClientCall → ClientRefusal → Type 0
Allows (call.Ask q) (refusal.Down w) = ⊤
Allows (call.Ask q) refusal.NotReady = ⊤
Allows (call.Ask q) (refusal.LogFull n) = ⊤
Allows (call.Ask q) refusal.NoMemory = ⊤
Allows (call.Ask q) refusal.Worn = ⊤
Allows (call.Ask q) r = ⊥
Allows (call.Send ws) (refusal.Down w) = ⊤
Allows (call.Send ws) refusal.NotReady = ⊤
Allows (call.Send ws) refusal.Control = ⊤
Allows (call.Send ws) (refusal.LogFull n) = ⊤
Allows (call.Send ws) refusal.NoMemory = ⊤
Allows (call.Send ws) refusal.Worn = ⊤
Allows (call.Send ws) r = ⊥
Allows (call.Poll n) (refusal.NoNumber m) = ⊤
Allows (call.Poll n) (refusal.Down w) = ⊤
Allows (call.Poll n) refusal.Worn = ⊤
Allows (call.Poll n) r = ⊥
Allows (call.TakeOut w n) (refusal.Down u) = ⊤
Allows (call.TakeOut w n) (refusal.LogFull m) = ⊤
Allows (call.TakeOut w n) refusal.NoMemory = ⊤
Allows (call.TakeOut w n) refusal.Worn = ⊤
Allows (call.TakeOut w n) r = ⊥
Allows (call.Got w v) (refusal.Down u) = ⊤
Allows (call.Got w v) (refusal.Unexpected u) = ⊤
Allows (call.Got w v) (refusal.BadPush u) = ⊤
Allows (call.Got w v) (refusal.SetupRefused u) = ⊤
Allows (call.Got w v) (refusal.LogFull n) = ⊤
Allows (call.Got w v) refusal.NoMemory = ⊤
Allows (call.Got w v) refusal.Worn = ⊤
Allows (call.Got w v) r = ⊥
Allows (call.End w) refusal.Worn = ⊤
Allows (call.End w) r = ⊥

abbrev pub LeftBy : ClientCall → ClientRefusal → Place → Place → Type 0
LeftBy c refusal.NoMemory before after = RunsOut c before after
LeftBy c refusal.Worn before after = WornOut before after
LeftBy c r before after = Stays c (reply.Refused r) before after

-- a call that was refused, and that added none
abbrev pub Refuses : ClientCall → ClientRefusal → Place → Place → Type 0
Refuses c r before after = Allows c r × LeftBy c r before after

-- ---- a query

abbrev pub asked_reply : Asked → ClientReply
asked_reply (asked.Hit v n) = reply.Hit v n
asked_reply (asked.Sent n) = reply.Sent n

-- ---- a reply for its caller

abbrev pub Polls : ℕ → Option Value → Place → Place → Type 0
Polls n (Some v) before after = Adds (call.Poll n) (reply.Answer v) (entry.Poll n) before after
Polls n None before after = Stays (call.Poll n) reply.NotYet before after

-- ---- bytes for a link

-- the most bytes that are taken out at once
abbrev pub most : ℕ
most = 65536

abbrev pub TakesOut : Wire → Option Octets → Place → Place → Type 0
TakesOut w (Some bytes) before after =
    Adds (call.TakeOut w most) (reply.Bytes bytes) (entry.TakeOut w most) before after
TakesOut w None before after = Stays (call.TakeOut w most) reply.Quiet before after

-- ---- a value from a link

abbrev pub Gets : Wire → Value → Place → Place → Type 0
Gets w v before after = Adds (call.Got w v) reply.Noted (entry.Got w v) before after

-- the value ended the link
abbrev pub EndsBy : Wire → Value → ClientRefusal → Place → Place → Type 0
EndsBy w v r before after = Adds (call.Got w v) (reply.Refused r) (entry.Bad w v) before after

-- a value that was not taken; one that ends the link stands as such in the log
abbrev pub GetsNot : Wire → Value → ClientRefusal → Place → Place → Type 0
GetsNot w v (refusal.Unexpected u) before after = EndsBy w v (refusal.Unexpected u) before after
GetsNot w v (refusal.BadPush u) before after = EndsBy w v (refusal.BadPush u) before after
GetsNot w v (refusal.SetupRefused u) before after =
    EndsBy w v (refusal.SetupRefused u) before after
GetsNot w v r before after = Refuses (call.Got w v) r before after

-- ---- the end of a link

-- an End, which may find that the link has ended
abbrev pub Ends : Wire → Place → Place → Type 0
Ends w before after =
    Adds (call.End w) reply.Noted (entry.End w) before after
    ⊎ Stays (call.End w) reply.Noted before after
