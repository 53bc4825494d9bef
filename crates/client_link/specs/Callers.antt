-- What a caller's query or command comes to.
use Rattle.std.specs.Prelude.{◌≡◌, ℕ, List, [], Bool, Some, None, true, false}
use Rattle.turn_lock.specs.Own.{Grows}
use Rattle.resp_value.specs.declared.value.Value.{Value}
use Rattle.shared_cache.specs.declared.log.LogEntry.{LogEntry}
use Rattle.shared_cache.specs.declared.log.LogEntry.TheVariants as entry
use Rattle.shared_cache.specs.declared.log.ClientCall.{ClientCall}
use Rattle.shared_cache.specs.declared.log.ClientCall.TheVariants as call
use Rattle.shared_cache.specs.declared.log.ClientReply.TheVariants as reply
use Rattle.shared_cache.specs.declared.log.ClientRefusal.{ClientRefusal}
use Rattle.shared_cache.specs.declared.log.ClientRefusal.TheVariants as refusal
use Rattle.shared_cache.specs.declared.entry.CacheEntry.{CacheEntry}
use Rattle.shared_cache.specs.Log.{reply as reply_of}
use Rattle.shared_cache.specs.Held.{held, held_for}
use Rattle.shared_cache.specs.Steps.{read_number, command_number}
use Rattle.shared_client.specs.Turns.{Place, setup_at, Adds, Refuses}
use Rattle.client_link.specs.declared.callers.Fetched.{Fetched}

abbrev pub is_not_ready : ClientRefusal → Bool
is_not_ready refusal.NotReady = true
is_not_ready r = false

-- a call that was not taken; a caller waits where the client is not ready
abbrev pub Fails : ClientCall → ClientRefusal → Place → Place → Type 0
Fails c refusal.NotReady old new = ⊥
Fails c refusal.NoMemory old new = Grows old new []
Fails c r old new = Refuses c r old new

-- the reply to the command of that number was handed out
pub record Answers (number : ℕ) (value : Value) (old new : Place) : Type 0 where
  pub polls : Adds (call.Poll number) (reply.Answer value) (entry.Poll number) old new
  pub reply_is : reply_of (setup_at old).mode polls.past number ≡ Some value

-- ---- a query

-- it was held, and was answered from the cache by one turn
pub record Hits (query : List (List ℕ)) (f : Fetched) (old new : Place) : Type 0 where
  pub asks : Adds (call.Ask query) (reply.Hit f.value f.number) (entry.Ask query) old new
  pub entry_held : CacheEntry
  pub is_held : held_for query (held (setup_at old) asks.past) ≡ Some entry_held
  pub value_is : f.value ≡ entry_held.value
  pub number_is : f.number ≡ entry_held.number

-- it was not held: its read was sent, and a second turn handed out the reply
pub record Reads (query : List (List ℕ)) (f : Fetched) (old new : Place) : Type 0 where
  pub sent : Place
  pub asks : Adds (call.Ask query) (reply.Sent f.number) (entry.Ask query) old sent
  pub not_held : held_for query (held (setup_at old) asks.past) ≡ None
  pub number_is : f.number ≡ read_number (setup_at old) asks.past query
  pub answers : Answers f.number f.value sent new

-- `from_cache` says whether the query was held when it was asked
abbrev pub Fetches : List (List ℕ) → Fetched → Place → Place → Type 0
Fetches query f old new =
    (f.from_cache ≡ true → Hits query f old new) × (f.from_cache ≡ false → Reads query f old new)

-- the command of that call was sent, and its reply was not handed out
pub record Unanswered (c : ClientCall) (e : LogEntry) (r : ClientRefusal) (old new : Place)
    : Type 0 where
  pub number : ℕ
  pub sent : Place
  pub sends : Adds c (reply.Sent number) e old sent
  pub refuses : Refuses (call.Poll number) r sent new

-- the query was not asked; or its reply was not handed out
pub data FetchFails (query : List (List ℕ)) (r : ClientRefusal) (old new : Place) : Type 0 where
  NotAsked : Fails (call.Ask query) r old new → FetchFails query r old new
  NoReply : Unanswered (call.Ask query) (entry.Ask query) r old new → FetchFails query r old new

-- ---- a command

pub record Sends (words : List (List ℕ)) (value : Value) (old new : Place) : Type 0 where
  pub number : ℕ
  pub sent : Place
  pub sends : Adds (call.Send words) (reply.Sent number) (entry.Send words) old sent
  pub number_is : number ≡ command_number (setup_at old) sends.past words
  pub answers : Answers number value sent new

pub data SendFails (words : List (List ℕ)) (r : ClientRefusal) (old new : Place) : Type 0 where
  NotSent : Fails (call.Send words) r old new → SendFails words r old new
  Unreplied : Unanswered (call.Send words) (entry.Send words) r old new → SendFails words r old new
