-- A client that was greeted, and of which each key was asked for and answered once.
use Rattle.std.specs.Prelude.{◌≡◌, ℕ, zero, suc, List, [], ◌∷◌, ◌++◌, codes, map, Some, false}
use Rattle.atomic_table.specs.Seated.{TableId}
use Rattle.turn_lock.specs.declared.rule.TheConstants.{ALL_PARTS}
use Rattle.turn_lock.specs.Own.{turns_of, IsWithin, Grows}
use Rattle.resp_value.specs.declared.value.Value.{Value}
use Rattle.resp_value.specs.declared.value.Value.TheVariants.{Simple, Blob, Map}
use Rattle.resp_value.specs.declared.value.Proto.TheVariants.{Three}
use Rattle.shared_cache.specs.declared.log.Wire.TheVariants.{Main}
use Rattle.shared_cache.specs.declared.log.Shape.TheVariants.{Single}
use Rattle.shared_cache.specs.declared.log.Caching.TheVariants.{Default}
use Rattle.shared_cache.specs.declared.log.LogEntry.{LogEntry}
use Rattle.shared_cache.specs.declared.log.LogEntry.TheVariants as entry
use Rattle.shared_client.specs.declared.logged.ClientSetup.{ClientSetup}
use Rattle.shared_client.specs.Turns.{Place, Turn, most}
use Rattle.script_bench.specs.Asks.{query_for}

-- what each key has
abbrev pub content_is : Value
content_is = Blob (codes "0123456789abcdef0123456789abcdef0123456789abcdef0123456789abcdef")

-- a client of one link on RESP3 in default mode, that holds so many keys
abbrev pub client_for : ℕ → ClientSetup
client_for keys = record {
  mode = record { shape = Single; proto = Three; caching = Default; noloop = false };
  capacity = keys;
  log_max = 4000000000;
}

abbrev pub entries_in : List Turn → List LogEntry
entries_in turns = map (λ t. t.0) turns

-- the seat's turns added these entries, the newest first
pub record GrowsBy (entries : List LogEntry) (before after : Place) : Type 0 where
  pub turns : List Turn
  pub grows : Grows before after turns
  pub entries_are : entries_in turns ≡ entries

-- the handshake went out, and was answered
abbrev pub greeting : List LogEntry
greeting =
    entry.Got Main (Simple (codes "OK")) ∷ entry.Got Main (Map []) ∷ entry.TakeOut Main most ∷ []

-- what was queued went out, and its reply came and was handed out
abbrev pub answered : ℕ → Value → List LogEntry
answered number value =
    entry.Poll number ∷ entry.Got Main value ∷ entry.TakeOut Main most ∷ []

-- a query that was sent by that number, and answered
abbrev pub fetched : ℕ → ℕ → List LogEntry
fetched key number = answered number content_is ++ entry.Ask (query_for key) ∷ []

-- each key below that number was fetched once, in order, behind the greeting
abbrev pub IsFilled : ℕ → List LogEntry → Type 0
IsFilled zero log = log ≡ greeting
IsFilled (suc key) log =
    (number : ℕ) × (rest : List LogEntry) × (log ≡ fetched key number ++ rest) × IsFilled key rest

-- a seat of a client for so many keys, with all parts of its lock, that fetched the first of them
pub record IsReady (lock : TableId) (keys filled : ℕ) (seat : Place) : Type 0 where
  pub lock_is : seat.lock ≡ lock
  pub within : IsWithin seat
  pub setup_is : seat.setup ≡ Some (client_for keys)
  pub parts_are : seat.parts ≡ ALL_PARTS
  pub fetches : IsFilled filled (entries_in (turns_of seat))
