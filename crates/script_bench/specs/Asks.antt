-- What threads ask a client, and how many of their queries its cache answers.
use Rattle.std.specs.Prelude.{◌≡◌, ◌≤◌, ◌<◌, ◌+◌, ◌*◌, ◌%◌, ◌/◌, ◌^◌, ◌-◌, ℕ, zero, suc, List, []}
use Rattle.std.specs.Prelude.{◌∷◌, ◌++◌, codes, length, min}
use Rattle.std.specs.List.{All}
use Rattle.turn_lock.specs.Counts.{total}
use Rattle.turn_lock.specs.Own.{Grows}
use Rattle.shared_cache.specs.declared.log.ClientCall.TheVariants as call
use Rattle.shared_cache.specs.declared.log.ClientReply.{ClientReply}
use Rattle.shared_cache.specs.declared.log.ClientReply.TheVariants as reply
use Rattle.shared_cache.specs.declared.log.LogEntry.{LogEntry}
use Rattle.shared_cache.specs.declared.log.LogEntry.TheVariants as entry
use Rattle.shared_cache.specs.Held.{Setup}
use Rattle.shared_cache.specs.Steps.{client_step}
use Rattle.shared_client.specs.Turns.{Place, Turn, setup_at}

-- so many decimal digits of a number, the last one first
abbrev pub digits : ℕ → ℕ → List ℕ
digits zero number = []
digits (suc more) number = (48 + number % 10) ∷ digits more (number / 10)

unfoldable pub key_of : ℕ → List ℕ
key_of number = codes "key:" ++ digits 12 number

-- the query of the key of that number
abbrev pub query_for : ℕ → List (List ℕ)
query_for number = codes "GET" ∷ key_of number ∷ []

abbrev pub spread_of : ℕ → ℕ → ℕ
spread_of place keys = place * 2654435761 % 2 ^ 64 % keys

-- the query of a key below that number
abbrev pub IsKeyQuery : ℕ → List (List ℕ) → Type 0
IsKeyQuery keys query = (number : ℕ) × (number < keys) × (query ≡ query_for number)

-- the entry of such a query
abbrev pub IsAsk : (List (List ℕ) → Type 0) → LogEntry → Type 0
IsAsk IsOne (entry.Ask query) = IsOne query
IsAsk IsOne e = ⊥

abbrev pub hit_reply : ClientReply → ℕ
hit_reply (reply.Hit value number) = 1
hit_reply r = 0

-- 1 for a query that the cache answers on this log, and 0 for anything else
abbrev pub hit_on : Setup → List LogEntry → LogEntry → ℕ
hit_on s past (entry.Ask query) = hit_reply (client_step s past (call.Ask query)).reply
hit_on s past e = 0

abbrev pub hits_in : Setup → List Turn → ℕ
hits_in s turns = total (λ t. hit_on s t.1 t.0) turns

-- The seat asked such queries and nothing else, so often at most, and so many of them were hits. A
-- number stays at the last value of its type.
pub record Asks (IsOne : List (List ℕ) → Type 0) (times hits : ℕ) (before after : Place) : Type 0
  where
    pub turns : List Turn
    pub grows : Grows before after turns
    pub most : length turns ≤ times
    pub asks : All (λ t. IsAsk IsOne t.0) turns
    pub hits_are : hits ≡ min (hits_in (setup_at before) turns) (2 ^ 64 - 1)
