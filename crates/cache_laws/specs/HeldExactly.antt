-- What a client holds, told by its log from the outside: which fetch is open, which is held, and
-- when it goes.
use Rattle.std.specs.Prelude.{◌≡◌, ◌<◌, ◌++◌, ◌&&◌, ◌⊎◌, ℕ, List, [], ◌∷◌, Bool, true, false, Some}
use Rattle.std.specs.Prelude.{None, is_none, Contains}
use Rattle.std.specs.List.{filter}
use Rattle.resp_value.specs.declared.value.Value.{Value}
use Rattle.command_words.specs.Queries.{key_of, same_query}
use Rattle.shared_cache.specs.declared.log.Wire.TheVariants.{Main}
use Rattle.shared_cache.specs.declared.log.ClientCall.TheVariants as call
use Rattle.shared_cache.specs.declared.log.ClientReply.TheVariants.{Hit}
use Rattle.shared_cache.specs.declared.log.LogEntry.{LogEntry}
use Rattle.shared_cache.specs.declared.log.LogEntry.TheVariants.{Ask, Send, Poll, TakeOut, Got, End}
use Rattle.shared_cache.specs.declared.log.LogEntry.TheVariants.{Bad}
use Rattle.shared_cache.specs.declared.entry.CacheEntry.{CacheEntry}
use Rattle.shared_cache.specs.Log.{reply}
use Rattle.shared_cache.specs.Held.{Setup, Key, Words, has_key, keys_held, held_for, ends}
use Rattle.shared_cache.specs.Held.{open_fetch, held}
use Rattle.shared_cache.specs.Steps.{is_log_full, client_step}
use Rattle.shared_cache.specs.Laws.{LegalLog, WasSent, IsEarliest}

-- ---- a fetch

-- an entry sends the query's fetch anew: an Ask of it that is no hit, after the log before it
abbrev pub sends_anew : Setup → List LogEntry → LogEntry → Words → Bool
sends_anew s log (Ask p) q = same_query q p && is_none (held_for p (held s log))
sends_anew s log (Send ws) q = false
sends_anew s log (Poll n) q = false
sends_anew s log (TakeOut w n) q = false
sends_anew s log (Got w v) q = false
sends_anew s log (End w) q = false
sends_anew s log (Bad w v) q = false

-- none of the later entries does
abbrev pub NotAnew : Setup → List LogEntry → Words → List LogEntry → Type 0
NotAnew s sooner q [] = Unit {0}
NotAnew s sooner q (e ∷ later) =
    (sends_anew s (later ++ sooner) e q ≡ false) × NotAnew s sooner q later

-- the fetch of that number was sent for the query with caching on, and since then nothing ends it
-- and no other was sent for the query
pub record IsUnderWay (s : Setup) (log : List LogEntry) (n : ℕ) (q : Words) : Type 0 where
  pub sent : WasSent s log n q
  pub last : NotAnew s (Ask q ∷ sent.sooner) q sent.later

-- ---- a key that leaves

-- an entry is the reply to a fetch of another key, none of which is held; exactly as many keys are
-- held as the capacity, and none of them was last used before this one
pub record Displaces (s : Setup) (log : List LogEntry) (e : LogEntry) (k : Key) : Type 0 where
  pub value : Value
  pub got : e ≡ Got Main value
  pub number : ℕ
  pub answered : reply s.mode (e ∷ log) number ≡ Some value
  pub first : reply s.mode log number ≡ None
  pub query : Words
  pub fetch : IsUnderWay s log number query
  pub other : has_key (key_of query) (held s log) ≡ false
  pub full : keys_held (held s log) ≡ s.capacity
  pub earliest : IsEarliest s log k

-- from the fetch's reply on, none of the later entries does
abbrev pub NotDisplaced : Setup → List LogEntry → ℕ → Key → List LogEntry → Type 0
NotDisplaced s sooner n k [] = Unit {0}
NotDisplaced s sooner n k (e ∷ later) =
    ((v : Value) → reply s.mode (later ++ sooner) n ≡ Some v
    → Displaces s (later ++ sooner) e k → ⊥)
    × NotDisplaced s sooner n k later

-- ---- what is held

-- a fetch is under way, its reply has come, and its key was not displaced since
pub record StillHolds (s : Setup) (log : List LogEntry) (h : CacheEntry) : Type 0 where
  pub fetch : IsUnderWay s log h.number h.query
  pub reply_is : reply s.mode log h.number ≡ Some h.value
  pub kept : NotDisplaced s (Ask h.query ∷ fetch.sent.sooner) h.number (key_of h.query)
      fetch.sent.later

-- what is held of its query is this, once
abbrev pub IsHeld : Setup → List LogEntry → CacheEntry → Type 0
IsHeld s log h = filter (λ g. same_query g.query h.query) (held s log) ≡ h ∷ []

-- after one entry more it is held, or the entry ends it, or displaces its key
abbrev pub StaysUnless : Setup → List LogEntry → LogEntry → CacheEntry → Type 0
StaysUnless s log e h =
    Contains (held s (e ∷ log)) h
    ⊎ ((ends s log h.number e (key_of h.query) ≡ true) ⊎ Displaces s log e (key_of h.query))

-- an Ask of its query is answered with it, and leaves what is held as it was
abbrev pub IsHit : Setup → List LogEntry → CacheEntry → Type 0
IsHit s log h =
    (client_step s log (call.Ask h.query)
    ≡ record { reply = Hit h.value h.number; past = Ask h.query ∷ log })
    × (held s (Ask h.query ∷ log) ≡ held s log)

pub record HeldExactly (s : Setup) (log : List LogEntry) : Type 0 where
  -- a fetch is open exactly while it is under way
  pub is_open : (n : ℕ) (q : Words) → IsUnderWay s log n q → open_fetch s log n ≡ Some q
  pub under_way : (n : ℕ) (q : Words) → open_fetch s log n ≡ Some q → IsUnderWay s log n q
  -- what still holds is held, once, and nothing else is
  pub is_held : (h : CacheEntry) → StillHolds s log h → IsHeld s log h
  pub holds : (h : CacheEntry) → Contains (held s log) h → StillHolds s log h
  pub stays : (e : LogEntry) → LegalLog s (e ∷ log) → (h : CacheEntry) → Contains (held s log) h
      → StaysUnless s log e h
  -- an Ask of its query is a hit while the log has room, and no other is
  pub hit : (h : CacheEntry) → Contains (held s log) h → is_log_full s log ≡ false → IsHit s log h
  pub hit_of : (q : Words) (v : Value) (n : ℕ) → (client_step s log (call.Ask q)).reply ≡ Hit v n
      → Contains (held s log) (record { query = q; value = v; number = n })

-- the cache of a legal log holds exactly what its log says
abbrev pub HoldsExactly : Type 0
HoldsExactly =
    (s : Setup) (log : List LogEntry) → 0 < s.capacity → LegalLog s log → HeldExactly s log
