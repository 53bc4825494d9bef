-- The bytes for a client's links, and the replies for its callers, as read off the log.
use Rattle.std.specs.Prelude.{◌==◌, ◌+◌, ◌-◌, ◌&&◌, ◌||◌, ℕ, List, [], ◌∷◌, length, drop, min}
use Rattle.std.specs.Prelude.{Bool, true, false, not, if◌then◌else◌, nat_lt, Option, Some, None}
use Rattle.std.specs.List.{flat_map, slice_get}
use Rattle.resp_value.specs.Spelling.{request_spelling}
use Rattle.shared_cache.specs.declared.log.Wire.{Wire}
use Rattle.shared_cache.specs.declared.log.LogEntry.{LogEntry}
use Rattle.shared_cache.specs.declared.log.LogEntry.TheVariants.{Ask, Send, Poll, TakeOut, Got}
use Rattle.shared_cache.specs.declared.log.LogEntry.TheVariants.{End, Bad}
use Rattle.shared_cache.specs.Log.{handshake_length, first_number, is_wire}
use Rattle.shared_cache.specs.Held.{Setup, Origin, Caller, Library, SentCommand, sent, commands}

-- the bytes for a link: its commands in turn
unfoldable pub out : Setup → Wire → List LogEntry → List ℕ
out s w log = flat_map request_spelling (commands s w log)

-- how many of them were taken
abbrev pub taken : Setup → Wire → List LogEntry → ℕ
taken s w [] = 0
taken s w (Ask q ∷ log) = taken s w log
taken s w (Send ws ∷ log) = taken s w log
taken s w (Poll n ∷ log) = taken s w log
taken s w (TakeOut u n ∷ log) =
    if is_wire u w then taken s w log + min n (length (out s w log) - taken s w log)
    else taken s w log
taken s w (Got u v ∷ log) = taken s w log
taken s w (End u ∷ log) = taken s w log
taken s w (Bad u v ∷ log) = taken s w log

-- those that were not
unfoldable pub untaken : Setup → Wire → List LogEntry → List ℕ
untaken s w log = drop (taken s w log) (out s w log)

-- the reply of that number was handed out
abbrev pub is_polled : List LogEntry → ℕ → Bool
is_polled [] n = false
is_polled (Ask q ∷ log) n = is_polled log n
is_polled (Send ws ∷ log) n = is_polled log n
is_polled (Poll m ∷ log) n = m == n || is_polled log n
is_polled (TakeOut w m ∷ log) n = is_polled log n
is_polled (Got w v ∷ log) n = is_polled log n
is_polled (End w ∷ log) n = is_polled log n
is_polled (Bad w v ∷ log) n = is_polled log n

abbrev pub is_caller : Origin → Bool
is_caller Caller = true
is_caller Library = false

abbrev pub is_callers : Option SentCommand → Bool
is_callers None = false
is_callers (Some c) = is_caller c.origin

-- a caller was given the number
abbrev pub was_given : Setup → List LogEntry → ℕ → Bool
was_given s log n =
    nat_lt (handshake_length s.mode) n
    && is_callers (slice_get (sent s log) (n - first_number s.mode))

-- and has not been handed its reply
abbrev pub is_wanted : Setup → List LogEntry → ℕ → Bool
is_wanted s log n = was_given s log n && not (is_polled log n)
