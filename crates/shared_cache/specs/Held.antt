-- Which fetches may fill the cache, and what the cache holds, as read off the log.
use Rattle.std.specs.Prelude.{◌==◌, ◌+◌, ◌-◌, ◌&&◌, ◌||◌, ◌++◌, ℕ, List, [], ◌∷◌, length, map}
use Rattle.std.specs.Prelude.{Bool}
use Rattle.std.specs.Prelude.{true}
use Rattle.std.specs.Prelude.{false, Option, Some, None, if◌then◌else◌, nat_lt, nat_le, codes}
use Rattle.std.specs.Prelude.{Ok, Err, Result}
use Rattle.std.specs.List.{list_any, flat_map, slice_get}
use Rattle.std.specs.Str.{bytes_eq}
use Rattle.std.specs.declared.cmp.Ordering.{Ordering}
use Rattle.std.specs.Ordering.{nat_cmp, is_lt, ordering_then}
use Rattle.std.specs.Cmp.Lexicographic.{slice_cmp}
use Rattle.resp_value.specs.declared.value.Value.{Value}
use Rattle.command_words.specs.Printed.{printed}
use Rattle.command_words.specs.declared.command.Command.{Command}
use Rattle.command_words.specs.declared.command.WordFault.{WordFault}
use Rattle.command_words.specs.Queries.{key_of, same_query, writes, names_key, read}
use Rattle.command_words.specs.Words.{reading}
use Rattle.shared_cache.specs.declared.log.Wire.{Wire}
use Rattle.shared_cache.specs.declared.log.Wire.TheVariants.{Main, Side}
use Rattle.shared_cache.specs.declared.log.Shape.{Shape}
use Rattle.shared_cache.specs.declared.log.Shape.TheVariants.{Single, Pair}
use Rattle.shared_cache.specs.declared.log.Caching.{Caching}
use Rattle.shared_cache.specs.declared.log.Caching.TheVariants.{Default, OptIn, OptOut, Bcast}
use Rattle.shared_cache.specs.declared.log.ClientMode.{ClientMode}
use Rattle.shared_cache.specs.declared.lead.CachingWord.{CachingWord}
use Rattle.shared_cache.specs.declared.lead.CachingWord.TheVariants.{Yes, No}
use Rattle.shared_cache.specs.declared.log.LogEntry.{LogEntry}
use Rattle.shared_cache.specs.declared.log.LogEntry.TheVariants.{Ask, Send, Poll, TakeOut, Got}
use Rattle.shared_cache.specs.declared.log.LogEntry.TheVariants.{End, Bad}
use Rattle.shared_cache.specs.declared.entry.CacheEntry.{CacheEntry}
use Rattle.shared_cache.specs.declared.notices.Notice.{Notice}
use Rattle.shared_cache.specs.declared.notices.Notice.TheVariants.{Reply}
use Rattle.shared_cache.specs.Notices.{notice_of, invalidates}
use Rattle.shared_cache.specs.Log.{handshake, handshake_length, first_number, replies, caching_on}
use Rattle.shared_cache.specs.Log.{caching_on_for}

abbrev pub Key : Type 0
Key = List ℕ

abbrev pub Words : Type 0
Words = List (List ℕ)

-- what a client was made with
pub record Setup : Type 0 where
  pub mode : ClientMode
  pub capacity : ℕ
  pub log_max : ℕ

-- ---- the commands that calls put on a wire

-- who asked for a command: a caller, who gets its number, or the client itself
pub data Origin : Type 0 where
  Caller : Origin
  Library : Origin

pub record SentCommand : Type 0 where
  pub words : Words
  pub origin : Origin

-- CLIENT CACHING, which says of the command behind it alone whether its keys are remembered
abbrev pub word_of : CachingWord → List ℕ
word_of Yes = codes "YES"
word_of No = codes "NO"

abbrev pub caching_command : CachingWord → SentCommand
caching_command w =
    record { words = codes "CLIENT" ∷ codes "CACHING" ∷ word_of w ∷ []; origin = Library }

-- a caller's command, behind CLIENT CACHING or not; the last has the number that is answered
abbrev pub led_by : Option CachingWord → Words → List SentCommand
led_by None ws = record { words = ws; origin = Caller } ∷ []
led_by (Some w) ws = caching_command w ∷ record { words = ws; origin = Caller } ∷ []

-- by opting in, a read whose fetch has caching on
abbrev pub read_lead : Caching → Bool → Option CachingWord
read_lead OptIn true = Some Yes
read_lead OptIn false = None
read_lead Default on = None
read_lead OptOut on = None
read_lead (Bcast ps) on = None

-- by opting out, a read of a Send while caching is on
abbrev pub send_lead : Caching → Bool → Bool → Option CachingWord
send_lead OptOut true true = Some No
send_lead OptOut true false = None
send_lead OptOut false reads = None
send_lead Default on reads = None
send_lead OptIn on reads = None
send_lead (Bcast ps) on reads = None

abbrev pub is_some_key : Words → Bool
is_some_key [] = false
is_some_key (k ∷ ks) = true

abbrev pub reads_some : Result Command WordFault → Bool
reads_some (Ok command) = is_some_key (read command)
reads_some (Err fault) = false

-- the words are a read, whose keys are remembered unless the server is told not to
unfoldable pub is_read : Words → Bool
is_read ws = reads_some (reading ws)

-- what a Send puts on Main while caching is on or off
abbrev pub put_command : ClientMode → Bool → Words → List SentCommand
put_command m on ws = led_by (send_lead m.caching on (is_read ws)) ws

-- what an Ask puts on Main where its fetch has caching on or off
abbrev pub put_read : ClientMode → Bool → Words → List SentCommand
put_read m on q = led_by (read_lead m.caching on) q

-- a hit puts nothing
abbrev pub put_ask : Option CacheEntry → ClientMode → Bool → Words → List SentCommand
put_ask (Some h) m on q = []
put_ask None m on q = put_read m on q

-- how many commands have a number, where these were sent after the handshake
abbrev pub numbered : Setup → List SentCommand → ℕ
numbered s sent = handshake_length s.mode + length sent

-- words as they are printed
abbrev pub shown_words : Words → List ℕ
shown_words [] = []
shown_words (w ∷ ws) = printed w ++ flat_map (λ x. 32 ∷ printed x) ws

-- ---- what is held, each a query with its value and the number of its fetch

-- what is held of the query
abbrev pub held_for : Words → List CacheEntry → Option CacheEntry
held_for q [] = None
held_for q (h ∷ hs) = if same_query h.query q then Some h else held_for q hs

abbrev pub has_key : Key → List CacheEntry → Bool
has_key k = list_any (λ h. bytes_eq (key_of h.query) k)

-- how many keys are held
abbrev pub keys_held : List CacheEntry → ℕ
keys_held [] = 0
keys_held (h ∷ hs) = if has_key (key_of h.query) hs then keys_held hs else keys_held hs + 1

abbrev pub earlier : (Key → ℕ) → CacheEntry → CacheEntry → CacheEntry
earlier use_of h best =
    if nat_lt (use_of (key_of h.query)) (use_of (key_of best.query)) then h else best

-- the first of those whose key has the least last use
abbrev pub earliest_from : (Key → ℕ) → CacheEntry → List CacheEntry → CacheEntry
earliest_from use_of best [] = best
earliest_from use_of best (h ∷ hs) = earliest_from use_of (earlier use_of h best) hs

abbrev pub earliest : (Key → ℕ) → List CacheEntry → Option CacheEntry
earliest use_of [] = None
earliest use_of (h ∷ hs) = Some (earliest_from use_of h hs)

abbrev pub key_held : Option CacheEntry → Option Key
key_held None = None
key_held (Some h) = Some (key_of h.query)

-- the key that leaves where the query is filled: none while its own key or fewer keys than the
-- capacity are held
abbrev pub leaving : ℕ → (Key → ℕ) → Option Words → List CacheEntry → Option Key
leaving capacity use_of None hs = None
leaving capacity use_of (Some q) hs =
    if has_key (key_of q) hs then None else
    if nat_lt (keys_held hs) capacity then None else key_held (earliest use_of hs)

abbrev pub is_key : Option Key → Option Words → Bool
is_key None o = false
is_key (Some k) None = false
is_key (Some k) (Some q) = bytes_eq (key_of q) k

-- ---- one fetch

-- the command of that number, of those that were sent after the handshake
abbrev pub command_in : Setup → List SentCommand → ℕ → Option SentCommand
command_in s cs n =
    if nat_lt (handshake_length s.mode) n then slice_get cs (n - first_number s.mode) else None

abbrev pub is_named : Option SentCommand → Key → Bool
is_named None k = false
is_named (Some c) k = names_key c.words k

-- on two links a reply may overtake an invalidation that was sent before it
abbrev pub may_overtake : Notice → Wire → Shape → Bool
may_overtake Reply Main Pair = true
may_overtake Reply Main Single = false
may_overtake Reply Side shape = false
may_overtake n w shape = false

-- so one to a later command that names the key, which may have seen what is invalidated, ends what
-- a fetch of that number may fill; here so many commands had replies before
abbrev pub outdates : Setup → List SentCommand → ℕ → Wire → Value → ℕ → Key → Bool
outdates s cs replied w v n k =
    may_overtake (notice_of s.mode w v) w s.mode.shape
    && (nat_lt n (replied + 1) && is_named (command_in s cs (replied + 1)) k)

abbrev pub got_ends : Setup → List SentCommand → ℕ → Wire → Value → ℕ → Key → Bool
got_ends s cs replied w v n k = outdates s cs replied w v n k || invalidates s.mode w v k

abbrev pub unless : (Key → Bool) → Option Words → Option Words
unless test None = None
unless test (Some q) = if test (key_of q) then None else Some q

abbrev pub other_than : Words → Option Words → Option Words
other_than q None = None
other_than q (Some p) = if same_query p q then None else Some p

abbrev pub fetched : Bool → Words → Option Words
fetched true q = Some q
fetched false q = None

-- after an Ask that was no hit, the fetch of its read's number is open where caching is on; a later
-- fetch of a query ends the older
abbrev pub asked :
    Option CacheEntry → ClientMode → Bool → ℕ → Words → ℕ → Option Words → Option Words
asked (Some h) m on before q n old = old
asked None m on before q n old =
    if n == before + length (put_read m on q) then fetched on q else other_than q old

abbrev pub hit_of : Option CacheEntry → Words → Option Words
hit_of (Some h) q = Some q
hit_of None q = None

-- the fetch that a reply fills
abbrev pub filled_by : Wire → Notice → Option Words → Option Words
filled_by Main Reply o = o
filled_by Main _ o = None
filled_by Side n o = None

-- the last use of the key after an entry of that number used the query's key, or none
abbrev pub used_at : Option Words → Key → ℕ → ℕ → ℕ
used_at None k now before = before
used_at (Some q) k now before = if bytes_eq k (key_of q) then now else before

abbrev pub hold : Option Words → Bool → Value → ℕ → List CacheEntry
hold None gone v n = []
hold (Some q) gone v n = if gone then [] else record { query = q; value = v; number = n } ∷ []

-- the fetches that are open, have their reply, and whose key has not left since
abbrev pub held_by : (ℕ → Option Words) → (ℕ → Bool) → List Value → List CacheEntry
held_by open_of left_of [] = []
held_by open_of left_of (v ∷ vs) =
    held_by open_of left_of vs
    ++ hold (open_of (length vs + 1)) (left_of (length vs + 1)) v (length vs + 1)

abbrev mutual
  -- the commands on Main after the handshake, in order of time
  pub sent : Setup → List LogEntry → List SentCommand
  sent s [] = []
  sent s (Ask q ∷ log) =
      sent s log
      ++ put_ask (held_for q (held_by (open_fetch s log) (left s log) (replies s.mode Main log)))
      s.mode (caching_on_for s.mode log (key_of q)) q
  sent s (Send ws ∷ log) = sent s log ++ put_command s.mode (caching_on s.mode log) ws
  sent s (Poll n ∷ log) = sent s log
  sent s (TakeOut w n ∷ log) = sent s log
  sent s (Got w v ∷ log) = sent s log
  sent s (End w ∷ log) = sent s log
  sent s (Bad w v ∷ log) = sent s log

  -- the query of the fetch of that number, where it is open: sent with caching on, and nothing
  -- since then ends it
  pub open_fetch : Setup → List LogEntry → ℕ → Option Words
  open_fetch s [] n = None
  open_fetch s (Ask q ∷ log) n =
      asked (held_for q (held_by (open_fetch s log) (left s log) (replies s.mode Main log)))
      s.mode (caching_on_for s.mode log (key_of q)) (numbered s (sent s log)) q n
      (open_fetch s log n)
  open_fetch s (Send ws ∷ log) n = unless (writes ws) (open_fetch s log n)
  open_fetch s (Poll m ∷ log) n = open_fetch s log n
  open_fetch s (TakeOut w m ∷ log) n = open_fetch s log n
  open_fetch s (Got w v ∷ log) n =
      unless (got_ends s (sent s log) (length (replies s.mode Main log)) w v n)
      (open_fetch s log n)
  open_fetch s (End w ∷ log) n = None
  open_fetch s (Bad w v ∷ log) n = None

  -- the key of the fetch of that number has left the cache since its reply filled it
  pub left : Setup → List LogEntry → ℕ → Bool
  left s [] n = false
  left s (Ask q ∷ log) n = left s log n
  left s (Send ws ∷ log) n = left s log n
  left s (Poll m ∷ log) n = left s log n
  left s (TakeOut w m ∷ log) n = left s log n
  left s (Got w v ∷ log) n =
      left s log n || (nat_le n (length (replies s.mode Main log))
      && is_key
      (leaving s.capacity (last_use s log)
      (filled_by w (notice_of s.mode w v)
      (open_fetch s log (length (replies s.mode Main log) + 1)))
      (held_by (open_fetch s log) (left s log) (replies s.mode Main log)))
      (open_fetch s log n))
  left s (End w ∷ log) n = left s log n
  left s (Bad w v ∷ log) n = left s log n

  -- the number of the entry of the key's last hit or fill, by any query of it
  pub last_use : Setup → List LogEntry → Key → ℕ
  last_use s [] k = 0
  last_use s (Ask q ∷ log) k =
      used_at
      (hit_of (held_for q (held_by (open_fetch s log) (left s log) (replies s.mode Main log))) q)
      k (length log + 1) (last_use s log k)
  last_use s (Send ws ∷ log) k = last_use s log k
  last_use s (Poll n ∷ log) k = last_use s log k
  last_use s (TakeOut w n ∷ log) k = last_use s log k
  last_use s (Got w v ∷ log) k =
      used_at
      (filled_by w (notice_of s.mode w v)
      (open_fetch s log (length (replies s.mode Main log) + 1)))
      k (length log + 1) (last_use s log k)
  last_use s (End w ∷ log) k = last_use s log k
  last_use s (Bad w v ∷ log) k = last_use s log k

-- an entry ends what a fetch of the key with that number may fill, after the log before it: an own
-- write, an invalidation, an end, and of two links a reply to a later command that names the key
abbrev pub ends : Setup → List LogEntry → ℕ → LogEntry → Key → Bool
ends s log n (Ask q) k = false
ends s log n (Send ws) k = writes ws k
ends s log n (Poll m) k = false
ends s log n (TakeOut w m) k = false
ends s log n (Got w v) k = got_ends s (sent s log) (length (replies s.mode Main log)) w v n k
ends s log n (End w) k = true
ends s log n (Bad w v) k = true

-- what the cache holds, in order of the fetches
abbrev pub held : Setup → List LogEntry → List CacheEntry
held s log = held_by (open_fetch s log) (left s log) (replies s.mode Main log)

-- how many commands on Main have a number
abbrev pub numbers : Setup → List LogEntry → ℕ
numbers s log = numbered s (sent s log)

abbrev pub sent_on : Setup → Wire → List LogEntry → List SentCommand
sent_on s Main log = sent s log
sent_on s Side log = []

-- the commands on a link, in order of time
abbrev pub commands : Setup → Wire → List LogEntry → List Words
commands s w log = handshake s.mode w log ++ map (λ c. c.words) (sent_on s w log)

-- ---- what is held, in byte order of the printed words

-- by the printed words, and were these the same, by the number of the fetch
abbrev pub order : CacheEntry → CacheEntry → Ordering
order o h =
    ordering_then (slice_cmp nat_cmp (shown_words o.query) (shown_words h.query))
    (nat_cmp o.number h.number)

abbrev pub is_before : CacheEntry → CacheEntry → Bool
is_before o h = is_lt (order o h)

-- how many come before it
abbrev pub rank : CacheEntry → List CacheEntry → ℕ
rank h [] = 0
rank h (o ∷ os) = if is_before o h then rank h os + 1 else rank h os

abbrev pub ranked : ℕ → List CacheEntry → List CacheEntry → Option CacheEntry
ranked place all [] = None
ranked place all (h ∷ hs) = if rank h all == place then Some h else ranked place all hs

-- the one that so many come before
abbrev pub held_in_place : ℕ → List CacheEntry → Option CacheEntry
held_in_place place hs = ranked place hs hs

abbrev pub as_listed : Option CacheEntry → Option (Words × Value × ℕ)
as_listed None = None
as_listed (Some h) = Some (h.query, h.value, h.number)
