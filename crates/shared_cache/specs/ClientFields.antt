-- What a client is to a contract, and what its fields are by its log.
use Rattle.std.specs.Prelude.{◌≡◌, ◌+◌, ◌-◌, ◌<◌, ◌≤◌, ◌++◌, ℕ, zero, suc, List, [], ◌∷◌, length}
use Rattle.std.specs.Prelude.{slice_index_or, slice_set, Bool, false, Option, Some, None}
use Rattle.std.specs.Prelude.{◌==◌, ◌⊎◌, if◌then◌else◌, nat_lt, nat_le, true, map, drop, Ok, Err}
use Rattle.std.specs.Prelude.{Result}
use Rattle.resp_value.specs.Spelling.{request_spelling}
use Rattle.std.specs.Str.{bytes_eq}
use Rattle.command_words.specs.declared.command.Command.{Command}
use Rattle.command_words.specs.declared.command.WordFault.{WordFault}
use Rattle.command_words.specs.declared.written.Written.{Written}
use Rattle.command_words.specs.declared.written.Written.TheVariants as written
use Rattle.command_words.specs.Queries.{key_of, read}
use Rattle.command_words.specs.Queries.{written as written_of}
use Rattle.command_words.specs.Words.{reading}
use Rattle.resp_value.specs.declared.value.Value.{Value}
use Rattle.resp_value.specs.declared.value.Proto.{Proto}
use Rattle.resp_value.specs.declared.value.Proto.TheVariants.{Three}
use Rattle.fill_mark.specs.declared.marks.Mark.{Mark}
use Rattle.shared_cache.specs.declared.log.Wire.{Wire}
use Rattle.shared_cache.specs.declared.log.Wire.TheVariants.{Main, Side}
use Rattle.shared_cache.specs.declared.log.Shape.{Shape}
use Rattle.shared_cache.specs.declared.log.Shape.TheVariants.{Single, Pair}
use Rattle.shared_cache.specs.declared.side.SideLink.{SideLink}
use Rattle.shared_cache.specs.declared.log.ClientMode.{ClientMode}
use Rattle.shared_cache.specs.declared.log.LogEntry.{LogEntry}
use Rattle.shared_cache.specs.declared.log.LogEntry.TheVariants as entry
use Rattle.shared_cache.specs.declared.lead.CachingWord.{CachingWord}
use Rattle.shared_cache.specs.declared.entry.PendingReply.{PendingReply}
use Rattle.shared_cache.specs.declared.entry.PendingReply.TheVariants.{Waiting, There, Gone}
use Rattle.shared_cache.specs.Log.{steps, tracking, handshake, handshake_length, first_number}
use Rattle.shared_cache.specs.Log.{replies}
use Rattle.shared_cache.specs.Log.{reply_in, is_ready, id_number, id_in, told_id, redirect_words}
use Rattle.shared_cache.specs.Log.{is_told, is_ended}
use Rattle.shared_cache.specs.Log.{is_broken}
use Rattle.shared_cache.specs.Held.{Setup, Key, Words, SentCommand, command_in, is_named, sent}
use Rattle.shared_cache.specs.Held.{open_fetch, last_use, held, numbers}
use Rattle.shared_cache.specs.Out.{untaken, is_polled, is_wanted}
use Rattle.shared_cache.specs.HeldKeys.{KeysHeld, Keeps}

-- a client: its setup, and its log with the newest entry first
pub record Client : Type 0 where
  pub setup : Setup
  pub past : List LogEntry

-- the same client with one entry more
abbrev pub added : LogEntry → Client → Client
added e c = record { setup = c.setup; past = e ∷ c.past }

-- one link is of the third protocol
abbrev pub IsClientMode : ClientMode → Type 0
IsClientMode m = m.shape ≡ Single → m.proto ≡ Three

-- the modes of a client of one link, which is of the third protocol
pub record IsOneLink (m : ClientMode) : Type 0 where
  pub shape : m.shape ≡ Single
  pub proto : m.proto ≡ Three

-- an entry that ends that link
abbrev pub IsLast : Wire → LogEntry → Type 0
IsLast u (entry.End w) = w ≡ u
IsLast u (entry.Bad w v) = w ≡ u
IsLast u e = ⊥

-- ---- the invalidation link

-- the digits of the id that Side was told, after its reply of that number
abbrev pub id_after : Proto → ℕ → Value → List ℕ → List ℕ
id_after p n v before = if id_number p == n then id_in (Some v) else before

-- the bytes that Side's reply of that number lets go on Main, where that is the id
abbrev pub tracking_behind : ClientMode → ℕ → List ℕ → List ℕ
tracking_behind m n id =
    if n == 2 then request_spelling (tracking m (redirect_words id)) else []

-- ---- the keys that commands name

abbrev pub with_keys : List Key → Written → Written
with_keys ks (written.Keys js) = written.Keys (ks ++ js)
with_keys ks written.All = written.All

abbrev pub named_as : Result Command WordFault → Written
named_as (Ok command) = with_keys (read command) (written_of command)
named_as (Err fault) = written.Keys []

-- those that a command of these words reads or can change
unfoldable pub named_by : Words → Written
named_by ws = named_as (reading ws)

-- they are kept of two links, for each command until its reply
abbrev pub names_for : Shape → List SentCommand → List Written
names_for Single cs = []
names_for Pair cs = map (λ c. named_by c.words) cs

-- ---- replies for callers

abbrev pub there : Option Value → PendingReply
there None = Waiting
there (Some v) = There v

-- the reply of that number on its way to the caller; nobody waits for one of the client's own
abbrev pub pending_at : Setup → List LogEntry → ℕ → PendingReply
pending_at s log n =
    if is_wanted s log n then there (reply_in n (replies s.mode Main log)) else Gone

-- what waits of a command that is sent, and of the one before it
abbrev pub waits_for : Option CachingWord → List PendingReply
waits_for None = Waiting ∷ []
waits_for (Some w) = Gone ∷ Waiting ∷ []

-- how many numbers are not handed out
abbrev pub owed_in : List PendingReply → ℕ
owed_in [] = 0
owed_in (Waiting ∷ ps) = owed_in ps + 1
owed_in (There v ∷ ps) = owed_in ps + 1
owed_in (Gone ∷ ps) = owed_in ps

abbrev pub answered : Value → PendingReply → PendingReply
answered v Waiting = There v
answered v (There u) = There u
answered v Gone = Gone

-- the reply of that number is there, if a caller waits for it; none waits for the handshake's
abbrev pub settled : ClientMode → ℕ → Value → List PendingReply → List PendingReply
settled m n v ps =
    if nat_lt (handshake_length m) n
    then slice_set ps (n - first_number m)
    (answered v (slice_index_or ps (n - first_number m) Gone))
    else ps

-- ---- marks: the open fetches without a reply

abbrev pub fetch_mark : ℕ → Option Words → List Mark
fetch_mark n None = []
fetch_mark n (Some q) = record { number = n; query = q } ∷ []

-- those of the numbers above one, up to another
abbrev pub marks_by : (ℕ → Option Words) → ℕ → ℕ → List Mark
marks_by open_of replied zero = []
marks_by open_of replied (suc n) =
    marks_by open_of replied n
    ++ (if nat_lt replied (suc n) then fetch_mark (suc n) (open_of (suc n)) else [])

-- ---- the fields

pub record Fields : Type 0 where
  pub queued : List ℕ
  pub replied : ℕ
  pub side : SideLink
  pub named : List Written
  pub pending : List PendingReply
  pub owed : ℕ
  pub marks : List Mark
  pub keys : KeysHeld
  pub ended : Bool
  pub broken : Bool

-- the fields are what the log says
pub record Reflects (s : Setup) (log : List LogEntry) (f : Fields) : Type 0 where
  pub queued_is : f.queued ≡ untaken s Main log
  pub replied_is : f.replied ≡ length (replies s.mode Main log)
  pub replied_within : f.replied ≤ length (handshake s.mode Main log) + length (sent s log)
  pub ready_is : is_ready s.mode log ≡ nat_le (handshake_length s.mode) f.replied
  pub told_first : (is_told s.mode log ≡ true) ⊎ (sent s log ≡ [])
  pub pending_count : length f.pending ≡ length (sent s log)
  pub pending_is : (i : ℕ) → i < length f.pending
      → slice_index_or f.pending i Gone ≡ pending_at s log (i + first_number s.mode)
  pub unpolled : (n : ℕ) → f.replied < n → is_polled log n ≡ false
  pub owed_is : f.owed ≡ owed_in f.pending
  pub named_is :
      f.named ≡ names_for s.mode.shape (drop (f.replied - handshake_length s.mode) (sent s log))
  pub fetches_are : (n : ℕ) (q : Words) (k : Key) → open_fetch s log n ≡ Some q
      → is_named (command_in s (sent s log) n) k ≡ bytes_eq k (key_of q)
  pub marks_is : f.marks ≡ marks_by (open_fetch s log) f.replied (numbers s log)
  pub keys_is : Keeps s.capacity (last_use s log) (held s log) f.keys
  pub ended_is : f.ended ≡ is_ended s.mode Main log
  pub broken_is : f.broken ≡ is_broken s.mode log
  pub side_queued_is : f.side.queued ≡ untaken s Side log
  pub side_replied_is : f.side.replied ≡ length (replies s.mode Side log)
  pub side_within : f.side.replied ≤ length (steps s.mode Side)
  pub side_id_is : f.side.id ≡ told_id s.mode log
  pub side_is : f.side.ended ≡ is_ended s.mode Side log
