-- What holds of every legal log: the laws of a client's log.
use Rattle.std.specs.Prelude.{◌≡◌, ◌-◌, ◌<◌, ◌≤◌, ◌++◌, ◌⊎◌, ℕ, List, [], ◌∷◌, length, drop}
use Rattle.std.specs.Prelude.{reverse, true, false, if◌then◌else◌, Some, None, pos}
use Rattle.std.specs.Fmt.{decimal}
use Rattle.std.specs.List.{filter, slice_get}
use Rattle.resp_value.specs.Lists.{IsPrefix}
use Rattle.resp_value.specs.declared.value.Value.{Value}
use Rattle.resp_value.specs.declared.value.Value.TheVariants.{Number}
use Rattle.command_words.specs.Control.{is_control}
use Rattle.command_words.specs.Queries.{query_of, key_of, writes, names_key}
use Rattle.shared_cache.specs.declared.log.Wire.{Wire}
use Rattle.shared_cache.specs.declared.log.Wire.TheVariants.{Main, Side}
use Rattle.shared_cache.specs.declared.log.ClientCall.{ClientCall}
use Rattle.shared_cache.specs.declared.log.ClientCall.TheVariants as call
use Rattle.shared_cache.specs.declared.log.ClientReply.{ClientReply}
use Rattle.shared_cache.specs.declared.log.LogEntry.{LogEntry}
use Rattle.shared_cache.specs.declared.log.LogEntry.TheVariants.{Ask, Send, Poll, TakeOut, Got}
use Rattle.shared_cache.specs.declared.log.LogEntry.TheVariants.{End, Bad}
use Rattle.shared_cache.specs.declared.entry.CacheEntry.{CacheEntry}
use Rattle.shared_cache.specs.Notices.{notice_of, is_reply}
use Rattle.shared_cache.specs.declared.log.Shape.TheVariants.{Single, Pair}
use Rattle.shared_cache.specs.declared.log.ClientMode.{ClientMode}
use Rattle.shared_cache.specs.Log.{handshake, is_wire, is_ended, is_ready, caching_on_for, replies}
use Rattle.shared_cache.specs.Log.{HasWire, steps, handshake_length, is_told, id_number}
use Rattle.shared_cache.specs.Log.{reply, reply_in, tracking, redirect_words}
use Rattle.shared_cache.specs.Held.{Setup, Key, Words, SentCommand, Caller, has_key, keys_held}
use Rattle.shared_cache.specs.Held.{held}
use Rattle.shared_cache.specs.Held.{held_for, held_in_place, rank, is_before, ends, open_fetch}
use Rattle.shared_cache.specs.Held.{last_use}
use Rattle.shared_cache.specs.Held.{leaving}
use Rattle.shared_cache.specs.Held.{sent, commands, caching_command}
use Rattle.shared_cache.specs.declared.log.Caching.TheVariants.{OptIn}
use Rattle.shared_cache.specs.declared.lead.CachingWord.TheVariants.{Yes}
use Rattle.shared_cache.specs.Out.{out, taken}
use Rattle.shared_cache.specs.Steps.{read_number, client_step, ClientStep}

abbrev pub Every : {A : Type 0} → (A → Type 0) → List A → Type 0
Every P [] = Unit {0}
Every P (x ∷ xs) = P x × Every P xs

-- ---- legal logs

-- a call speaks of a link that the client has, and a command has at least one word
abbrev pub IsCall : ClientMode → ClientCall → Type 0
IsCall m (call.Ask q) = Unit {0}
IsCall m (call.Send ws) = 0 < length ws
IsCall m (call.Poll n) = Unit {0}
IsCall m (call.TakeOut w most) = HasWire m.shape w
IsCall m (call.Got w v) = HasWire m.shape w
IsCall m (call.End w) = HasWire m.shape w

-- a query's words read as the query, as those of each `Query` do
abbrev pub IsQuery : Words → Type 0
IsQuery q = query_of q ≡ Some q

abbrev pub AsksQuery : ClientCall → Type 0
AsksQuery (call.Ask q) = IsQuery q
AsksQuery (call.Send ws) = Unit {0}
AsksQuery (call.Poll n) = Unit {0}
AsksQuery (call.TakeOut w most) = Unit {0}
AsksQuery (call.Got w v) = Unit {0}
AsksQuery (call.End w) = Unit {0}

-- each entry is one that a turn adds on the entries before it
abbrev pub LegalLog : Setup → List LogEntry → Type 0
LegalLog s [] = Unit {0}
LegalLog s (e ∷ log) =
    LegalLog s log
    × ((c : ClientCall) × IsCall s.mode c × AsksQuery c × ((client_step s log c).past ≡ e ∷ log))

-- the handshake's commands come before all others: of one link always, of two in a legal log
abbrev pub InTurn : Setup → List LogEntry → Type 0
InTurn s log = (s.mode.shape ≡ Single) ⊎ LegalLog s log

-- a turn leaves a legal log legal
abbrev pub LegalStep : Type 0
LegalStep =
    (s : Setup) (log new : List LogEntry) (c : ClientCall) (r : ClientReply)
    → LegalLog s log → IsCall s.mode c → AsksQuery c → ClientStep s log c r new
    → LegalLog s new

-- ---- what was got

-- the values that were got on a link, in order of time
abbrev pub gots : Wire → List LogEntry → List Value
gots w [] = []
gots w (Ask q ∷ log) = gots w log
gots w (Send ws ∷ log) = gots w log
gots w (Poll n ∷ log) = gots w log
gots w (TakeOut u n ∷ log) = gots w log
gots w (Got u v ∷ log) = if is_wire u w then gots w log ++ v ∷ [] else gots w log
gots w (End u ∷ log) = gots w log
gots w (Bad u v ∷ log) = gots w log

abbrev pub GotsGrow : Type 0
GotsGrow =
    (w : Wire) (e : LogEntry) (log : List LogEntry)
    → (gots w (e ∷ log) ≡ gots w log) ⊎ ((v : Value) × (gots w (e ∷ log) ≡ gots w log ++ v ∷ []))

-- the replies are the values got that are no push, in order
abbrev pub RepliesAreGots : Type 0
RepliesAreGots =
    (s : Setup) (w : Wire) (log : List LogEntry)
    → reverse (replies s.mode w log) ≡ filter (λ v. is_reply (notice_of s.mode w v)) (gots w log)

-- ---- what was sent

abbrev pub CommandsGrow : Type 0
CommandsGrow =
    (s : Setup) (w : Wire) (e : LogEntry) (log : List LogEntry) → InTurn s (e ∷ log)
    → IsPrefix (commands s w log) (commands s w (e ∷ log))

-- each command has a word
abbrev pub CommandsHaveWords : Type 0
CommandsHaveWords =
    (s : Setup) (w : Wire) (log : List LogEntry) → LegalLog s log
    → Every (λ ws. 0 < length ws) (commands s w log)

-- no more bytes were taken than there are
abbrev pub TakenWithin : Type 0
TakenWithin = (s : Setup) (w : Wire) (log : List LogEntry) → taken s w log ≤ length (out s w log)

-- the handshake's commands come first, and nothing after them before the client is ready
abbrev pub HandshakeFirst : Type 0
HandshakeFirst =
    (s : Setup) (log : List LogEntry) → LegalLog s log
    → IsPrefix (handshake s.mode Main log) (commands s Main log)
    × (is_ready s.mode log ≡ false → commands s Main log ≡ handshake s.mode Main log)

-- the tracking command, the last of the handshake, is among Main's
abbrev pub HasTracking : Setup → List LogEntry → Type 0
HasTracking s log = handshake_length s.mode ≤ length (commands s Main log)

-- what let it go: the last reply of Side's handshake, before any command of a caller
pub record WasTold (s : Setup) (log : List LogEntry) : Type 0 where
  pub later : List LogEntry
  pub sooner : List LogEntry
  pub value : Value
  pub log_is : log ≡ later ++ Got Side value ∷ sooner
  pub untold : is_told s.mode sooner ≡ false
  pub not_yet : length (commands s Main sooner) < handshake_length s.mode
  pub told : is_told s.mode (Got Side value ∷ sooner) ≡ true
  pub replied : length (replies s.mode Side (Got Side value ∷ sooner)) ≡ length (steps s.mode Side)
  pub none_sent : sent s (Got Side value ∷ sooner) ≡ []

abbrev pub SideFirst : Type 0
SideFirst =
    (s : Setup) (log : List LogEntry) → s.mode.shape ≡ Pair → LegalLog s log → HasTracking s log
    → WasTold s log

-- the id that it names is the one that Side's reply to CLIENT ID told; a later log keeps that reply
pub record NamesId (s : Setup) (log : List LogEntry) : Type 0 where
  pub id : ℕ
  pub some : 0 < id
  pub told : (later : List LogEntry)
      → reply_in (id_number s.mode.proto) (replies s.mode Side (later ++ log))
      ≡ Some (Number (pos id))
  pub command_is : slice_get (commands s Main log) (handshake_length s.mode - 1)
      ≡ Some (tracking s.mode (redirect_words (decimal id)))

abbrev pub TrackNamesId : Type 0
TrackNamesId =
    (s : Setup) (log : List LogEntry) → s.mode.shape ≡ Pair → LegalLog s log → HasTracking s log
    → NamesId s log

-- no command of a caller is a control command
abbrev pub NoControl : Type 0
NoControl =
    (s : Setup) (log : List LogEntry) → LegalLog s log
    → Every (λ (c : SentCommand). c.origin ≡ Caller → is_control c.words ≡ false) (sent s log)

-- ---- open fetches

-- none of the later entries ends what the fetch of the key with that number may fill
abbrev pub Spared : Setup → List LogEntry → ℕ → Key → List LogEntry → Type 0
Spared s sooner n k [] = Unit {0}
Spared s sooner n k (e ∷ later) =
    (ends s (later ++ sooner) n e k ≡ false) × Spared s sooner n k later

-- how an open fetch was sent, and what came since
pub record WasSent (s : Setup) (log : List LogEntry) (n : ℕ) (q : Words) : Type 0 where
  pub later : List LogEntry
  pub sooner : List LogEntry
  pub log_is : log ≡ later ++ Ask q ∷ sooner
  pub number_is : n ≡ read_number s sooner q
  pub missed : held_for q (held s sooner) ≡ None
  pub on : caching_on_for s.mode sooner (key_of q) ≡ true
  pub spared : Spared s (Ask q ∷ sooner) n (key_of q) later

-- an open fetch was sent when its number was still to come, with caching on, so the client was
-- ready; and nothing got or sent since ends it
abbrev pub OpenWasSent : Type 0
OpenWasSent =
    (s : Setup) (log : List LogEntry) (n : ℕ) (q : Words) → open_fetch s log n ≡ Some q
    → WasSent s log n q

-- the command of an open fetch's number is its query
abbrev pub PlaceIsQuery : Type 0
PlaceIsQuery =
    (s : Setup) (log : List LogEntry) (n : ℕ) (q : Words) → InTurn s log
    → open_fetch s log n ≡ Some q
    → (0 < n) × (slice_get (commands s Main log) (n - 1) ≡ Some q)

-- by opting in, the command before an open fetch's is CLIENT CACHING YES
abbrev pub MarkBeforeRead : Type 0
MarkBeforeRead =
    (s : Setup) (log : List LogEntry) (n : ℕ) (q : Words) → s.mode.caching ≡ OptIn
    → InTurn s log → open_fetch s log n ≡ Some q
    → (1 < n) × (slice_get (commands s Main log) (n - 2) ≡ Some (caching_command Yes).words)

abbrev pub SentReady : Type 0
SentReady =
    (s : Setup) (log : List LogEntry) (n : ℕ) (q : Words) (f : open_fetch s log n ≡ Some q)
    → (w : WasSent s log n q) → is_ready s.mode w.sooner ≡ true

abbrev pub OpenWires : Type 0
OpenWires =
    (s : Setup) (log : List LogEntry) (n : ℕ) (q : Words) → open_fetch s log n ≡ Some q
    → (is_ended s.mode Main log ≡ false) × (is_ended s.mode Side log ≡ false)

-- no command after an open fetch writes its key
abbrev pub NoLaterWrite : Type 0
NoLaterWrite =
    (s : Setup) (log : List LogEntry) (n : ℕ) (q : Words)
    → LegalLog s log → open_fetch s log n ≡ Some q
    → Every (λ ws. writes ws (key_of q) ≡ false) (drop n (commands s Main log))

-- of two links no reply has come to a command after an open fetch that names its key
abbrev pub NoLaterReply : Type 0
NoLaterReply =
    (s : Setup) (log : List LogEntry) (n : ℕ) (q : Words) → s.mode.shape ≡ Pair
    → LegalLog s log → open_fetch s log n ≡ Some q
    → (j : ℕ) (ws : Words) → n ≤ j → j < length (replies s.mode Main log)
    → slice_get (commands s Main log) j ≡ Some ws → names_key ws (key_of q) ≡ false

-- ---- what is held

-- an open fetch of which a reply is held
pub record IsFetch (s : Setup) (log : List LogEntry) (h : CacheEntry) : Type 0 where
  pub fetch : open_fetch s log h.number ≡ Some h.query
  pub reply_is : reply s.mode log h.number ≡ Some h.value

-- what is held is the reply to an open fetch
abbrev pub HeldIsFetch : Type 0
HeldIsFetch = (s : Setup) (log : List LogEntry) → Every (IsFetch s log) (held s log)

-- once a link has ended nothing is held
abbrev pub EndedHoldsNothing : Type 0
EndedHoldsNothing =
    (s : Setup) (w : Wire) (log : List LogEntry) → is_ended s.mode w log ≡ true → held s log ≡ []

-- no more keys are held than the capacity
abbrev pub WithinCapacity : Type 0
WithinCapacity =
    (s : Setup) (log : List LogEntry) → 0 < s.capacity → LegalLog s log
    → keys_held (held s log) ≤ s.capacity

-- of what is held no key has an earlier last use than the one that leaves, which is among them
pub record IsEarliest (s : Setup) (log : List LogEntry) (k : Key) : Type 0 where
  pub is_held : has_key k (held s log) ≡ true
  pub earliest :
      Every (λ (h : CacheEntry). last_use s log k ≤ last_use s log (key_of h.query)) (held s log)

abbrev pub EarliestLeaves : Type 0
EarliestLeaves =
    (s : Setup) (log : List LogEntry) (q : Words) (k : Key)
    → leaving s.capacity (last_use s log) (Some q) (held s log) ≡ Some k → IsEarliest s log k

-- each place below their number has one, and no other place; none is left out, and those at lower
-- places come before
pub record InOrder (hs : List CacheEntry) : Type 0 where
  pub filled : (place : ℕ) → place < length hs → (h : CacheEntry)
      × (held_in_place place hs ≡ Some h)
  pub beyond : (place : ℕ) → length hs ≤ place → held_in_place place hs ≡ None
  pub listed : Every (λ h. held_in_place (rank h hs) hs ≡ Some h) hs
  pub sorted : (p q : ℕ) (g h : CacheEntry) → p < q → held_in_place p hs ≡ Some g
      → held_in_place q hs ≡ Some h
      → is_before g h ≡ true

abbrev pub HeldInOrder : Type 0
HeldInOrder = (s : Setup) (log : List LogEntry) → InOrder (held s log)
