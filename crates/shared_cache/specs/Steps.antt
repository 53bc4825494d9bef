-- What a turn of a client answers, and the entry that it adds to the log.
use Rattle.std.specs.Prelude.{◌≡◌, ◌==◌, ◌+◌, ◌-◌, ◌&&◌, ℕ, List, [], ◌∷◌, length, take, Bool}
use Rattle.std.specs.Prelude.{true, false, not, pos, codes}
use Rattle.std.specs.Prelude.{Option, Some, None, if◌then◌else◌, nat_le, nat_lt}
use Rattle.std.specs.List.{slice_get}
use Rattle.std.specs.Str.{bytes_eq}
use Rattle.resp_value.specs.Tree.{blob, number}
use Rattle.resp_value.specs.declared.value.Value.{Value}
use Rattle.resp_value.specs.declared.value.Value.TheVariants.{Map, Number, Array}
use Rattle.command_words.specs.Control.{is_control}
use Rattle.command_words.specs.Queries.{key_of}
use Rattle.shared_cache.specs.declared.log.Wire.{Wire}
use Rattle.shared_cache.specs.declared.log.Wire.TheVariants.{Main}
use Rattle.shared_cache.specs.declared.log.ClientMode.{ClientMode}
use Rattle.shared_cache.specs.declared.log.LogEntry.{LogEntry}
use Rattle.shared_cache.specs.declared.log.LogEntry.TheVariants as entry
use Rattle.shared_cache.specs.declared.log.ClientCall.{ClientCall}
use Rattle.shared_cache.specs.declared.log.ClientCall.TheVariants.{Ask, Send, Poll, TakeOut, Got}
use Rattle.shared_cache.specs.declared.log.ClientCall.TheVariants.{End}
use Rattle.shared_cache.specs.declared.log.ClientReply.{ClientReply}
use Rattle.shared_cache.specs.declared.log.ClientReply.TheVariants.{Hit, Sent, NotYet, Answer}
use Rattle.shared_cache.specs.declared.log.ClientReply.TheVariants.{Bytes}
use Rattle.shared_cache.specs.declared.log.ClientReply.TheVariants.{Quiet, Noted, Refused}
use Rattle.shared_cache.specs.declared.log.ClientRefusal.{ClientRefusal}
use Rattle.shared_cache.specs.declared.log.ClientRefusal.TheVariants.{Down, Unexpected, BadPush}
use Rattle.shared_cache.specs.declared.log.ClientRefusal.TheVariants.{NoMemory, LogFull}
use Rattle.shared_cache.specs.declared.log.ClientRefusal.TheVariants.{SetupRefused, NotReady}
use Rattle.shared_cache.specs.declared.log.ClientRefusal.TheVariants.{Control}
use Rattle.shared_cache.specs.declared.log.ClientRefusal.TheVariants.{NoNumber}
use Rattle.shared_cache.specs.declared.entry.CacheEntry.{CacheEntry}
use Rattle.shared_cache.specs.declared.notices.Notice.{Notice}
use Rattle.shared_cache.specs.declared.notices.Notice.TheVariants.{Reply, Keys, All, Broken, Other}
use Rattle.shared_cache.specs.declared.notices.Notice.TheVariants.{Malformed}
use Rattle.shared_cache.specs.declared.handshake.HandshakeStep.{HandshakeStep}
use Rattle.shared_cache.specs.declared.handshake.HandshakeStep.TheVariants.{Hello, ClientId}
use Rattle.shared_cache.specs.declared.handshake.HandshakeStep.TheVariants.{Subscribe, Track}
use Rattle.shared_cache.specs.Notices.{channel, notice_of}
use Rattle.shared_cache.specs.Log.{steps, replies, reply, is_ok_text, is_ready, is_ended}
use Rattle.shared_cache.specs.Log.{caching_on, caching_on_for}
use Rattle.shared_cache.specs.Held.{Setup, Words, put_command, put_read, held_for, held, numbers}
use Rattle.shared_cache.specs.Held.{commands}
use Rattle.shared_cache.specs.Out.{untaken, is_wanted}

-- an answer, and the log after it
pub record ClientTurn : Type 0 where
  pub reply : ClientReply
  pub past : List LogEntry

abbrev pub refusing : ClientRefusal → List LogEntry → ClientTurn
refusing r log = record { reply = Refused r; past = log }

abbrev pub is_log_full : Setup → List LogEntry → Bool
is_log_full s log = nat_le s.log_max (length log)

-- the number of the read that an Ask puts on the wire
abbrev pub read_number : Setup → List LogEntry → Words → ℕ
read_number s log q =
    numbers s log + length (put_read s.mode (caching_on_for s.mode log (key_of q)) q)

-- the number of the command of a Send
abbrev pub command_number : Setup → List LogEntry → Words → ℕ
command_number s log ws =
    numbers s log + length (put_command s.mode (caching_on s.mode log) ws)

-- a hit, or the number of the read that is sent
abbrev pub answer_ask : Option CacheEntry → ℕ → ClientReply
answer_ask (Some h) n = Hit h.value h.number
answer_ask None n = Sent n

abbrev pub polling : Option Value → ℕ → Bool → List LogEntry → ClientTurn
polling (Some v) n ended log = record { reply = Answer v; past = entry.Poll n ∷ log }
polling None n ended log =
    if ended then refusing (Down Main) log else record { reply = NotYet; past = log }

abbrev pub taking_out : Wire → ℕ → List ℕ → Bool → List LogEntry → ClientTurn
taking_out w most [] full log = record { reply = Quiet; past = log }
taking_out w most (b ∷ bytes) full log =
    if full then refusing (LogFull (length log)) log else
    record { reply = Bytes (take most (b ∷ bytes)); past = entry.TakeOut w most ∷ log }

abbrev pub is_map : Value → Bool
is_map (Map ps) = true
is_map v = false

abbrev pub is_id : Value → Bool
is_id (Number (pos n)) = nat_lt 0 n
is_id v = false

abbrev pub is_listening : Value → Bool
is_listening (Array (blob kind ∷ blob name ∷ number (pos n) ∷ [])) =
    bytes_eq kind (codes "subscribe") && (bytes_eq name channel && n == 1)
is_listening v = false

-- a step of the handshake is to be answered so: HELLO by a map, CLIENT ID by an id, SUBSCRIBE by
-- its channel's first subscription, the tracking command by OK
abbrev pub welcomes : HandshakeStep → Value → Bool
welcomes Hello v = is_map v
welcomes ClientId v = is_id v
welcomes Subscribe v = is_listening v
welcomes Track v = is_ok_text v

abbrev pub welcomed : Option HandshakeStep → Value → Bool
welcomed None v = true
welcomed (Some step) v = welcomes step v

-- the value answers the command of that number on that wire as it is to be answered, if it is one
-- of the handshake
abbrev pub is_welcome : ClientMode → Wire → ℕ → Value → Bool
is_welcome m w n v = welcomed (slice_get (steps m w) (n - 1)) v

-- a reply to nothing, or one that refuses the handshake
abbrev pub judged_reply : ClientMode → Wire → ℕ → ℕ → Value → Option ClientRefusal
judged_reply m w replied sent v =
    if nat_le sent replied then Some (Unexpected w) else
    if is_welcome m w (replied + 1) v then None else Some (SetupRefused w)

abbrev pub judged : ClientMode → Wire → ℕ → ℕ → Value → Notice → Option ClientRefusal
judged m w replied sent v Reply = judged_reply m w replied sent v
judged m w replied sent v Keys = None
judged m w replied sent v All = None
judged m w replied sent v Broken = None
judged m w replied sent v Other = None
judged m w replied sent v Malformed = Some (BadPush w)

-- why a value ends its link, if it does
unfoldable pub fault_of : Setup → List LogEntry → Wire → Value → Option ClientRefusal
fault_of s log w v =
    judged s.mode w (length (replies s.mode w log)) (length (commands s w log)) v
    (notice_of s.mode w v)

abbrev pub getting : Option ClientRefusal → Wire → Value → Bool → List LogEntry → ClientTurn
getting (Some r) w v full log = record { reply = Refused r; past = entry.Bad w v ∷ log }
getting None w v full log =
    if full then refusing (LogFull (length log)) log else
    record { reply = Noted; past = entry.Got w v ∷ log }

unfoldable pub client_step : Setup → List LogEntry → ClientCall → ClientTurn
client_step s log (Ask q) =
    if is_ended s.mode Main log then refusing (Down Main) log else
    if not (is_ready s.mode log) then refusing NotReady log else
    if is_log_full s log then refusing (LogFull (length log)) log else
    record {
      reply = answer_ask (held_for q (held s log)) (read_number s log q);
      past = entry.Ask q ∷ log;
    }
client_step s log (Send ws) =
    if is_ended s.mode Main log then refusing (Down Main) log else
    if not (is_ready s.mode log) then refusing NotReady log else
    if is_control ws then refusing Control log else
    if is_log_full s log then refusing (LogFull (length log)) log else
    record { reply = Sent (command_number s log ws); past = entry.Send ws ∷ log }
client_step s log (Poll n) =
    if not (is_wanted s log n) then refusing (NoNumber n) log else
    polling (reply s.mode log n) n (is_ended s.mode Main log) log
client_step s log (TakeOut w most) =
    if is_ended s.mode w log then refusing (Down w) log else
    taking_out w most (untaken s w log) (is_log_full s log) log
client_step s log (Got w v) =
    if is_ended s.mode w log then refusing (Down w) log else
    getting (fault_of s log w v) w v (is_log_full s log) log
client_step s log (End w) =
    record { reply = Noted; past = if is_ended s.mode w log then log else entry.End w ∷ log }

-- a Poll and an end have their numbers from the start; for another entry there may be none left, or
-- no memory
abbrev pub NeedsRoom : LogEntry → Type 0
NeedsRoom (entry.Ask q) = Unit {0}
NeedsRoom (entry.Send ws) = Unit {0}
NeedsRoom (entry.Poll n) = ⊥
NeedsRoom (entry.TakeOut w most) = Unit {0}
NeedsRoom (entry.Got w v) = Unit {0}
NeedsRoom (entry.End w) = ⊥
NeedsRoom (entry.Bad w v) = ⊥

-- the step would add an entry that takes memory, so no refusal comes before want of memory
abbrev pub MayRunOut : Setup → List LogEntry → ClientCall → Type 0
MayRunOut s log call =
    (e : LogEntry) × NeedsRoom e × ((client_step s log call).past ≡ e ∷ log)

-- the turn is the step, or memory ran out and the log is as before
abbrev pub ClientStep : Setup → List LogEntry → ClientCall → ClientReply → List LogEntry → Type 0
ClientStep s log call (Refused NoMemory) new = MayRunOut s log call × (new ≡ log)
ClientStep s log call answer new = client_step s log call ≡ record { reply = answer; past = new }
