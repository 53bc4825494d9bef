-- What a client's log says of its handshake, its replies and its links. A log is a list of
-- entries, the newest first.
use Rattle.std.specs.Prelude.{◌==◌, ◌+◌, ◌++◌, ◌&&◌, ◌||◌, ℕ, List, [], ◌∷◌, length, Bool, true}
use Rattle.std.specs.Prelude.{false, not, Option, Some, None, if◌then◌else◌, codes, nat_eq}
use Rattle.std.specs.Prelude.{nat_le}
use Rattle.std.specs.Fmt.{signed_decimal}
use Rattle.std.specs.List.{flat_map, list_any, starts_with}
use Rattle.std.specs.Str.{bytes_eq}
use Rattle.resp_value.specs.declared.value.Value.{Value}
use Rattle.resp_value.specs.declared.value.Value.TheVariants.{Simple, Number}
use Rattle.resp_value.specs.declared.value.Proto.{Proto}
use Rattle.resp_value.specs.declared.value.Proto.TheVariants.{Two, Three}
use Rattle.shared_cache.specs.declared.log.Wire.{Wire}
use Rattle.shared_cache.specs.declared.log.Wire.TheVariants.{Main, Side}
use Rattle.shared_cache.specs.declared.log.Shape.{Shape}
use Rattle.shared_cache.specs.declared.log.Shape.TheVariants.{Single, Pair}
use Rattle.shared_cache.specs.declared.handshake.HandshakeStep.{HandshakeStep}
use Rattle.shared_cache.specs.declared.handshake.HandshakeStep.TheVariants.{Hello, ClientId}
use Rattle.shared_cache.specs.declared.handshake.HandshakeStep.TheVariants.{Subscribe, Track}
use Rattle.shared_cache.specs.declared.log.Caching.{Caching}
use Rattle.shared_cache.specs.declared.log.Caching.TheVariants.{Default, OptIn, OptOut, Bcast}
use Rattle.shared_cache.specs.declared.log.ClientMode.{ClientMode}
use Rattle.shared_cache.specs.declared.log.LogEntry.{LogEntry}
use Rattle.shared_cache.specs.declared.log.LogEntry.TheVariants.{Ask, Send, Poll, TakeOut, Got}
use Rattle.shared_cache.specs.declared.log.LogEntry.TheVariants.{End, Bad}
use Rattle.shared_cache.specs.declared.notices.Notice.{Notice}
use Rattle.shared_cache.specs.declared.notices.Notice.TheVariants.{Reply, Keys, All, Broken, Other}
use Rattle.shared_cache.specs.declared.notices.Notice.TheVariants.{Malformed}
use Rattle.shared_cache.specs.Notices.{channel, notice_of}

-- ---- the handshake

-- the options that say how the server is to track (the page of CLIENT TRACKING)
abbrev pub caching_words : Caching → List (List ℕ)
caching_words Default = []
caching_words OptIn = codes "OPTIN" ∷ []
caching_words OptOut = codes "OPTOUT" ∷ []
caching_words (Bcast prefixes) =
    codes "BCAST" ∷ flat_map (λ p. codes "PREFIX" ∷ p ∷ []) prefixes

abbrev pub noloop_words : Bool → List (List ℕ)
noloop_words true = codes "NOLOOP" ∷ []
noloop_words false = []

-- the tracking command, with where invalidations are to go
abbrev pub tracking : ClientMode → List (List ℕ) → List (List ℕ)
tracking m redirect =
    codes "CLIENT" ∷ codes "TRACKING" ∷ codes "ON"
    ∷ (redirect ++ (caching_words m.caching ++ noloop_words m.noloop))

-- a client of this shape has that link
abbrev pub HasWire : Shape → Wire → Type 0
HasWire shape Main = Unit {0}
HasWire Pair Side = Unit {0}
HasWire Single Side = ⊥

abbrev pub steps_of : Wire → Shape → Proto → List HandshakeStep
steps_of Main shape Three = Hello ∷ Track ∷ []
steps_of Main shape Two = Track ∷ []
steps_of Side Single proto = []
steps_of Side Pair Three = Hello ∷ ClientId ∷ []
steps_of Side Pair Two = ClientId ∷ Subscribe ∷ []

-- the commands of the handshake on a link, in their order
abbrev pub steps : ClientMode → Wire → List HandshakeStep
steps m w = steps_of w m.shape m.proto

-- how many commands on Main a client of this mode has sent when its handshake is done
abbrev pub handshake_length : ClientMode → ℕ
handshake_length m = length (steps m Main)

-- the number of the first command after the handshake
abbrev pub first_number : ClientMode → ℕ
first_number m = handshake_length m + 1

abbrev pub is_wire : Wire → Wire → Bool
is_wire Main Main = true
is_wire Main Side = false
is_wire Side Main = false
is_wire Side Side = true

abbrev pub with_reply : Bool → Notice → Value → List Value → List Value
with_reply true Reply v vs = v ∷ vs
with_reply true n v vs = vs
with_reply false n v vs = vs

-- the replies to the commands on a wire, the newest first
abbrev pub replies : ClientMode → Wire → List LogEntry → List Value
replies m w [] = []
replies m w (Ask q ∷ log) = replies m w log
replies m w (Send ws ∷ log) = replies m w log
replies m w (Poll n ∷ log) = replies m w log
replies m w (TakeOut u n ∷ log) = replies m w log
replies m w (Got u v ∷ log) = with_reply (is_wire u w) (notice_of m u v) v (replies m w log)
replies m w (End u ∷ log) = replies m w log
replies m w (Bad u v ∷ log) = replies m w log

-- the reply of that number; the oldest has number 1
abbrev pub reply_in : ℕ → List Value → Option Value
reply_in n [] = None
reply_in n (v ∷ vs) = if n == length vs + 1 then Some v else reply_in n vs

-- the reply to the command of that number on Main
abbrev pub reply : ClientMode → List LogEntry → ℕ → Option Value
reply m log n = reply_in n (replies m Main log)

abbrev pub is_ok_text : Value → Bool
is_ok_text (Simple t) = bytes_eq t (codes "OK")
is_ok_text v = false

abbrev pub is_accepted : Option Value → Bool
is_accepted None = false
is_accepted (Some v) = is_ok_text v

-- the tracking command, the last of the handshake, was accepted
abbrev pub is_ready : ClientMode → List LogEntry → Bool
is_ready m log = is_accepted (reply m log (handshake_length m))

-- all of the handshake on Side was answered, its id among them
abbrev pub is_told : ClientMode → List LogEntry → Bool
is_told m log = nat_le (length (steps m Side)) (length (replies m Side log))

-- the number of CLIENT ID on Side
abbrev pub id_number : Proto → ℕ
id_number Two = 1
id_number Three = 2

abbrev pub id_in : Option Value → List ℕ
id_in (Some (Number i)) = signed_decimal i
id_in _ = []

-- the digits of the id that Side was told
abbrev pub told_id : ClientMode → List LogEntry → List ℕ
told_id m log = id_in (reply_in (id_number m.proto) (replies m Side log))

-- invalidations are to go to the connection of that id
abbrev pub redirect_words : List ℕ → List (List ℕ)
redirect_words id = codes "REDIRECT" ∷ id ∷ []

-- of two links the tracking command waits for Side
abbrev pub put_tracking : Shape → ClientMode → Bool → List ℕ → List (List (List ℕ))
put_tracking Single m told id = tracking m [] ∷ []
put_tracking Pair m true id = tracking m (redirect_words id) ∷ []
put_tracking Pair m false id = []

-- the command of a step, once it may be sent
abbrev pub put_step : ClientMode → Bool → List ℕ → HandshakeStep → List (List (List ℕ))
put_step m told id Hello = (codes "HELLO" ∷ codes "3" ∷ []) ∷ []
put_step m told id ClientId = (codes "CLIENT" ∷ codes "ID" ∷ []) ∷ []
put_step m told id Subscribe = (codes "SUBSCRIBE" ∷ channel ∷ []) ∷ []
put_step m told id Track = put_tracking m.shape m told id

-- the commands of the handshake that may be sent on a link after this log: all from the start, save
-- that of two links the tracking command waits for all replies on Side
abbrev pub handshake : ClientMode → Wire → List LogEntry → List (List (List ℕ))
handshake m w log = flat_map (put_step m (is_told m log) (told_id m log)) (steps m w)

-- an end of this link ends that one: of two, one of Side, before the client is ready, ends Main
abbrev pub ends_wire : Shape → Wire → Wire → Bool → Bool
ends_wire shape Main Main ready = true
ends_wire shape Main Side ready = false
ends_wire shape Side Side ready = true
ends_wire Single Side Main ready = false
ends_wire Pair Side Main ready = not ready

-- the link has ended
abbrev pub is_ended : ClientMode → Wire → List LogEntry → Bool
is_ended m w [] = false
is_ended m w (Ask q ∷ log) = is_ended m w log
is_ended m w (Send ws ∷ log) = is_ended m w log
is_ended m w (Poll n ∷ log) = is_ended m w log
is_ended m w (TakeOut u n ∷ log) = is_ended m w log
is_ended m w (Got u v ∷ log) = is_ended m w log
is_ended m w (End u ∷ log) = ends_wire m.shape u w (is_ready m log) || is_ended m w log
is_ended m w (Bad u v ∷ log) = ends_wire m.shape u w (is_ready m log) || is_ended m w log

abbrev pub is_broken_notice : Notice → Bool
is_broken_notice Broken = true
is_broken_notice Reply = false
is_broken_notice Keys = false
is_broken_notice All = false
is_broken_notice Other = false
is_broken_notice Malformed = false

-- a notice of a broken redirection has come
abbrev pub is_broken : ClientMode → List LogEntry → Bool
is_broken m [] = false
is_broken m (Ask q ∷ log) = is_broken m log
is_broken m (Send ws ∷ log) = is_broken m log
is_broken m (Poll n ∷ log) = is_broken m log
is_broken m (TakeOut w n ∷ log) = is_broken m log
is_broken m (Got w v ∷ log) = is_broken_notice (notice_of m w v) || is_broken m log
is_broken m (End w ∷ log) = is_broken m log
is_broken m (Bad w v ∷ log) = is_broken m log

-- the server invalidates what is read: from ready until a link ends or the redirection is broken
abbrev pub caching_on : ClientMode → List LogEntry → Bool
caching_on m log =
    is_ready m log && (not (is_ended m Main log || is_ended m Side log) && not (is_broken m log))

-- the server tells of the key: by prefixes, of those that start with one of them, or of every key
-- where there is none
abbrev pub covers : Caching → List ℕ → Bool
covers (Bcast []) key = true
covers (Bcast (p ∷ ps)) key = list_any (starts_with nat_eq key) (p ∷ ps)
covers Default key = true
covers OptIn key = true
covers OptOut key = true

-- and what is read of this key
abbrev pub caching_on_for : ClientMode → List LogEntry → List ℕ → Bool
caching_on_for m log key = caching_on m log && covers m.caching key
