-- A client as its program holds it, and what its calls do: turns of the client, on the values that
-- the bytes of the server have.
use Rattle.std.specs.Prelude.{◌≡◌, ◌∷◌, ℕ, List, [], Bool, true, false, take, Option, Some, None}
use Rattle.std.specs.Prelude.{Result, Ok, Err, IsOk, IsErr, if◌then◌else◌}
use Rattle.resp_value.specs.declared.octets.NoMemory.{NoMemory}
use Rattle.resp_value.specs.declared.value.Value.{Value}
use Rattle.resp_value.specs.Tree.{Tree}
use Rattle.resp_value.specs.ValueTree.{value_of}
use Rattle.resp_stream.specs.declared.fault.StreamFault.{StreamFault}
use Rattle.resp_stream.specs.declared.fault.StreamFault.TheVariants as stream
use Rattle.resp_stream.specs.Parse.{Batch, parse_values}
use Rattle.resp_stream.specs.Stream.{Stream, begun, fed}
use Rattle.shared_cache.specs.declared.log.Wire.TheVariants.{Main}
use Rattle.shared_cache.specs.declared.log.ClientMode.{ClientMode}
use Rattle.shared_cache.specs.declared.log.LogEntry.{LogEntry}
use Rattle.shared_cache.specs.declared.log.ClientCall.{ClientCall}
use Rattle.shared_cache.specs.declared.log.ClientCall.TheVariants as call
use Rattle.shared_cache.specs.declared.log.ClientReply.{ClientReply}
use Rattle.shared_cache.specs.declared.log.ClientReply.TheVariants.{Hit, Sent, NotYet, Answer}
use Rattle.shared_cache.specs.declared.log.ClientReply.TheVariants.{Bytes, Quiet, Noted, Refused}
use Rattle.shared_cache.specs.declared.log.ClientRefusal.{ClientRefusal}
use Rattle.shared_cache.specs.declared.log.ClientRefusal.TheVariants as refusal
use Rattle.shared_cache.specs.declared.entry.CacheEntry.{CacheEntry}
use Rattle.shared_cache.specs.ClientFields.{Client}
use Rattle.shared_cache.specs.Held.{Setup, Words, held, held_for}
use Rattle.shared_cache.specs.Log.{is_ended}
use Rattle.shared_cache.specs.Steps.{ClientStep, client_step}

-- its setup, its log with the newest entry first, and what it was fed
pub record Library : Type 0 where
  pub setup : Setup
  pub past : List LogEntry
  pub reader : Stream

-- it has done nothing, not even its set-up
-- and its log ends at the greatest number alone
abbrev pub fresh : ClientMode → ℕ → Library
fresh mode capacity = record {
  setup = record { mode = mode; capacity = capacity; log_max = 18446744073709551615 };
  past = [];
  reader = begun;
}

abbrev pub with_log : Client → List LogEntry → Client
with_log c log = record { setup = c.setup; past = log }

abbrev pub has_ended : Library → Bool
has_ended c = is_ended c.setup.mode Main c.past

-- ---- a call that is one turn

pub record Plays (c : ClientCall) (old : Library) (reply : ClientReply) (new : Library) : Type 0
  where
    pub setup : new.setup ≡ old.setup
    pub reader : new.reader ≡ old.reader
    pub step : ClientStep old.setup old.past c reply new.past

-- a hit answers what is held of the query
abbrev pub HitIsHeld : Library → Words → ClientReply → Type 0
HitIsHeld c q (Hit v n) =
    (h : CacheEntry) × (held_for q (held c.setup c.past) ≡ Some h) × (v ≡ h.value) × (n ≡ h.number)
HitIsHeld c q (Sent n) = Unit {0}
HitIsHeld c q NotYet = Unit {0}
HitIsHeld c q (Answer v) = Unit {0}
HitIsHeld c q (Bytes b) = Unit {0}
HitIsHeld c q Quiet = Unit {0}
HitIsHeld c q Noted = Unit {0}
HitIsHeld c q (Refused r) = Unit {0}

-- ---- bytes of the server

-- the link ends, if it has not
abbrev pub closed : Setup → List LogEntry → List LogEntry
closed s log = (client_step s log (call.End Main)).past

-- the client at the end of its link
abbrev pub ended : Library → Library
ended c = record { setup = c.setup; past = closed c.setup c.past; reader = c.reader }

abbrev pub is_full_refusal : ClientRefusal → Bool
is_full_refusal (refusal.LogFull n) = true
is_full_refusal r = false

abbrev pub is_full : ClientReply → Bool
is_full (Refused r) = is_full_refusal r
is_full reply = false

-- a value is got; where the log has no room for it the link ends
unfoldable pub got : Setup → Value → List LogEntry → List LogEntry
got s v log =
    let t = client_step s log (call.Got Main v) in
    if is_full t.reply then closed s t.past else t.past

unfoldable pub got_all : Setup → List Tree → List LogEntry → List LogEntry
got_all s [] log = log
got_all s (t ∷ ts) log = got_all s ts (got s (value_of t) log)

-- a fault of the stream ends the link
abbrev pub stopped : Setup → Option StreamFault → List LogEntry → List LogEntry
stopped s None log = log
stopped s (Some f) log = closed s log

-- each value of a batch is got in turn, and the reader goes on behind them
unfoldable pub read_all : Library → Batch Tree → Library
read_all c p = record {
  setup = c.setup;
  past = stopped c.setup p.fault (got_all c.setup p.items c.past);
  reader = p.stream;
}

-- what the server sent next; behind the end of the link it is passed over
unfoldable pub feed : Library → List ℕ → Library
feed c bytes = if has_ended c then c else read_all c (parse_values (fed c.reader bytes))

-- memory ran out: so many values were got, and the link ended
pub record CutShort (old : Library) (values : List Tree) (new : Library) : Type 0 where
  pub count : ℕ
  pub setup : new.setup ≡ old.setup
  pub past : new.past ≡ closed old.setup (got_all old.setup (take count values) old.past)

abbrev pub ReadGives : Library → Batch Tree → Result (Unit {0}) NoMemory → Library → Type 0
ReadGives old p (Ok u) new = new ≡ read_all old p
ReadGives old p (Err e) new = CutShort old p.items new

abbrev pub FeedGives : Library → List ℕ → Result (Unit {0}) NoMemory → Library → Type 0
FeedGives old bytes (Ok u) new = new ≡ feed old bytes
FeedGives old bytes (Err e) new = CutShort old (parse_values (fed old.reader bytes)).items new

-- want of memory is an error, and a fault of the bytes is none
abbrev pub IsToldBy : StreamFault → Result (Unit {0}) NoMemory → Type 0
IsToldBy stream.NoMemory result = IsErr result
IsToldBy f result = IsOk result
