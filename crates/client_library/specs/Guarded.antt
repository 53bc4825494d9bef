-- A client that refuses commands by their first word, lets go of what an unknown command may write,
-- and gives no hit that is older than its bound.
use Rattle.std.specs.Prelude.{◌≡◌, ◌+◌, ◌-◌, ◌⊎◌, ◌∷◌, ℕ, List, [], Bool, true, false, Option}
use Rattle.std.specs.Prelude.{Some, None, nat_le, max, min, not, Result}
use Rattle.resp_value.specs.declared.octets.NoMemory.{NoMemory}
use Rattle.std.specs.BTreeMap.{insert_entry, is_at}
use Rattle.std.specs.Map.{lookup}
use Rattle.std.specs.Ordering.{nat_cmp}
use Rattle.command_words.specs.Queries.{key_of}
use Rattle.shared_cache.specs.declared.log.ClientMode.{ClientMode}
use Rattle.shared_cache.specs.declared.log.ClientCall.{ClientCall}
use Rattle.shared_cache.specs.declared.log.ClientCall.TheVariants as call
use Rattle.shared_cache.specs.declared.log.Wire.TheVariants.{Main}
use Rattle.shared_cache.specs.declared.log.ClientReply.{ClientReply}
use Rattle.shared_cache.specs.declared.log.ClientReply.TheVariants.{Hit, Sent, NotYet, Answer}
use Rattle.shared_cache.specs.declared.log.ClientReply.TheVariants.{Bytes, Quiet, Noted, Refused}
use Rattle.shared_cache.specs.declared.log.ClientRefusal.{ClientRefusal}
use Rattle.shared_cache.specs.declared.log.ClientRefusal.TheVariants as refusal
use Rattle.shared_cache.specs.Held.{Words}
use Rattle.client_library.specs.Library.{FeedGives, Library, Plays, fresh}
use Rattle.client_library.specs.Refused.{refuses}
use Rattle.client_library.specs.Unknown.{AreGone, invalidation, is_unknown}

-- how many asks were answered from the cache, and how many sent a fetch
pub record Counts : Type 0 where
  pub hits : ℕ
  pub misses : ℕ

-- the client; its bound, if it has one; the latest time that its program told; when the fetch of a
-- number was sent, by those times; and what was counted
pub record Guarded : Type 0 where
  pub client : Library
  pub max_age : Option ℕ
  pub clock : ℕ
  pub times : List (ℕ × ℕ)
  pub counts : Counts

abbrev pub begun_with : ClientMode → ℕ → Option ℕ → Guarded
begun_with mode capacity max_age = record {
  client = fresh mode capacity;
  max_age = max_age;
  clock = 0;
  times = [];
  counts = record { hits = 0; misses = 0 };
}

abbrev pub with_client : Guarded → Library → Guarded
with_client g c = record {
  client = c;
  max_age = g.max_age;
  clock = g.clock;
  times = g.times;
  counts = g.counts;
}

-- a time before the latest counts as the latest
abbrev pub at_time : ℕ → Guarded → Guarded
at_time now g = record {
  client = g.client;
  max_age = g.max_age;
  clock = max g.clock now;
  times = g.times;
  counts = g.counts;
}

-- nothing but the client has changed
abbrev pub IsElseSame : Guarded → Guarded → Type 0
IsElseSame old new = new ≡ with_client old new.client

-- one turn
abbrev pub Turns : ClientCall → Guarded → ClientReply → Guarded → Type 0
Turns c old reply new = Plays c old.client reply new.client × IsElseSame old new

-- memory ran out before anything was done
abbrev pub RanOut : Guarded → ClientReply → Guarded → Type 0
RanOut old reply new = (reply ≡ Refused refusal.NoMemory) × (new ≡ old)

-- the invalidation of these keys is refused, or memory ran out for it
abbrev pub DoesNotLetGo : Words → Guarded → ClientReply → Guarded → Type 0
DoesNotLetGo keys old reply new =
    ((r : ClientRefusal) × (reply ≡ Refused r)
    × Turns (call.Got Main (invalidation keys)) old reply new)
    ⊎ RanOut old reply new

-- an invalidation of these keys is got, and then comes what is next; or it is refused, or memory
-- ran out for it, and nothing comes
abbrev pub LetsGoThen :
    Words → (Guarded → ClientReply → Guarded → Type 0) → Guarded → ClientReply → Guarded → Type 0
LetsGoThen keys Next old reply new =
    ((between : Guarded) × Turns (call.Got Main (invalidation keys)) old Noted between
    × Next between reply new)
    ⊎ DoesNotLetGo keys old reply new

abbrev pub IsNotedOrRefused : ClientReply → Type 0
IsNotedOrRefused Noted = Unit {0}
IsNotedOrRefused (Refused r) = Unit {0}
IsNotedOrRefused (Hit v n) = ⊥
IsNotedOrRefused (Sent n) = ⊥
IsNotedOrRefused NotYet = ⊥
IsNotedOrRefused (Answer v) = ⊥
IsNotedOrRefused (Bytes b) = ⊥
IsNotedOrRefused Quiet = ⊥

-- ---- a command

abbrev pub SendsOn : Bool → Words → Guarded → ClientReply → Guarded → Type 0
SendsOn true ws old reply new = LetsGoThen ws (Turns (call.Send ws)) old reply new
SendsOn false ws old reply new = Turns (call.Send ws) old reply new

abbrev pub SendsUnless : Bool → Words → Guarded → ClientReply → Guarded → Type 0
SendsUnless true ws old reply new = (reply ≡ Refused refusal.Control) × (new ≡ old)
SendsUnless false ws old reply new = SendsOn (is_unknown ws) ws old reply new ⊎ RanOut old reply new

-- it is refused by its first word, or sent; what an unknown one may write goes before
abbrev pub SendsGuarded : Words → Guarded → ClientReply → Guarded → Type 0
SendsGuarded ws old reply new = SendsUnless (refuses ws) ws old reply new

-- an unknown command that was sent: nothing that was read of any of its words is held
abbrev pub LeavesNone : Words → ClientReply → Guarded → Type 0
LeavesNone ws (Sent n) new = is_unknown ws ≡ true → AreGone ws new.client
LeavesNone ws reply new = Unit {0}

-- ---- a query

abbrev pub time_of : ℕ → List (ℕ × ℕ) → Option ℕ
time_of n times = lookup (is_at (nat_cmp n)) times

abbrev pub is_within : ℕ → ℕ → Option ℕ → Bool
is_within age now None = false
is_within age now (Some t) = nat_le (now - t) age

-- its fetch was sent no longer ago than the bound says
abbrev pub is_young : ℕ → Guarded → ℕ → Bool
is_young age g n = is_within age g.clock (time_of n g.times)

abbrev pub is_stale : ℕ → Guarded → ClientReply → Bool
is_stale age g (Hit v n) = not (is_young age g n)
is_stale age g reply = false

abbrev pub with_time : ℕ → Guarded → Guarded
with_time n g = record {
  client = g.client;
  max_age = g.max_age;
  clock = g.clock;
  times = insert_entry nat_cmp g.times n g.clock;
  counts = g.counts;
}

abbrev pub behind_first : List (ℕ × ℕ) → List (ℕ × ℕ)
behind_first [] = []
behind_first (t ∷ ts) = ts

-- nothing has changed, or the time of the oldest fetch is gone: what it brought counts as too old
abbrev pub IsShortened : Guarded → Guarded → Type 0
IsShortened old new = (new ≡ old) ⊎ (new ≡ record {
  client = old.client;
  max_age = old.max_age;
  clock = old.clock;
  times = behind_first old.times;
  counts = old.counts;
})

-- the time of a fetch that is sent is kept, or memory ran out for it: what it brings is then no hit
abbrev pub KeepsTime : ClientReply → Guarded → Guarded → Type 0
KeepsTime (Sent n) old new = IsShortened (with_time n old) new ⊎ (new ≡ old)
KeepsTime reply old new = new ≡ old

abbrev pub Fetches : Words → Guarded → ClientReply → Guarded → Type 0
Fetches q old reply new =
    Plays (call.Ask q) old.client reply new.client
    × KeepsTime reply (with_client old new.client) new

abbrev pub Settles : Bool → Words → ClientReply → Guarded → ClientReply → Guarded → Type 0
Settles false q told between reply new = (reply ≡ told) × KeepsTime told between new
Settles true q told between reply new = LetsGoThen (key_of q ∷ []) (Fetches q) between reply new

-- what is too old goes, and is fetched anew
abbrev pub AsksWithin : ℕ → Words → Guarded → ClientReply → Guarded → Type 0
AsksWithin age q old reply new =
    ((told : ClientReply) × (between : Guarded) × Turns (call.Ask q) old told between
    × Settles (is_stale age between told) q told between reply new)
    ⊎ RanOut old reply new

abbrev pub AsksBound : Option ℕ → Words → Guarded → ClientReply → Guarded → Type 0
AsksBound None q old reply new = Turns (call.Ask q) old reply new
AsksBound (Some age) q old reply new = AsksWithin age q old reply new

-- one more, up to the greatest number
abbrev pub one_more : ℕ → ℕ
one_more n = min (n + 1) 18446744073709551615

-- an answer from the cache is a hit, and a fetch that is sent a miss
abbrev pub counted : ClientReply → Counts → Counts
counted (Hit v n) c = record { hits = one_more c.hits; misses = c.misses }
counted (Sent n) c = record { hits = c.hits; misses = one_more c.misses }
counted reply c = c

abbrev pub counting : ClientReply → Guarded → Guarded
counting reply g = record {
  client = g.client;
  max_age = g.max_age;
  clock = g.clock;
  times = g.times;
  counts = counted reply g.counts;
}

-- what is answered is counted, so what is too old is a miss
abbrev pub AsksGuarded : Words → Guarded → ClientReply → Guarded → Type 0
AsksGuarded q old reply new =
    (between : Guarded) × AsksBound old.max_age q old reply between
    × (new ≡ counting reply between)

abbrev pub IsYoungFor : Option ℕ → Guarded → ℕ → Type 0
IsYoungFor None g n = Unit {0}
IsYoungFor (Some age) g n = is_young age g n ≡ true

-- no hit is older than the bound, by the times that the program told
abbrev pub HitIsYoung : Guarded → ClientReply → Type 0
HitIsYoung g (Hit v n) = IsYoungFor g.max_age g n
HitIsYoung g reply = Unit {0}

abbrev pub IsYoungHit : ℕ → Guarded → ClientReply → Type 0
IsYoungHit age g (Hit v n) = is_young age g n ≡ true
IsYoungHit age g reply = Unit {0}

abbrev pub IsMiss : ClientReply → Type 0
IsMiss (Hit v n) = ⊥
IsMiss reply = Unit {0}

-- ---- bytes of the server

abbrev pub FeedsTo : Guarded → List ℕ → Result (Unit {0}) NoMemory → Guarded → Type 0
FeedsTo old bytes result new =
    FeedGives old.client bytes result new.client × IsElseSame old new
