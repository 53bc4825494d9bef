-- What a value that was read is to a client: a reply, or a push of some kind (the Redis client-side
-- caching reference).
use Rattle.std.specs.Prelude.{ℕ, List, [], ◌∷◌, Bool, true, false, if◌then◌else◌, codes}
use Rattle.std.specs.List.{list_any}
use Rattle.std.specs.Str.{bytes_eq}
use Rattle.resp_value.specs.Tree.{Tree, Trees, blob, null, null_array, array, end, more}
use Rattle.resp_value.specs.declared.value.Value.{Value}
use Rattle.resp_value.specs.declared.value.Value.TheVariants.{Array, Push}
use Rattle.resp_value.specs.declared.value.Proto.{Proto}
use Rattle.resp_value.specs.declared.value.Proto.TheVariants.{Two, Three}
use Rattle.shared_cache.specs.declared.log.Wire.{Wire}
use Rattle.shared_cache.specs.declared.log.Wire.TheVariants.{Main, Side}
use Rattle.shared_cache.specs.declared.log.ClientMode.{ClientMode}
use Rattle.shared_cache.specs.declared.notices.Notice.{Notice}
use Rattle.shared_cache.specs.declared.notices.Notice.TheVariants.{Reply, Keys, All, Broken, Other}
use Rattle.shared_cache.specs.declared.notices.Notice.TheVariants.{Malformed}

abbrev pub all_blobs : Trees → Bool
all_blobs end = true
all_blobs (more (blob b) ts) = all_blobs ts
all_blobs (more _ ts) = false

-- the keys of an invalidation, or a null for all
abbrev pub payload : Tree → Notice
payload (array ts) = if all_blobs ts then Keys else Malformed
payload null = All
payload null_array = All
payload _ = Malformed

abbrev pub invalidation : List Tree → Notice
invalidation (t ∷ []) = payload t
invalidation _ = Malformed

abbrev pub named_push : List ℕ → List Tree → Notice
named_push name rest =
    if bytes_eq name (codes "invalidate") then invalidation rest else
    if bytes_eq name (codes "tracking-redir-broken") then Broken else Other

abbrev pub push : List Tree → Notice
push (blob name ∷ rest) = named_push name rest
push _ = Other

abbrev pub kind_of : Value → Notice
kind_of (Push ts) = push ts
kind_of v = Reply

-- the channel that carries invalidations to a connection of the second protocol
abbrev pub channel : List ℕ
channel = codes "__redis__:invalidate"

abbrev pub on_channel : List Tree → Notice
on_channel (blob name ∷ t ∷ []) = if bytes_eq name channel then payload t else Malformed
on_channel _ = Malformed

abbrev pub named_message : List ℕ → List Tree → Notice
named_message name rest = if bytes_eq name (codes "message") then on_channel rest else Reply

abbrev pub message : List Tree → Notice
message (blob name ∷ rest) = named_message name rest
message _ = Reply

-- on an invalidation link of the second protocol, where a message is an array
abbrev pub listened_kind : Value → Notice
listened_kind (Array ts) = message ts
listened_kind v = kind_of v

abbrev pub side_kind : Proto → Value → Notice
side_kind Two v = listened_kind v
side_kind Three v = kind_of v

-- what a value is, on this link of a client of this mode
abbrev pub notice_of : ClientMode → Wire → Value → Notice
notice_of m Main v = kind_of v
notice_of m Side v = side_kind m.proto v

abbrev pub is_reply : Notice → Bool
is_reply Reply = true
is_reply Keys = false
is_reply All = false
is_reply Broken = false
is_reply Other = false
is_reply Malformed = false

abbrev pub blobs_in : Trees → List (List ℕ)
blobs_in end = []
blobs_in (more (blob b) ts) = b ∷ blobs_in ts
blobs_in (more _ ts) = blobs_in ts

abbrev pub keys_in : List Tree → List (List ℕ)
keys_in (name ∷ array ts ∷ []) = blobs_in ts
keys_in _ = []

abbrev pub keys_on_channel : List Tree → List (List ℕ)
keys_on_channel (name ∷ on ∷ array ts ∷ []) = blobs_in ts
keys_on_channel _ = []

-- the keys that an invalidation names
abbrev pub named_keys : Value → List (List ℕ)
named_keys (Push ts) = keys_in ts
named_keys (Array ts) = keys_on_channel ts
named_keys v = []

abbrev pub invalidates_as : Notice → List (List ℕ) → List ℕ → Bool
invalidates_as Reply keys key = false
invalidates_as Keys keys key = list_any (bytes_eq key) keys
invalidates_as All keys key = true
invalidates_as Broken keys key = true
invalidates_as Other keys key = false
invalidates_as Malformed keys key = false

-- after this value nothing that was read of the key before may be held
abbrev pub invalidates : ClientMode → Wire → Value → List ℕ → Bool
invalidates m w v key = invalidates_as (notice_of m w v) (named_keys v) key

-- a well-formed push
abbrev pub IsPush : Notice → Type 0
IsPush Reply = ⊥
IsPush Malformed = ⊥
IsPush Keys = Unit {0}
IsPush All = Unit {0}
IsPush Broken = Unit {0}
IsPush Other = Unit {0}
