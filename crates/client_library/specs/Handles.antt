-- A client as a program of another language holds it: what its last call told stands beside it.
use Rattle.std.specs.Prelude.{◌≡◌, ◌++◌, ◌⊎◌, ℕ, List, [], length, drop, Option, Some, None}
use Rattle.std.specs.Prelude.{if◌then◌else◌, nat_le}
use Rattle.resp_value.specs.declared.value.Proto.TheVariants.{Three}
use Rattle.resp_value.specs.Spelling.{spelling}
use Rattle.resp_value.specs.ValueTree.{tree_of}
use Rattle.resp_stream.specs.Parse.{parse_values}
use Rattle.resp_stream.specs.Stream.{fed}
use Rattle.command_words.specs.Queries.{query_of}
use Rattle.shared_cache.specs.declared.log.ClientCall.TheVariants as call
use Rattle.shared_cache.specs.declared.log.Wire.TheVariants.{Main}
use Rattle.shared_cache.specs.declared.log.ClientReply.{ClientReply}
use Rattle.shared_cache.specs.declared.log.ClientReply.TheVariants.{Hit, Sent, NotYet, Answer}
use Rattle.shared_cache.specs.declared.log.ClientReply.TheVariants.{Bytes, Quiet, Noted, Refused}
use Rattle.shared_cache.specs.declared.log.ClientRefusal.{ClientRefusal}
use Rattle.shared_cache.specs.declared.log.ClientRefusal.TheVariants as refusal
use Rattle.shared_cache.specs.Held.{Words}
use Rattle.client_library.specs.Library.{CutShort, Library, ended, feed}
use Rattle.client_library.specs.Guarded.{AsksGuarded, Counts, Guarded, SendsGuarded, Turns}
use Rattle.client_library.specs.Guarded.{at_time, with_client}
use Rattle.client_library.specs.Requests.{first_request}

-- the client, and the bytes and the number that its last call told
pub record Handle : Type 0 where
  pub client : Guarded
  pub answer : List ℕ
  pub number : ℕ

abbrev pub silent : Guarded → Handle
silent c = record { client = c; answer = []; number = 0 }

-- the client at the end of its link
abbrev pub lost : Guarded → Guarded
lost c = with_client c (ended c.client)

-- ---- what a call tells

abbrev pub refusal_status : ClientRefusal → ℕ
refusal_status (refusal.Down w) = 7
refusal_status (refusal.Unexpected w) = 7
refusal_status (refusal.BadPush w) = 7
refusal_status refusal.NoMemory = 12
refusal_status (refusal.LogFull n) = 11
refusal_status (refusal.SetupRefused w) = 7
refusal_status refusal.NotReady = 8
refusal_status refusal.Control = 9
refusal_status (refusal.NoNumber n) = 10
refusal_status refusal.Worn = 7

abbrev pub status_of : ClientReply → ℕ
status_of Noted = 0
status_of (Hit v n) = 1
status_of (Sent n) = 2
status_of NotYet = 3
status_of (Answer v) = 4
status_of (Bytes b) = 5
status_of Quiet = 6
status_of (Refused r) = refusal_status r

abbrev pub number_of : ClientReply → ℕ
number_of (Hit v n) = n
number_of (Sent n) = n
number_of reply = 0

-- a value by its spelling
abbrev pub answer_of : ClientReply → List ℕ
answer_of (Hit v n) = spelling Three (tree_of v)
answer_of (Answer v) = spelling Three (tree_of v)
answer_of (Bytes b) = b
answer_of reply = []

-- what a reply of the client is told by, or memory ran out for its bytes, and the link ended
abbrev pub Tells : ClientReply → Guarded → ℕ → Handle → Type 0
Tells reply c status new =
    ((status ≡ status_of reply)
    × (new ≡ record { client = c; answer = answer_of reply; number = number_of reply }))
    ⊎ ((status ≡ 12) × (new ≡ silent (lost c)))

-- what is done to the client, and what it tells
pub record Called (Does : Guarded → ClientReply → Guarded → Type 0) (old : Handle) (status : ℕ)
    (new : Handle) : Type 0 where
  pub reply : ClientReply
  pub between : Guarded
  pub does : Does old.client reply between
  pub tells : Tells reply between status new

-- nothing was done
abbrev pub Passed : ℕ → Handle → ℕ → Handle → Type 0
Passed wanted old status new = (status ≡ wanted) × (new ≡ silent old.client)

-- the count of hits has the name 0, that of misses 1; of the others nothing is said
abbrev pub IsCount : ℕ → Counts → ℕ → Type 0
IsCount name c told = (name ≡ 0 → told ≡ c.hits) × (name ≡ 1 → told ≡ c.misses)

-- ---- the calls

abbrev pub AsksQuery : Option Words → Handle → ℕ → Handle → Type 0
AsksQuery None old status new = Passed 14 old status new
AsksQuery (Some q) old status new = Called (AsksGuarded q) old status new

abbrev pub AsksWords : Option Words → Handle → ℕ → Handle → Type 0
AsksWords None old status new = Passed 13 old status new
AsksWords (Some ws) old status new = AsksQuery (query_of ws) old status new

-- the query that the bytes write is asked, or memory ran out for its words
abbrev pub Asks : List ℕ → Handle → ℕ → Handle → Type 0
Asks request old status new =
    AsksWords (first_request request) old status new ⊎ Passed 12 old status new

abbrev pub SendsWords : Option Words → Handle → ℕ → Handle → Type 0
SendsWords None old status new = Passed 13 old status new
SendsWords (Some ws) old status new = Called (SendsGuarded ws) old status new

-- the command that the bytes write is sent, or memory ran out for its words
abbrev pub Sends : List ℕ → Handle → ℕ → Handle → Type 0
Sends request old status new =
    SendsWords (first_request request) old status new ⊎ Passed 12 old status new

abbrev pub Polls : ℕ → Handle → ℕ → Handle → Type 0
Polls number old status new = Called (Turns (call.Poll number)) old status new

abbrev pub TakesOut : ℕ → Handle → ℕ → Handle → Type 0
TakesOut most old status new = Called (Turns (call.TakeOut Main most)) old status new

-- the time of the asks that follow
abbrev pub TellsTime : ℕ → Handle → ℕ → Handle → Type 0
TellsTime now old status new = (status ≡ 0) × (new ≡ silent (at_time now old.client))

abbrev pub Ends : Handle → ℕ → Handle → Type 0
Ends old status new = (status ≡ 0) × (new ≡ silent (lost old.client))

-- what the server sent is got, or memory ran out and the link ended
abbrev pub Feeds : List ℕ → Handle → ℕ → Handle → Type 0
Feeds bytes old status new =
    ((status ≡ 0) × (new ≡ silent (with_client old.client (feed old.client.client bytes))))
    ⊎ ((status ≡ 12)
    × ((c : Library)
    × CutShort old.client.client (parse_values (fed old.client.client.reader bytes)).items c
    × (new ≡ silent (with_client old.client c))))

-- the answer is copied where there is room for it; in any case its size is told
abbrev pub copied : List ℕ → List ℕ → List ℕ
copied answer room =
    if nat_le (length answer) (length room) then answer ++ drop (length answer) room else room
