-- The requests of one read run part by part: behind each part all that waits for the connection is
-- taken and written, and then those run that were held back.
use Rattle.std.specs.Prelude.{◌≡◌, ◌<◌, ◌+◌, ◌++◌, ℕ, List, [], ◌∷◌, length, Some, Err}
use Rattle.std.specs.List.{All}
use Rattle.std.specs.Io.KnownBytes.{Keeps}
use Rattle.resp_value.specs.Lists.{IsPrefix}
use Rattle.turn_lock.specs.Own.{Grows}
use Rattle.shared_book.specs.Batches.{RunsEach}
use Rattle.shared_book.specs.Turns.{Place, Turn, limits_of}
use Rattle.conn_worker.specs.declared.report.Ended.{Ended}
use Rattle.conn_worker.specs.Visits.{IsEnd, IsWork, runs_in, gave, Standing, Delivers}
use Rattle.conn_worker.specs.Visits.{DeliversPart, DeliveryCounts}

-- requests, each a list of words
abbrev pub Requests : Type 0
Requests = List (List (List ℕ))

abbrev pub joined : List Requests → Requests
joined [] = []
joined (part ∷ parts) = part ++ joined parts

-- all that waits was taken and written, and the link was not read
pub record Writes (id : ℕ) (old new : Standing) : Type 0 where
  pub delivers : Delivers id old.contents new.contents old.place new.place
  pub unread : Keeps old.left new.left
  pub counts : new.counts ≡ old.counts

-- these requests ran at this moment, one after another, and then all that waits was written
pub record Part (now id : ℕ) (requests : Requests) (old new : Standing) : Type 0 where
  pub middle : Place
  pub runs : RunsEach id now requests old.place middle
  pub writes : Writes id (record old { place = middle }) new

-- these parts, one after another
abbrev pub RunsParts : ℕ → ℕ → List Requests → Standing → Standing → Type 0
RunsParts now id [] old new = new ≡ old
RunsParts now id (part ∷ parts) old new =
    (middle : Standing) × Part now id part old middle × RunsParts now id parts middle new

-- the requests ran in one part or more
pub record InParts (now id : ℕ) (requests : Requests) (old new : Standing) : Type 0 where
  pub parts : List Requests
  pub some : 0 < length parts
  pub whole : joined parts ≡ requests
  pub runs : RunsParts now id parts old new

-- the first of the requests ran, and then a turn was refused
pub record RunsSome (now : ℕ) (cause : Ended) (id : ℕ) (requests : Requests) (old new : Place)
    : Type 0 where
  pub turns : List Turn
  pub grows : Grows old new turns
  pub work : All (IsWork id (Some now)) turns
  pub gave_none : gave (limits_of old) turns ≡ []
  pub runs : IsPrefix (runs_in turns) requests
  pub cause_is : IsEnd cause id turns new

-- So many of the requests ran, in parts, and then the service ended.
pub data Breaks (now : ℕ) (cause : Ended) (id : ℕ) (requests : Requests) (ran : ℕ)
    (old new : Standing) : Type 0 where
  -- a turn for those that were held back was refused
  Refused : (parts : List Requests) (rest : Requests) (middle : Standing) (last : Place)
      → requests ≡ joined parts ++ rest → (0 < length parts → 0 < length rest)
      → RunsParts now id parts old middle
      → (some : RunsSome now cause id rest middle.place last)
      → ran ≡ length (joined parts) + length (runs_in some.turns)
      → new ≡ record middle { place = last } → Breaks now cause id requests ran old new
  -- what waits was not all taken and written
  Unwritten : (parts : List Requests) (part rest : Requests) (middle : Standing) (last : Place)
      → requests ≡ joined parts ++ (part ++ rest)
      → (0 < length parts → 0 < length (part ++ rest)) → RunsParts now id parts old middle
      → RunsEach id now part middle.place last
      → ran ≡ length (joined parts) + length part
      → DeliversPart cause id middle.contents new.contents last new.place
      → DeliveryCounts (Err cause) middle.counts new.counts → Keeps middle.left new.left
      → Breaks now cause id requests ran old new

-- the same, by how many requests of the connection ran before and with them
abbrev pub BreaksAt : ℕ → Ended → ℕ → Requests → ℕ → ℕ → Standing → Standing → Type 0
BreaksAt now cause id requests before count old new =
    (ran : ℕ) × (count ≡ before + ran) × Breaks now cause id requests ran old new
