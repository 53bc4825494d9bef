-- The laws that carry currency, for one fetch that is open: those of the client's log, those of the
-- history, and what the handshake has settled.
use Rattle.std.specs.Prelude.{◌≡◌, ◌<◌, ◌≤◌, ◌⊎◌, ◌++◌, ℕ, suc, List, ◌∷◌, length, Bool}
use Rattle.std.specs.Prelude.{Some, true, false, slice_get}
use Rattle.wire_currency.specs.Traffic.{In, Traffic, IsPrefix, replies, replies_sent}

-- A fetch of a query: the wire that it goes on, its command's place there, and the wires whose end
-- ends it. Of its key: which values void it, which commands write or name it. What a value shows;
-- and of the history, after so many entries: whether the fetch's connection is told of the key, and
-- the answer as the client's protocol carries it.
pub record Fetch (Wire Words Value Answer : Type 0) : Type 0 where
  pub home : Wire
  pub place : ℕ
  pub query : Words
  pub watched : List Wire
  pub voids : Wire → Value → Bool
  pub writes : Words → Bool
  pub names : Words → Bool
  pub shown : Value → Answer
  pub is_told : ℕ → Bool
  pub answer : ℕ → Answer

-- ---- the log

module _ {Wire Log Words Value Message Answer : Type 0}
    (x : Traffic Wire Log Words Value Message) (f : Fetch Wire Words Value Answer) where
  -- of a legal log alone, for a fetch that is open in it
  pub record LogLaws (log : List Log) : Type 0 where
    pub home_is : In f.home x.wires
    pub watched_in : (w : Wire) → In w f.watched → In w x.wires
    pub data_in : (w : Wire) → In w x.data_wires → In w x.wires
    -- where one wire is alone there is no other, and its end ends the fetch
    pub alone : x.is_alone ≡ true → (w : Wire) → In w x.wires → w ≡ f.home
    pub home_watched : x.is_alone ≡ true → In f.home f.watched
    -- a watched wire is not over
    pub open_wires : (w : Wire) → In w f.watched → x.over w log ≡ false
    pub replies_counted :
        (w : Wire) → In w x.data_wires → x.replied w log ≡ length (replies x w log)
    -- the fetch was sent by this entry
    pub sooner : List Log
    pub ask : Log
    pub later : List Log
    pub log_is : log ≡ later ++ ask ∷ sooner
    pub not_yet_sent : length (x.commands f.home sooner) ≤ f.place
    -- the command at its place is its query
    pub place_is_query : slice_get (x.commands f.home log) f.place ≡ Some f.query
    -- what had been got when it was sent is the first of what was got
    pub gots_grow :
        (w : Wire) → In w x.wires → IsPrefix (x.gots w (ask ∷ sooner)) (x.gots w log)
    -- nothing that was got since voids the key, on any wire
    pub nothing_got :
        (w : Wire) → In w x.wires → (i : ℕ) (v : Value) → slice_get (x.gots w log) i ≡ Some v
        → (i < length (x.gots w (ask ∷ sooner))) ⊎ (f.voids w v ≡ false)
    -- no command behind the fetch, on its wire, writes the key
    pub no_later_write :
        (j : ℕ) (ws : Words) → f.place < j → slice_get (x.commands f.home log) j ≡ Some ws
        → f.writes ws ≡ false
    -- on more wires than one, no reply was got since to a command that names the key and stands
    -- behind the fetch or on another wire
    pub no_later_reply :
        x.is_alone ≡ false → (w : Wire) → In w x.data_wires → (j : ℕ) (ws : Words)
        → j < length (replies x w log) → slice_get (x.commands w log) j ≡ Some ws
        → f.names ws ≡ true
        → (j < length (replies x w (ask ∷ sooner))) ⊎ ((w ≡ f.home) × (j ≤ f.place))

-- ---- the history

module _ {Wire Log Words Value Message Answer : Type 0} (IsGot : Value → Message → Type 0)
    (x : Traffic Wire Log Words Value Message) (f : Fetch Wire Words Value Answer) where
  -- a message stands there at this entry that voids the key when it is got
  pub record ToldOn (w : Wire) (r : ℕ) : Type 0 where
    pub place : ℕ
    pub sending : ℕ × Message
    pub there : slice_get (x.sent w) place ≡ Some sending
    pub number : sending.0 ≡ r
    pub voiding : (v : Value) → IsGot v sending.1 → f.voids w v ≡ true

  -- on one of the watched wires
  pub record Lands (r : ℕ) : Type 0 where
    pub wire : Wire
    pub watched : In wire f.watched
    pub told : ToldOn wire r

  -- at this entry the fetch's connection itself ran a command that writes the key
  pub record Excused (r : ℕ) : Type 0 where
    pub place : ℕ
    pub words : Words
    pub entry : slice_get (x.entries f.home) place ≡ Some r
    pub there : slice_get (x.runs f.home) place ≡ Some words
    pub wrote : f.writes words ≡ true

  abbrev pub Lives : ℕ → Type 0
  Lives r = (w : Wire) → In w f.watched → x.has_ended w r ≡ false

  -- Of a legal history alone, for a fetch that ran at an entry: where, after an entry of that
  -- number, the modes of the client's connections are as it asked, and where the read of an entry
  -- is one that its connection's tracking remembers.
  pub record EntryLaws (AsAsked Remembered : ℕ → Type 0) (at : ℕ) : Type 0 where
    pub read_replies :
        slice_get (x.entries f.home) f.place ≡ Some at
        → slice_get (x.runs f.home) f.place ≡ Some f.query → Remembered at → AsAsked at
        → (s : ℕ × Message) (v : Value) → slice_get (replies_sent x f.home) f.place ≡ Some s
        → IsGot v s.1 → f.shown v ≡ f.answer at
    -- the read is told of from its entry on, or told at it
    pub read_is_owed_or_told :
        slice_get (x.entries f.home) f.place ≡ Some at
        → slice_get (x.runs f.home) f.place ≡ Some f.query → Remembered at → AsAsked at
        → Lives at → (f.is_told at ≡ true) ⊎ Lands at
    -- an entry leaves all as it is, or tells, or is excused
    pub tells_or_stays :
        (r : ℕ) → at ≤ r → r < x.last → AsAsked r → AsAsked (suc r) → Lives (suc r)
        → f.is_told r ≡ true
        → ((f.is_told (suc r) ≡ true) × (f.answer (suc r) ≡ f.answer r))
        ⊎ (Lands (suc r) ⊎ Excused (suc r))
    -- where replies share the one wire: an own command that does not write the key leaves its
    -- answer, or the key is told of ahead of the reply
    pub before_the_reply :
        x.is_alone ≡ true → (r j i : ℕ) (ws : Words) (s : ℕ × Message) → at ≤ r → r < x.last
        → AsAsked r → f.is_told r ≡ true → slice_get (x.entries f.home) j ≡ Some (suc r)
        → slice_get (x.runs f.home) j ≡ Some ws → f.writes ws ≡ false
        → slice_get (x.sent f.home) i ≡ Some s → s.0 ≡ suc r
        → x.is_reply_sent f.home s.1 ≡ true
        → (f.answer (suc r) ≡ f.answer r)
        ⊎ ((t : ToldOn f.home (suc r)) × (t.place < i))

-- ---- the handshake

-- what the client's commands have made of its connections: from the fetch's run on, as far as the
-- history goes
pub record Handshake (last : ℕ) (AsAsked Remembered : ℕ → Type 0) (at : ℕ) : Type 0 where
  pub as_asked : (r : ℕ) → at ≤ r → r ≤ last → AsAsked r
  pub remembered : Remembered at
