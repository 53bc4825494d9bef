-- The laws of a log from what its single entries do, and the order of Runs from the order of
-- sending: for every form of log.
use Rattle.std.specs.Prelude.{◌≡◌, ◌<◌, ◌≤◌, ◌⊎◌, ◌++◌, ℕ, suc, List, [], ◌∷◌, length, Bool}
use Rattle.std.specs.Prelude.{Some, true, false, slice_get}
use Rattle.wire_currency.specs.Traffic.{In, Traffic, IsPrefix, Meets, SentLaws, replies}
use Rattle.wire_currency.specs.Fetch.{Fetch, LogLaws}

-- ---- single entries

-- none of the later entries ends the fetch
module _ {Log : Type 0} (ends : List Log → Log → Bool) where
  abbrev pub IsSpared : List Log → List Log → Type 0
  IsSpared sooner [] = Unit {0}
  IsSpared sooner (e ∷ later) = (ends (later ++ sooner) e ≡ false) × IsSpared sooner later

module _ {Wire Log Words Value Message Answer : Type 0}
    (x : Traffic Wire Log Words Value Message) (f : Fetch Wire Words Value Answer) where
  -- the fetch's wires are wires of the client
  pub record WiresOf : Type 0 where
    pub home_is : In f.home x.wires
    pub watched_in : (w : Wire) → In w f.watched → In w x.wires
    pub data_in : (w : Wire) → In w x.data_wires → In w x.wires
    pub alone : x.is_alone ≡ true → (w : Wire) → In w x.wires → w ≡ f.home
    pub home_watched : x.is_alone ≡ true → In f.home f.watched

  module _ (ends : List Log → Log → Bool) where
    -- a value that an entry got, which ends the fetch where it voids its key
    pub record GotOne (w : Wire) (log : List Log) (e : Log) : Type 0 where
      pub value : Value
      pub is : x.gots w (e ∷ log) ≡ x.gots w log ++ value ∷ []
      pub ended : f.voids w value ≡ true → ends log e ≡ true

    -- what an entry put on the fetch's wire, which ends the fetch where it writes its key
    pub record PutSome (log : List Log) (e : Log) : Type 0 where
      pub new : List Words
      pub is : x.commands f.home (e ∷ log) ≡ x.commands f.home log ++ new
      pub ended :
          (i : ℕ) (ws : Words) → slice_get new i ≡ Some ws → f.writes ws ≡ true
          → ends log e ≡ true

    -- what one entry does, in a legal log
    pub record StepLaws (Legal : List Log → Type 0) : Type 0 where
      pub older : (log : List Log) (e : Log) → Legal (e ∷ log) → Legal log
      pub got :
          (w : Wire) → In w x.wires → (log : List Log) (e : Log)
          → (x.gots w (e ∷ log) ≡ x.gots w log) ⊎ GotOne w log e
      pub put : (log : List Log) (e : Log) → Legal (e ∷ log) → PutSome log e
      pub overs :
          (w : Wire) → In w f.watched → (log : List Log) (e : Log) → x.over w (e ∷ log) ≡ true
          → (x.over w log ≡ true) ⊎ (ends log e ≡ true)
      pub commands_grow :
          (w : Wire) → In w x.data_wires → (log : List Log) (e : Log) → Legal (e ∷ log)
          → IsPrefix (x.commands w log) (x.commands w (e ∷ log))
      pub replies_counted :
          (w : Wire) → In w x.data_wires → (log : List Log)
          → x.replied w log ≡ length (replies x w log)
      pub replies_within :
          x.is_alone ≡ false → (w : Wire) → In w x.data_wires → (log : List Log) → Legal log
          → length (replies x w log) ≤ length (x.commands w log)
      -- on more wires than one a reply ends the fetch where its command names the key and stands
      -- behind the fetch or on another wire
      pub replied :
          x.is_alone ≡ false → (w : Wire) → In w x.data_wires → (log : List Log) (e : Log)
          → Legal (e ∷ log) → (j : ℕ) (ws : Words) → length (replies x w log) ≤ j
          → j < length (replies x w (e ∷ log)) → slice_get (x.commands w (e ∷ log)) j ≡ Some ws
          → f.names ws ≡ true → ((w ≡ f.home) × (j ≤ f.place)) ⊎ (ends log e ≡ true)

    -- how a fetch that is still open was sent
    pub record Opened (log : List Log) : Type 0 where
      pub sooner : List Log
      pub ask : Log
      pub later : List Log
      pub log_is : log ≡ later ++ ask ∷ sooner
      pub spared : IsSpared ends (ask ∷ sooner) later
      pub not_yet_sent : length (x.commands f.home sooner) ≤ f.place
      pub is_last : length (x.commands f.home (ask ∷ sooner)) ≤ suc f.place
      pub is_query : slice_get (x.commands f.home (ask ∷ sooner)) f.place ≡ Some f.query
      pub lives : (w : Wire) → In w f.watched → x.over w (ask ∷ sooner) ≡ false

-- ---- the laws

-- what an open fetch was sent by, and what single entries do, give the laws of the log
abbrev pub StepsGiveLaws : (Wire Log Words Value Message Answer : Type 0)
    → (List Log → Type 0) → Type 0
StepsGiveLaws Wire Log Words Value Message Answer Legal =
    (x : Traffic Wire Log Words Value Message) (f : Fetch Wire Words Value Answer)
    (ends : List Log → Log → Bool) (log : List Log)
    → WiresOf x f → StepLaws x f ends Legal → Legal log → Opened x f ends log → LogLaws x f log

-- where the command of a place was sent by an entry that had got the reply of that number on
-- another wire, or by a later one: the other command has run, before it
abbrev pub RunsInOrder : (Wire Log Words Value Message : Type 0)
    → (Value → Message → Type 0) → Type 0
RunsInOrder Wire Log Words Value Message IsGot =
    (x : Traffic Wire Log Words Value Message) (log : List Log)
    → Meets IsGot x log → SentLaws IsGot x → (w u : Wire) → In w x.wires → In u x.wires
    → (later sooner : List Log) (e : Log) → log ≡ later ++ e ∷ sooner
    → IsPrefix (x.gots w (e ∷ sooner)) (x.gots w log) → (place n r : ℕ)
    → length (x.commands u sooner) ≤ place → n < length (replies x w (e ∷ sooner))
    → slice_get (x.entries u) place ≡ Some r
    → (q : ℕ) × (slice_get (x.entries w) n ≡ Some q) × (q < r)
